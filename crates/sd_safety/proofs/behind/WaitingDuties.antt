-- What duties wait to be taken up: none at a device that is new, and at a device of the plan in force only one of the staged plan. By induction on the history:
-- a give comes before the commit, and brings the staged duty; at a closing each device of the plan has entered it.
use Rattle.std.specs.Prelude.{◌≡◌, ℕ, Bool, true, false, List, nat_eq, Option, Some, None, is_some, option_map, refl, if◌then◌else◌}
use Rattle.std.proofs.Common.{◌∙◌, ap, sym, subst}
use Rattle.std.proofs.lemmas.Bool.{eqb-true}
use Rattle.sd_num.specs.Lists.{map_or}
use Rattle.sd_plan.specs.declared.Plan.{Plan}
use Rattle.sd_plan.specs.declared.Duty.{Duty}
use Rattle.sd_plan.specs.Duties.{duty_of}
use Rattle.sd_device.specs.declared.msg.Flight.{Flight}
use Rattle.sd_device.specs.Calls as calls
use Rattle.sd_device.specs.Calls.{Call, Tick, Receive, Fix, Give, Commit, Seal, Past}
use Rattle.sd_device.specs.Words.{after, transition_of, duty_now, given_now, taken_up, duty_given}
use Rattle.sd_sched.specs.declared.Event.{Event}
use Rattle.sd_sched.specs.declared.Event.TheVariants as event
use Rattle.sd_sched.specs.Events.{given}
use Rattle.sd_history.specs.World.{Setting, staged, staged_epoch}
use Rattle.sd_history.specs.Steps.{Act, Makes, Calls, Asks, Passes, Step, seen_of, act_by, flight_numbered}
use Rattle.sd_history.specs.Chronicle.{past_in, past_after, new_past}
use Rattle.sd_history.proofs.Given.{some_is}
use Rattle.sd_safety.specs.timers.Times.{makes_device}

-- a give brings the duty of the staged plan
give_of : (setting : Setting) (steps : List Step) (m d : ℕ) (duty : Duty) (o : Option Plan)
    → map_or o Passes (λ plan. Calls m (calls.Give (duty_of setting.net plan (staged_epoch (seen_of steps)) m))) ≡ Calls d (Give duty)
    → duty.epoch ≡ staged_epoch (seen_of steps)
give_of setting steps m d duty None same = cc
give_of setting steps m d duty (Some plan) same = sym (ap epoch_of same)
  where
    of_call : Call → ℕ
    of_call (Give u) = u.epoch
    of_call _ = 0

    epoch_of : Act → ℕ
    epoch_of (Calls n call) = of_call call
    epoch_of _ = 0

receive_gives_not : (m d c : ℕ) (duty : Duty) (o : Option Flight) → map_or o Passes (λ f. Calls m (calls.Receive f.link f.message c)) ≡ Calls d (Give duty) → ⊥
receive_gives_not m d c duty None same = cc
receive_gives_not m d c duty (Some f) same = cc

pub record IsGive (setting : Setting) (steps : List Step) (e : Event) (duty : Duty) : Type 0 where
  pub epoch : duty.epoch ≡ staged_epoch (seen_of steps)
  pub gives : is_some (given e) ≡ true

pub is_give : (setting : Setting) (steps : List Step) (e : Event) (d : ℕ) (duty : Duty) → act_by setting steps e ≡ Calls d (Give duty)
    → IsGive setting steps e duty
is_give setting steps (event.Recv r m c message) d duty same = absurd (receive_gives_not m d c duty (flight_numbered steps message) same)
is_give setting steps (event.Give r m) d duty same = record { epoch = give_of setting steps m d duty (staged setting (seen_of steps)) same; gives = refl }
is_give setting steps _ d duty same = cc

-- One step

given_after : (old : Past) (call : Call) (t : Option Duty) → taken_up (transition_of old call) ≡ t
    → given_now (after old call) ≡ (if is_some t then None else map_or (option_map Some (duty_given call)) (given_now old) (λ told. told))
given_after old call None is = rw (is) refl
given_after old call (Some duty) is = rw (is) refl

duty_kept : (old : Past) (call : Call) → taken_up (transition_of old call) ≡ None → duty_now (after old call) ≡ duty_now old
duty_kept old call none = ap (λ o. map_or (option_map Some o) (duty_now old) (λ told. told)) none

pub data GivenCourse (steps : List Step) (act : Act) (d : ℕ) (past : Past) : Type 0 where
  fresh : given_now past ≡ None → GivenCourse steps act d past
  kept : (old : Past) → past_in steps d ≡ Some old → makes_device act d ≡ false → given_now past ≡ given_now old → duty_now past ≡ duty_now old
      → GivenCourse steps act d past
  gave : (old : Past) (duty : Duty) → past_in steps d ≡ Some old → act ≡ Calls d (Give duty) → given_now past ≡ Some duty → duty_now past ≡ duty_now old
      → GivenCourse steps act d past

by_given : (steps : List Step) (call : Call) (d : ℕ) (old : Past) → past_in steps d ≡ Some old → (g : Option Duty) → duty_given call ≡ g
    → taken_up (transition_of old call) ≡ None → GivenCourse steps (Calls d call) d (after old call)
by_given steps call d old there None is none =
    kept old there refl (given_after old call None none ∙ ap (λ o. map_or (option_map Some o) (given_now old) (λ told. told)) is) (duty_kept old call none)
by_given steps (Give duty) d old there (Some u) is none = gave old duty there refl (given_after old (Give duty) None none) (duty_kept old (Give duty) none)
by_given steps (Tick c) d old there (Some u) is none = cc
by_given steps (Receive link message c) d old there (Some u) is none = cc
by_given steps (Fix c clock eps) d old there (Some u) is none = cc
by_given steps (Commit c) d old there (Some u) is none = cc
by_given steps Seal d old there (Some u) is none = cc

by_taken : (steps : List Step) (call : Call) (d : ℕ) (old : Past) → past_in steps d ≡ Some old → (t : Option Duty) → taken_up (transition_of old call) ≡ t
    → GivenCourse steps (Calls d call) d (after old call)
by_taken steps call d old there None is = by_given steps call d old there (duty_given call) refl is
by_taken steps call d old there (Some duty) is = fresh (given_after old call (Some duty) is)

pub given_course : (steps : List Step) (act : Act) (d : ℕ) (past : Past) → past_after act d (past_in steps d) ≡ Some past → GivenCourse steps act d past
given_course steps (Makes m making) d past is = go (nat_eq m d) refl is
  where
    go : (c : Bool) → nat_eq m d ≡ c → (if c then Some (new_past making) else past_in steps d) ≡ Some past → GivenCourse steps (Makes m making) d past
    go true id same = subst (λ q. GivenCourse steps (Makes m making) d q) (some_is same) (fresh refl)
    go false id same = kept past same id refl refl
given_course steps (Calls m call) d past is = go (nat_eq m d) refl is
  where
    here : (q : Option Past) → past_in steps d ≡ q → m ≡ d → option_map (λ old. after old call) q ≡ Some past → GivenCourse steps (Calls m call) d past
    here None there id same = cc
    here (Some old) there id same =
        subst (λ q. GivenCourse steps (Calls m call) d q) (some_is same)
        (subst (λ z. GivenCourse steps (Calls z call) d (after old call)) (sym id)
        (by_taken steps call d old there (taken_up (transition_of old call)) refl))

    go : (c : Bool) → nat_eq m d ≡ c → (if c then option_map (λ old. after old call) (past_in steps d) else past_in steps d) ≡ Some past
        → GivenCourse steps (Calls m call) d past
    go true id same = here (past_in steps d) refl (eqb-true m d id) same
    go false id same = kept past same refl refl refl
given_course steps (Asks m counter) d past is = kept past is refl refl refl
given_course steps Passes d past is = kept past is refl refl refl
