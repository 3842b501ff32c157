-- Steps that are moved by the number of the life of their device: its past is moved by that number.
use Rattle.std.specs.Prelude.{◌≡◌, ℕ, ◌+◌, Bool, true, false, ◌||◌, List, [], ◌∷◌, count_by, nat_eq, Option, Some, None, option_map, refl, if◌then◌else◌}
use Rattle.std.proofs.Common.{arith, sym, ◌∙◌, ap, cond, eqb-true, eq-eqb}
use Rattle.std.proofs.lemmas.List.Sums.{sum_by-cons}
use Rattle.sd_num.specs.Lists.{map_or, same_number}
use Rattle.sd_plan.specs.declared.Plan.{Plan}
use Rattle.sd_plan.specs.Duties.{duty_of}
use Rattle.sd_device.specs.declared.msg.Flight.{Flight}
use Rattle.sd_device.specs.Calls as calls
use Rattle.sd_device.specs.Calls.{Past}
use Rattle.sd_device.specs.Words.{after}
use Rattle.sd_sched.specs.declared.Event.{Event}
use Rattle.sd_sched.specs.declared.Event.TheVariants as event
use Rattle.sd_sched.specs.Events.{device_of}
use Rattle.sd_history.specs.World.{Setting, makes, staged, staged_epoch}
use Rattle.sd_history.specs.Steps.{Act, Makes, Calls, Asks, Passes, Step, seen_of, flight_numbered, act_by}
use Rattle.sd_history.specs.Nodes.{addressed}
use Rattle.sd_history.specs.Chronicle.{new_past, past_after, past_in}
use Rattle.sd_beside.specs.translation.Moves.{moved_making, moved_call, moved_act}
use Rattle.sd_beside.proofs.translation.Pasts.{moved_past, after_moved}
use Rattle.sd_beside.proofs.translation.Views.{Marked, plain, moved}

-- how often the device was made
abbrev pub life_in : List Marked → ℕ → ℕ
life_in xs d = count_by (λ x. makes d x.step.seen.event) xs

-- the device that an act makes
abbrev pub made_in : Act → Option ℕ
made_in (Makes d making) = Some d
made_in _ = None

-- what calls or asks a device makes none
pub makes_none : (act : Act) (d : ℕ) → addressed act ≡ Some d → same_number (made_in act) d ≡ false
makes_none (Makes e making) d is = cc
makes_none _ d is = refl

-- The act of a step is of the device that its event names, and makes it where the event does.
pub record IsOf (e : Event) (act : Act) : Type 0 where
  pub made : (d : ℕ) → makes d e ≡ same_number (made_in act) d
  pub called : (d : ℕ) → addressed act ≡ Some d → same_number (device_of e) d ≡ true
  pub maker : (d : ℕ) → same_number (made_in act) d ≡ true → same_number (device_of e) d ≡ true

-- a step is moved by the number of the life of its device
pub record IsOfLife (by : ℕ → ℕ → ℕ) (x : Marked) (earlier : List Marked) : Type 0 where
  pub number : (d : ℕ) → same_number (device_of x.step.seen.event) d ≡ true → x.by ≡ by d (life_in (x ∷ earlier) d)
  pub act : IsOf x.step.seen.event x.step.act

abbrev pub AreOfLives : (ℕ → ℕ → ℕ) → List Marked → Type 0
AreOfLives by [] = Unit {0}
AreOfLives by (x ∷ earlier) = AreOfLives by earlier × IsOfLife by x earlier

-- an event that does not make the device keeps its life
pub life_kept : (x : Marked) (earlier : List Marked) (d : ℕ) → makes d x.step.seen.event ≡ false → life_in (x ∷ earlier) d ≡ life_in earlier d
life_kept x earlier d unmade =
    sum_by-cons (λ (y : Marked). cond (makes d y.step.seen.event) 1 0) x earlier ∙ ap (λ b. cond b 1 0 + life_in earlier d) unmade ∙ nothing (life_in earlier d)
  where
    nothing : (n : ℕ) → 0 + n ≡ n
    nothing n = omega arith

-- What acts are of

passes_of : (e : Event) → ((d : ℕ) → makes d e ≡ false) → IsOf e Passes
passes_of e unmade = record { made = unmade; called = λ d is. cc; maker = λ d is. cc }

calls_of : (e : Event) (device : ℕ) (call : calls.Call) → ((d : ℕ) → makes d e ≡ false) → device_of e ≡ Some device → IsOf e (Calls device call)
calls_of e device call unmade named = record { made = unmade; called = λ d is. ap (λ o. same_number o d) (named ∙ is) ∙ eq-eqb d d refl; maker = λ d is. cc }

makes_of : (e : Event) (device : ℕ) (making : calls.Making) → ((d : ℕ) → makes d e ≡ nat_eq device d) → device_of e ≡ Some device → IsOf e (Makes device making)
makes_of e device making made named = record { made = made; called = λ d is. cc; maker = λ d is. ap (λ o. same_number o d) named ∙ is }

pub act_is_of : (setting : Setting) (steps : List Step) (e : Event) → IsOf e (act_by setting steps e)
act_is_of setting steps (event.Start reference device counter clock eps) = makes_of _ device _ (λ d. alone (nat_eq device d)) refl
  where
    alone : (b : Bool) → (b || false) ≡ b
    alone true = refl
    alone false = refl
act_is_of setting steps (event.Join reference device counter clock eps) = makes_of _ device _ (λ d. refl) refl
act_is_of setting steps (event.Tick reference device counter) = calls_of _ device _ (λ d. refl) refl
act_is_of setting steps (event.Recv reference device counter message) = go (flight_numbered steps message)
  where
    go : (o : Option Flight)
        → IsOf (event.Recv reference device counter message) (map_or o Passes (λ f. Calls device (calls.Receive f.link f.message counter)))
    go None = passes_of _ (λ d. refl)
    go (Some f) = calls_of _ device _ (λ d. refl) refl
act_is_of setting steps (event.Fix reference device counter clock eps) = calls_of _ device _ (λ d. refl) refl
act_is_of setting steps (event.Give reference device) = go (staged setting (seen_of steps))
  where
    go : (o : Option Plan)
        → IsOf (event.Give reference device)
        (map_or o Passes (λ plan. Calls device (calls.Give (duty_of setting.net plan (staged_epoch (seen_of steps)) device))))
    go None = passes_of _ (λ d. refl)
    go (Some plan) = calls_of _ device _ (λ d. refl) refl
act_is_of setting steps (event.Commit reference device counter) = calls_of _ device _ (λ d. refl) refl
act_is_of setting steps (event.Seal reference device) = calls_of _ device _ (λ d. refl) refl
act_is_of setting steps (event.Ask reference device counter) = record { made = λ d. refl; called = λ d is. ap (λ o. same_number o d) is ∙ eq-eqb d d refl; maker = λ d is. cc }
act_is_of setting steps _ = passes_of _ (λ d. refl)

-- The past of each device

pub past_moved : (time : ℕ) (by : ℕ → ℕ → ℕ) (xs : List Marked) → AreOfLives by xs → (d : ℕ)
    → past_in (moved time xs) d ≡ option_map (moved_past time (by d (life_in xs d))) (past_in (plain xs) d)
past_moved time by [] lives d = refl
past_moved time by (x ∷ earlier) lives d =
    ap (past_after (moved_act time x.by x.step.act) d) (past_moved time by earlier lives.0 d)
    ∙ go x.step.act (lives.1.act.made d) lives.1.act.called lives.1.act.maker (past_in (plain earlier) d)
  where
    number : (d : ℕ) → same_number (device_of x.step.seen.event) d ≡ true → x.by ≡ by d (life_in (x ∷ earlier) d)
    number = lives.1.number

    -- the life is the one of before
    kept : makes d x.step.seen.event ≡ false → by d (life_in earlier d) ≡ by d (life_in (x ∷ earlier) d)
    kept unmade = ap (by d) (sym (life_kept x earlier d unmade))

    go : (act : Act) → makes d x.step.seen.event ≡ same_number (made_in act) d
        → ((e : ℕ) → addressed act ≡ Some e → same_number (device_of x.step.seen.event) e ≡ true)
        → ((e : ℕ) → same_number (made_in act) e ≡ true → same_number (device_of x.step.seen.event) e ≡ true) → (before : Option Past)
        → past_after (moved_act time x.by act) d (option_map (moved_past time (by d (life_in earlier d))) before)
        ≡ option_map (moved_past time (by d (life_in (x ∷ earlier) d))) (past_after act d before)
    go (Makes e making) made called maker before = made_or_not (nat_eq e d) refl
      where
        made_or_not : (b : Bool) → nat_eq e d ≡ b
            → (if b then Some (new_past (moved_making time x.by making)) else option_map (moved_past time (by d (life_in earlier d))) before)
            ≡ option_map (moved_past time (by d (life_in (x ∷ earlier) d))) (if b then Some (new_past making) else before)
        made_or_not true is = ap (λ k. Some (new_past (moved_making time k making))) (number d (maker d is))
        made_or_not false is = ap (λ k. option_map (moved_past time k) before) (kept (made ∙ is))
    go (Calls e call) made called maker before = called_or_not (nat_eq e d) refl before
      where
        called_or_not : (b : Bool) → nat_eq e d ≡ b → (o : Option Past)
            → (if b then option_map (λ past. after past (moved_call time x.by call)) (option_map (moved_past time (by d (life_in earlier d))) o)
            else option_map (moved_past time (by d (life_in earlier d))) o)
            ≡ option_map (moved_past time (by d (life_in (x ∷ earlier) d))) (if b then option_map (λ past. after past call) o else o)
        called_or_not true is None = refl
        called_or_not true is (Some past) =
            (λ i. Some (after (moved_past time (kept made i) past) (moved_call time (number d (called d (ap Some (eqb-true e d is))) i) call)))
            ∙ ap Some (after_moved time (by d (life_in (x ∷ earlier) d)) past call)
        called_or_not false is o = ap (λ k. option_map (moved_past time k) o) (kept made)
    go (Asks e counter) made called maker before = ap (λ k. option_map (moved_past time k) before) (kept made)
    go Passes made called maker before = ap (λ k. option_map (moved_past time k) before) (kept made)
