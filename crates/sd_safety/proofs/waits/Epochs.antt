-- The number of a duty's plan is at least 1, and at most that of the staged plan. By induction on the history.
use Rattle.std.specs.Prelude.{◌≡◌, ℕ, ◌+◌, ◌≤◌, List, [], ◌∷◌, cond, count_by, Option, Some, None, option_map}
use Rattle.std.proofs.Common.{arith, sym, subst}
use Rattle.std.proofs.lemmas.List.Sums.{sum_by-cons}
use Rattle.sd_num.specs.Lists.{map_or}
use Rattle.sd_plan.specs.declared.Duty.{Duty}
use Rattle.sd_plan.specs.Duties.{duty_of}
use Rattle.sd_device.specs.declared.msg.Flight.{Flight}
use Rattle.sd_device.specs.Calls as calls
use Rattle.sd_device.specs.Calls.{Past}
use Rattle.sd_device.specs.Words.{duty_now}
use Rattle.sd_sched.specs.declared.Event.{Event}
use Rattle.sd_sched.specs.declared.Event.TheVariants as event
use Rattle.sd_history.specs.World.{Setting, Seen, window, staged_epoch, plan_numbered}
use Rattle.sd_history.specs.Steps.{Calls, Passes, Step, seen_of, act_by, flight_numbered}
use Rattle.sd_history.specs.Chronicle.{past_in, chronicle, next_step}
use Rattle.sd_history.proofs.Given.{some_is}
use Rattle.sd_safety.specs.invariant.Eras.{era}
use Rattle.sd_safety.specs.timers.Times.{gives_duty}
use Rattle.sd_safety.proofs.timers.Periods.{EachGives, duties_in}

-- its number is from 1 to n + 1
abbrev pub IsNumbered : ℕ → Duty → Type 0
IsNumbered n duty = (1 ≤ duty.epoch) × (duty.epoch ≤ n + 1)

-- eras do not fall
pub era_rises : (s : Step) (steps : List Step) → era steps ≤ era (s ∷ steps)
era_rises s steps =
    subst (λ n. era steps ≤ n + 1) (sym (sum_by-cons (λ (x : Seen). cond x.closed 1 0) s.seen (seen_of steps)))
    (more (cond s.seen.closed 1 0) (count_by (λ (x : Seen). x.closed) (seen_of steps)))
  where
    more : (a n : ℕ) → n + 1 ≤ a + n + 1
    more a n = omega arith

module _ (setting : Setting) (n : ℕ) where
  given_numbered : (steps : List Step) (m : ℕ) (w : Option (List Seen)) → era steps ≤ n → (duty : Duty)
      → gives_duty
      (map_or (option_map (λ v. plan_numbered setting (staged_epoch (seen_of steps))) w) Passes
      (λ plan. Calls m (calls.Give (duty_of setting.net plan (staged_epoch (seen_of steps)) m)))) ≡ Some duty → IsNumbered n duty
  given_numbered steps m None le duty same = cc
  given_numbered steps m (Some v) le duty same = subst (IsNumbered n) (some_is same) (one (count_by (λ (x : Seen). x.closed) (seen_of steps)) n le)
    where
      one : (k m : ℕ) → k + 1 ≤ m → (1 ≤ k + 1 + 1) × (k + 1 + 1 ≤ m + 1)
      one k m le = (omega arith, omega (arith, le))

  received_numbered : (m c : ℕ) (o : Option Flight) (duty : Duty) → gives_duty (map_or o Passes (λ f. Calls m (calls.Receive f.link f.message c))) ≡ Some duty
      → IsNumbered n duty
  received_numbered m c None duty same = cc
  received_numbered m c (Some f) duty same = cc

  act_numbered : (steps : List Step) → era steps ≤ n → (e : Event) (duty : Duty) → gives_duty (act_by setting steps e) ≡ Some duty → IsNumbered n duty
  act_numbered steps le (event.Start r m c clock eps) duty same =
      subst (IsNumbered n) (some_is same) (one (count_by (λ (x : Seen). x.closed) (seen_of steps)) n le)
    where
      one : (k m : ℕ) → k + 1 ≤ m → (1 ≤ k + 1) × (k + 1 ≤ m + 1)
      one k m le = (omega arith, omega (arith, le))
  act_numbered steps le (event.Recv r m c i) duty same = received_numbered m c (flight_numbered steps i) duty same
  act_numbered steps le (event.Give r m) duty same = given_numbered steps m (window (seen_of steps)) le duty same
  act_numbered steps le _ duty same = cc

  each_numbered : (history : List Event) → era (chronicle setting history) ≤ n → EachGives (IsNumbered n) (chronicle setting history)
  each_numbered [] le = tt
  each_numbered (e ∷ earlier) le =
      let before : era (chronicle setting earlier) ≤ n =
      on (era (chronicle setting earlier)) (era (chronicle setting (e ∷ earlier))) n
      (era_rises (next_step setting (chronicle setting earlier) e) (chronicle setting earlier)) le in
      (each_numbered earlier before, act_numbered (chronicle setting earlier) before e)
    where
      on : (a b m : ℕ) → a ≤ b → b ≤ m → a ≤ m
      on a b m x y = omega (arith, x, y)

-- the duty of a device is of a plan up to the staged one
pub duty_numbered : (setting : Setting) (history : List Event) (d : ℕ) (past : Past) → past_in (chronicle setting history) d ≡ Some past → (duty : Duty)
    → duty_now past ≡ Some duty → IsNumbered (era (chronicle setting history)) duty
duty_numbered setting history d past is duty has =
    (duties_in (IsNumbered (era (chronicle setting history))) (chronicle setting history)
    (each_numbered setting (era (chronicle setting history)) history (omega arith)) d past is).duty duty has
