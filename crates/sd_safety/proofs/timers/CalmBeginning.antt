-- Calm beginning: no device moves, takes over or emits before Low of its wait or period has passed since the first event, since what it counts from is no
-- earlier. By induction on the steps.
use Rattle.std.specs.Prelude.{◌≡◌, ℕ, ◌-◌, ◌≤◌, Bool, true, false, List, [], ◌∷◌, nat_eq, Option, Some, None, option_map, refl, if◌then◌else◌}
use Rattle.std.proofs.Common.{arith}
use Rattle.sd_num.specs.Lists.{map_or}
use Rattle.sd_num.specs.Numbers.{low}
use Rattle.sd_plan.specs.topo.Network.{rates_of}
use Rattle.sd_plan.specs.declared.Duty.{Duty}
use Rattle.sd_device.specs.Calls.{CallDone, Past}
use Rattle.sd_device.specs.Words.{after, duty_now, emits, emits_at}
use Rattle.sd_sched.specs.Events.{reference_of}
use Rattle.sd_history.specs.World.{Setting}
use Rattle.sd_history.specs.Steps.{Act, Makes, Calls, Asks, Passes, Step, seen_of}
use Rattle.sd_history.specs.Chronicle.{past_in, past_after, new_past}
use Rattle.sd_history.specs.Premises.{first_reference}
use Rattle.sd_safety.specs.timers.Times.{AreTimed, did_by, hears, reference_after, reference_by, heard_in, sent_in}
use Rattle.sd_safety.proofs.timers.NotEarly.{IsTick, Waited, move_not_early, emission_not_early}

-- the first event is no later than the latest
pub first_within : (setting : Setting) (s : Step) (earlier : List Step) → AreTimed setting (s ∷ earlier)
    → first_reference (seen_of earlier) s.seen ≤ reference_of s.seen.event
first_within setting s [] timed = omega arith
first_within setting s (x ∷ earlier) timed =
    let rest : first_reference (seen_of earlier) x.seen ≤ reference_of x.seen.event = first_within setting x earlier timed.0 in
    let on : reference_of x.seen.event ≤ reference_of s.seen.event = timed.1.goes_on in
    omega (arith, rest, on)

told_since : (o : Option ℕ) (a before r : ℕ) → a ≤ before → a ≤ r → a ≤ map_or o before (λ c. r)
told_since None a before r x y = x
told_since (Some c) a before r x y = y

since_act : (f : CallDone → Option ℕ) (act : Act) (d a r before : ℕ) (p : Option Past) → ((x : Past) → p ≡ Some x → a ≤ before) → a ≤ r → (past : Past)
    → past_after act d p ≡ Some past → a ≤ reference_after f r act d p before
since_act f (Makes m making) d a r before p each le past same = go (nat_eq m d) same
  where
    go : (b : Bool) → (if b then Some (new_past making) else p) ≡ Some past → a ≤ (if b then r else before)
    go true h = le
    go false h = each past h
since_act f (Calls m call) d a r before p each le past same = go (nat_eq m d) p each same
  where
    go : (b : Bool) (q : Option Past) → ((x : Past) → q ≡ Some x → a ≤ before) → (if b then option_map (λ x. after x call) q else q) ≡ Some past
        → a ≤ (if b then map_or q before (λ y. map_or (f (did_by y call)) before (λ c. r)) else before)
    go true None each' h = cc
    go true (Some y) each' h = told_since (f (did_by y call)) a before r (each' y refl) le
    go false q each' h = each' past h
since_act f (Asks m counter) d a r before p each le past same = each past same
since_act f Passes d a r before p each le past same = each past same

-- whatever a device counts from is no earlier than the first event
pub counts_from_first : (f : CallDone → Option ℕ) (setting : Setting) (s : Step) (earlier : List Step) → AreTimed setting (s ∷ earlier) → (d : ℕ) (past : Past)
    → past_in (s ∷ earlier) d ≡ Some past
    → first_reference (seen_of earlier) s.seen ≤ reference_by f (s ∷ earlier) d
counts_from_first f setting s [] timed d past is =
    since_act f s.act d (reference_of s.seen.event) (reference_of s.seen.event) 0 None (λ x same. cc) (omega arith) past is
counts_from_first f setting s (x ∷ earlier) timed d past is =
    since_act f s.act d (first_reference (seen_of earlier) x.seen) (reference_of s.seen.event) (reference_by f (x ∷ earlier) d) (past_in (x ∷ earlier) d)
    (λ y same. counts_from_first f setting x earlier timed.0 d y same) (first_within setting s (x ∷ earlier) timed) past is

module _ (setting : Setting) (s x : Step) (earlier : List Step) (d c : ℕ) (past : Past) (ppm : (rates_of setting.net d).ppm ≤ 1000000)
    (tick : IsTick setting s (x ∷ earlier) d c past) where
  pub calm_move : (duty : Duty) (wait : ℕ) → Waited past c duty wait
      → low (rates_of setting.net d) wait ≤ reference_of s.seen.event - first_reference (seen_of earlier) x.seen
  calm_move duty wait w =
      let apart : low (rates_of setting.net d) wait ≤ reference_of s.seen.event - heard_in (x ∷ earlier) d =
      move_not_early setting s (x ∷ earlier) d c past ppm tick duty wait w in
      let since : first_reference (seen_of earlier) x.seen ≤ heard_in (x ∷ earlier) d =
      counts_from_first hears setting x earlier tick.before d past tick.there in
      omega (arith, apart, since)

  pub calm_emission : (duty : Duty) → duty_now past ≡ Some duty → emits_at past c ≡ true
      → low (rates_of setting.net d) duty.period ≤ reference_of s.seen.event - first_reference (seen_of earlier) x.seen
  calm_emission duty has sends =
      let apart : low (rates_of setting.net d) duty.period ≤ reference_of s.seen.event - sent_in (x ∷ earlier) d =
      emission_not_early setting s (x ∷ earlier) d c past ppm tick duty has sends in
      let since : first_reference (seen_of earlier) x.seen ≤ sent_in (x ∷ earlier) d =
      counts_from_first emits setting x earlier tick.before d past tick.there in
      omega (arith, apart, since)
