-- The induction: where each kind of event keeps the invariant, it holds after each event of every steady history; and where it gives no loop and
-- one root, every steady history is safe.
use Rattle.std.specs.Prelude.{◌≡◌, ℕ, suc, ◌+◌, ◌≤◌, Bool, true, false, ◌||◌, List, [], ◌∷◌, length, filter, find, Option, Some, None, option_and_then, refl, if◌then◌else◌}
use Rattle.std.specs.List.{list_any}
use Rattle.std.proofs.Common.{arith, ◌∙◌, ap}
use Rattle.sd_num.specs.Lists.{map_or, same_number, follow}
use Rattle.sd_plan.specs.topo.Network.{device_numbers}
use Rattle.sd_device.specs.Calls as calls
use Rattle.sd_device.specs.Calls.{Nothing, Emitted, TookOver, Moved, Past}
use Rattle.sd_device.specs.Words.{transition_of, emits_at, takes_over_at, moves_at}
use Rattle.sd_sched.specs.declared.Event.{Event}
use Rattle.sd_sched.specs.declared.Event.TheVariants as event
use Rattle.sd_history.specs.World.{Setting}
use Rattle.sd_history.specs.Chronicle.{past_in, chronicle}
use Rattle.sd_history.specs.Lines.{counted_parent, is_on_loop}
use Rattle.sd_safety.specs.invariant.Invariant.{Core, Invariant, AtEach}
use Rattle.sd_safety.specs.invariant.Clauses.{just_closed}
use Rattle.sd_safety.specs.invariant.Coming.{IsNextEvent}
use Rattle.sd_safety.specs.invariant.Kept.{Keeps, transition_of_tick, EachKeeps, StaysInvariant, IsSafe, InvariantIsSafe, AlwaysSafe}
use Rattle.sd_safety.proofs.invariant.Prefix.{clean_before}
use Rattle.sd_safety.proofs.invariant.Following.{invariant_of}

module _ {setting : Setting} (keeps : EachKeeps setting) where
  tick_by : (r d c : ℕ) (history : List Event) → IsNextEvent setting history (event.Tick r d c) → (a b m : Bool)
      → transition_of_tick (chronicle setting history) d c ≡ (if a then Emitted else if b then TookOver else if m then Moved else Nothing)
      → Core setting (chronicle setting (event.Tick r d c ∷ history))
  tick_by r d c history comes true b m is = keeps.tick_emits r d c history comes is
  tick_by r d c history comes false true m is = keeps.tick_takes_over r d c history comes is
  tick_by r d c history comes false false true is = keeps.tick_moves r d c history comes is
  tick_by r d c history comes false false false is = keeps.tick_quiet r d c history comes is

  tick_of : (r d c : ℕ) (history : List Event) → IsNextEvent setting history (event.Tick r d c) → (p : Option Past) → past_in (chronicle setting history) d ≡ p
      → Core setting (chronicle setting (event.Tick r d c ∷ history))
  tick_of r d c history comes None is = keeps.tick_quiet r d c history comes (ap (λ p. map_or p Nothing (λ past. transition_of past (calls.Tick c))) is)
  tick_of r d c history comes (Some past) is =
      tick_by r d c history comes (emits_at past c) (takes_over_at past c) (moves_at past c)
      (ap (λ p. map_or p Nothing (λ past. transition_of past (calls.Tick c))) is)

  seal_by : (r d : ℕ) (history : List Event) → IsNextEvent setting history (event.Seal r d) → (b : Bool)
      → just_closed (chronicle setting (event.Seal r d ∷ history)) ≡ b
      → Core setting (chronicle setting (event.Seal r d ∷ history))
  seal_by r d history comes true is = keeps.seal_closes r d history comes is
  seal_by r d history comes false is = keeps.seal r d history comes is

  pub each_event : (e : Event) → Keeps setting e
  each_event (event.Start r d c clock eps) = keeps.start r d c clock eps
  each_event (event.Tick r d c) = λ history comes. tick_of r d c history comes (past_in (chronicle setting history) d) refl
  each_event (event.Recv r d c message) = keeps.receive r d c message
  each_event (event.Lose r message) = keeps.lose r message
  each_event (event.FailDevice r d) = keeps.fail_device r d
  each_event (event.FailLink r l) = keeps.fail_link r l
  each_event (event.Fix r d c clock eps) = keeps.fix r d c clock eps
  each_event (event.Ask r d c) = keeps.ask r d c
  each_event (event.Stage r) = keeps.stage r
  each_event (event.Give r d) = keeps.give r d
  each_event (event.Commit r d c) = keeps.commit r d c
  each_event (event.Seal r d) = λ history comes. seal_by r d history comes (just_closed (chronicle setting (event.Seal r d ∷ history))) refl
  each_event (event.Join r d c clock eps) = keeps.join r d c clock eps
  each_event (event.MendDevice r d) = keeps.mend_device r d
  each_event (event.MendLink r l) = keeps.mend_link r l
  each_event (event.End r) = keeps.ends r

  pub stays_invariant : StaysInvariant setting
  stays_invariant [] fair clean = tt
  stays_invariant (e ∷ earlier) fair clean =
      let before : AtEach (Invariant setting) (chronicle setting earlier) = stays_invariant earlier fair (clean_before setting e earlier clean) in
      (before, invariant_of setting e earlier fair clean (each_event e earlier (record { fair = fair; clean = clean; before = before })))

-- Nothing is unsafe before the first event.

none_follows : (setting : Setting) (n d : ℕ) → follow (counted_parent setting []) (suc n) d ≡ None
none_follows setting n d = by_step (follow (counted_parent setting []) n d)
  where
    by_step : (o : Option ℕ) → option_and_then (counted_parent setting []) o ≡ None
    by_step None = refl
    by_step (Some x) = refl

no_loop_yet : (setting : Setting) (d : ℕ) (ns : List ℕ) → list_any (λ n. same_number (follow (counted_parent setting []) (n + 1) d) d) ns ≡ false
no_loop_yet setting d [] = refl
no_loop_yet setting d (n ∷ ns) =
    let next : n + 1 ≡ suc n = omega arith in
    let none : follow (counted_parent setting []) (n + 1) d ≡ None = ap (λ k. follow (counted_parent setting []) k d) next ∙ none_follows setting n d in
    ap (λ o. same_number o d || list_any (λ n. same_number (follow (counted_parent setting []) (n + 1) d) d) ns) none ∙ no_loop_yet setting d ns

pub found_none : (p : ℕ → Bool) (ds : List ℕ) → ((d : ℕ) → p d ≡ false) → find p ds ≡ None
found_none p [] none = refl
found_none p (d ∷ ds) none = ap (λ b. if b then Some d else find p ds) (none d) ∙ found_none p ds none

none_left : (ds : List ℕ) → length (filter (λ d. false) ds) ≤ 1
none_left [] = omega arith
none_left (d ∷ ds) = none_left ds

safe_yet : (setting : Setting) → IsSafe setting []
safe_yet setting =
    record {
      loop = found_none (is_on_loop setting []) (device_numbers setting.net) (λ d. no_loop_yet setting d (device_numbers setting.net));
      root = none_left (device_numbers setting.net);
    }

pub always_safe : {setting : Setting} → EachKeeps setting → InvariantIsSafe setting → AlwaysSafe setting
always_safe {setting} keeps safe [] fair clean = safe_yet setting
always_safe {setting} keeps safe (e ∷ earlier) fair clean = safe e earlier fair clean (stays_invariant keeps (e ∷ earlier) fair clean).1
