-- What is kept stands for one event more.
use Rattle.std.proofs.Common.{◌≡◌, ℕ, ◌<◌, Bool, true, false, cond, ◌&&◌, List, ◌∷◌, length, Option, nat_eq, ◌⊎◌, inl, inr, refl, sym, ◌∙◌, ap, subst, arith}
use Rattle.std.proofs.lemmas.Bool.{both_ways, true_from_ne_false, leb-false, lt-ltb, and_parts, eqb-true}
use Rattle.sd_num.specs.Lists.{map_or}
use Rattle.sd_num.proofs.Shared.{same_from_both, and_true}
use Rattle.sd_plan.specs.declared.topo.Thing.{Thing}
use Rattle.sd_plan.specs.declared.topo.Thing.TheVariants as thing
use Rattle.sd_plan.specs.domain.Things.{same_thing}
use Rattle.sd_monitors.specs.declared.loss.flights.WaitingFlight.{WaitingFlight}
use Rattle.sd_sched.specs.declared.Event.{Event}
use Rattle.sd_sched.specs.declared.Event.TheVariants.{FailDevice, FailLink}
use Rattle.sd_sched.specs.Events.{reference_of}
use Rattle.sd_history.specs.Things.{failure_of}
use Rattle.sd_history.specs.World.{Setting, Seen, fails}
use Rattle.sd_history.specs.Refusals.{unknown_device, unknown_link}
use Rattle.sd_history.specs.Premises.{loss_holds, is_round}
use Rattle.sd_history.specs.Rounds.{is_spoiled}
use Rattle.sd_monitors.specs.declared.loss.flights.interruptions.Interruptions.{Interruptions}
use Rattle.sd_monitors.specs.loss.rounds.Order.{last_sent, Follows, IsInOrder}
use Rattle.sd_monitors.specs.loss.flights.Interrupted.{is_interrupted}
use Rattle.sd_monitors.specs.loss.flights.Runs.{HasLongRun}
use Rattle.sd_monitors.specs.loss.rounds.Loss.{AreWaiting, mark_in, IsLost, HasOnlyLost, AddsLost}
use Rattle.sd_monitors.specs.loss.flights.InterruptionsView.{mark_of, last_number, device_places, link_places, has_place}
use Rattle.sd_monitors.proofs.loss.rounds.InOrder.{device_known, link_known}
use Rattle.sd_monitors.proofs.loss.flights.LongRuns.{long_kept}
use Rattle.sd_monitors.proofs.loss.rounds.Waits.{LeavesTaken}
use Rattle.sd_monitors.proofs.loss.rounds.Spoiled.{spoiled_still, lost_round, spoiled_only}
use Rattle.sd_monitors.proofs.loss.rounds.Consecutive.{broken_is_long, long_is_broken}

-- once the premise is broken, it stays broken
pub stays_broken : (setting : Setting) (s : Seen) (earlier : List Seen) → loss_holds setting earlier ≡ false → loss_holds setting (s ∷ earlier) ≡ false
stays_broken setting s earlier broken =
    long_is_broken setting (s ∷ earlier)
    (long_kept setting.net.params.loss (is_spoiled earlier) (is_spoiled (s ∷ earlier)) (spoiled_still s earlier) (broken_is_long setting earlier broken))

-- Interruptions

-- there is a place for the thing that fails
has_its_place : (setting : Setting) (e : Event) (i : Interruptions) → device_places i ≡ length setting.net.devices → link_places i ≡ length setting.net.links
    → unknown_device setting e ≡ false → unknown_link setting e ≡ false → (x : Thing)
    → map_or (failure_of e) false (λ f. same_thing x f && has_place i f) ≡ fails x e
has_its_place setting (FailDevice reference d) i devices links device link x =
    let place : d < device_places i = omega (arith, devices, leb-false (length setting.net.devices) d device) in
    ap (λ b. same_thing x (thing.Device d) && b) (lt-ltb d (device_places i) place) ∙ and_true (same_thing x (thing.Device d))
has_its_place setting (FailLink reference l) i devices links device link x =
    let place : l < link_places i = omega (arith, links, leb-false (length setting.net.links) l link) in
    ap (λ b. same_thing x (thing.Link l) && b) (lt-ltb l (link_places i) place) ∙ and_true (same_thing x (thing.Link l))
has_its_place setting _ i devices links device link x = refl

-- the failure of the event is kept
pub mark_next : (setting : Setting) (earlier : List Seen) (s : Seen) (old new : Interruptions) → Follows setting earlier s
    → device_places old ≡ length setting.net.devices → link_places old ≡ length setting.net.links
    → last_number old ≡ last_sent earlier → ((x : Thing) → mark_of old x ≡ mark_in earlier x)
    → ((x : Thing) → mark_of new x ≡ cond (map_or (failure_of s.event) false (λ f. same_thing x f && has_place old f)) (last_number old) (mark_of old x))
    → (x : Thing) → mark_of new x ≡ mark_in (s ∷ earlier) x
mark_next setting earlier s old new follows devices links last marked is x =
    is x
    ∙ ap (λ b. cond b (last_number old) (mark_of old x))
    (has_its_place setting s.event old devices links (device_known setting earlier s.event follows.allowed)
    (link_known setting earlier s.event follows.allowed) x)
    ∙ ap (λ n. cond (fails x s.event) n (mark_of old x)) last ∙ ap (cond (fails x s.event) (last_sent earlier)) (marked x)

-- equal marks interrupt the same flights
interrupted_same : (f : WaitingFlight) (marks other : Thing → ℕ) → ((x : Thing) → marks x ≡ other x) → is_interrupted marks f ≡ is_interrupted other f
interrupted_same f marks other same = rw (same (thing.Device f.sender), same (thing.Device f.receiver), same (thing.Link f.link)) refl

lost_same : (left : ℕ → Option WaitingFlight) (marks other : Thing → ℕ) (reference : ℕ) (f : WaitingFlight) → ((x : Thing) → marks x ≡ other x)
    → IsLost left marks reference f → IsLost left other reference f
lost_same left marks other reference f same lost =
    record { waits = lost.waits; overdue = lost.overdue; whole = sym (interrupted_same f marks other same) ∙ lost.whole }

-- Spoiled rounds

same_stamp : (f : WaitingFlight) (t r : ℕ) (rounds : ℕ → ℕ → Bool) → is_round f.stamp t r ≡ true → rounds f.stamp.term f.stamp.round ≡ true
    → rounds t r ≡ true
same_stamp f t r rounds of_round there =
    let parts = and_parts (nat_eq f.stamp.term t) (nat_eq f.stamp.round r) of_round in
    subst (λ (n : ℕ). rounds t n ≡ true) (eqb-true f.stamp.round r parts.1)
    (subst (λ (n : ℕ). rounds n f.stamp.round ≡ true) (eqb-true f.stamp.term t parts.0) there)

module _ (setting : Setting) (earlier : List Seen) (s : Seen) (order : IsInOrder setting earlier) (follows : Follows setting earlier s)
    (was left : ℕ → Option WaitingFlight) (waiting : AreWaiting earlier was)
    (received : LeavesTaken s was left)
    (marks : Thing → ℕ) (marked : (x : Thing) → marks x ≡ mark_in (s ∷ earlier) x)
    (old new : ℕ → ℕ → Bool) (spoiled : (t r : ℕ) → old t r ≡ is_spoiled earlier t r) (only : HasOnlyLost left marks (reference_of s.event) old new) where
  -- what is kept as spoiled is spoiled
  new_is_spoiled : (t r : ℕ) → new t r ≡ true → is_spoiled (s ∷ earlier) t r ≡ true
  new_is_spoiled t r there = by_case (only t r there)
    where
      by_case : (old t r ≡ true) ⊎ ((f : WaitingFlight) × IsLost left marks (reference_of s.event) f × (is_round f.stamp t r ≡ true))
          → is_spoiled (s ∷ earlier) t r ≡ true
      by_case (inl before) = spoiled_still s earlier t r (sym (spoiled t r) ∙ before)
      by_case (inr (f, lost, of_round)) =
          lost_round setting earlier s order follows was left waiting received f t r
          (lost_same left marks (mark_in (s ∷ earlier)) (reference_of s.event) f marked lost) of_round

  -- where all are kept, what is spoiled is kept
  pub spoiled_next : AddsLost left marks (reference_of s.event) old new → (t r : ℕ) → new t r ≡ is_spoiled (s ∷ earlier) t r
  spoiled_next adds t r =
      same_from_both (new t r) (is_spoiled (s ∷ earlier) t r) (new_is_spoiled t r)
      (λ is. by_case (spoiled_only setting earlier s order follows was left waiting received t r is))
    where
      by_case : (is_spoiled earlier t r ≡ true) ⊎ ((f : WaitingFlight) × IsLost left (mark_in (s ∷ earlier)) (reference_of s.event) f × (is_round f.stamp t r ≡ true))
          → new t r ≡ true
      by_case (inl before) = adds.kept t r (spoiled t r ∙ before)
      by_case (inr (f, lost, of_round)) =
          same_stamp f t r new of_round (adds.added f (lost_same left (mark_in (s ∷ earlier)) marks (reference_of s.event) f (λ x. sym (marked x)) lost))

  -- the premise is broken where more are kept than the limit
  pub breaks : (limit : ℕ) → limit ≡ setting.net.params.loss → HasLongRun limit new → loss_holds setting (s ∷ earlier) ≡ false
  breaks limit same long =
      long_is_broken setting (s ∷ earlier)
      (subst (λ (n : ℕ). HasLongRun n (is_spoiled (s ∷ earlier))) same (long_kept limit new (is_spoiled (s ∷ earlier)) new_is_spoiled long))

  -- and holds where no more are kept
  pub holds_on : (limit : ℕ) → limit ≡ setting.net.params.loss → loss_holds setting earlier ≡ true → AddsLost left marks (reference_of s.event) old new
      → ((HasLongRun limit old → ⊥) → HasLongRun limit new → ⊥) → loss_holds setting (s ∷ earlier) ≡ true
  holds_on limit same held adds short =
      true_from_ne_false (loss_holds setting (s ∷ earlier))
      (λ broken. short none_before (long_kept limit (is_spoiled (s ∷ earlier)) new (λ t r is. spoiled_next adds t r ∙ is)
      (subst (λ (n : ℕ). HasLongRun n (is_spoiled (s ∷ earlier))) (sym same) (broken_is_long setting (s ∷ earlier) broken))))
    where
      none_before : HasLongRun limit old → ⊥
      none_before long =
          both_ways (loss_holds setting earlier)
          (long_is_broken setting earlier
          (subst (λ (n : ℕ). HasLongRun n (is_spoiled earlier)) same
          (long_kept limit old (is_spoiled earlier) (λ t r there. sym (spoiled t r) ∙ there) long))) held

  -- what the judging of one more event comes to
  pub judged_next : (limit : ℕ) → limit ≡ setting.net.params.loss → loss_holds setting earlier ≡ true → (result : Bool)
      → (result ≡ true → AddsLost left marks (reference_of s.event) old new)
      → (result ≡ true → (HasLongRun limit old → ⊥) → HasLongRun limit new → ⊥) → (result ≡ false → HasLongRun limit new)
      → result ≡ loss_holds setting (s ∷ earlier)
  judged_next limit same held true adds short long = sym (holds_on limit same held (adds refl) (short refl))
  judged_next limit same held false adds short long = sym (breaks limit same (long refl))
