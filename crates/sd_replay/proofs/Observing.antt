-- The premises are shown just what is seen of an accepted step.
use Rattle.std.specs.Prelude.{◌≡◌, ℕ, ◌<◌, ◌≤◌, List, ◌∷◌, filter, length, Option, None, Some, IfSome, refl}
use Rattle.std.proofs.Common.{sym, ap, ◌∙◌, subst}
use Rattle.std.proofs.Props.{props}
use Rattle.std.proofs.Math.Logic.{∥∥₁_elim, ∥∥₁_map}
use Rattle.sd_sched.specs.Events.{reference_of, device_of, link_of}
use Rattle.sd_replay.proofs.Happening.{if_merely}
use Rattle.sd_device.specs.declared.msg.Flight.{Flight}
use Rattle.sd_device.specs.declared.node.Node.{Ghosts}
use Rattle.sd_sched.specs.declared.Event.{Event}
use Rattle.sd_plan.specs.topo.Network.{Network}
use Rattle.sd_history.specs.declared.BrokenSet.{BrokenSet}
use Rattle.sd_history.specs.World.{Setting, Seen}
use Rattle.sd_history.specs.Steps.{Step, seen_of}
use Rattle.sd_history.specs.Premises.{breaks}
use Rattle.sd_history.specs.Nodes.{NodeStep, steps_of}
use Rattle.sd_history.proofs.Known.{named_is_known}
use Rattle.sd_fleet.specs.declared.Outcome.{Outcome}
use Rattle.sd_fleet.specs.declared.fleet.Fleet.{Fleet}
use Rattle.sd_fleet.specs.Standing.{IsAccepted}
use Rattle.sd_premise.specs.Order.{CanFollow}
use Rattle.sd_premise.specs.Standing as premises
use Rattle.sd_premise.specs.declared.premises.Premises.{Premises}
use Rattle.sd_premise.proofs.Stepping.{can_follow}
use Rattle.sd_premise.proofs.Asking.{can_observe}
use Rattle.sd_replay.specs.Sights.{sight_by}
use Rattle.sd_replay.specs.declared.alarms.Alarms.{Alarms}
use Rattle.sd_replay.specs.declared.monitors.Monitors.{Monitors}
use Rattle.sd_replay.specs.Standing.{new_loop, new_roots, IsStepOf, IsStepTo, HasStep}
use Rattle.sd_replay.specs.Troubles.{found_with}
use Rattle.sd_replay.proofs.Looking.{sight_is, AreFound}

-- a bound of the device that an event names
pub named : (count : ℕ) (o : Option ℕ) → ((d : ℕ) → o ≡ Some d → d < count) → IfSome o (λ d. d < count)
named count None within = tt
named count (Some d) within = within d refl

-- an accepted event made the next step
pub step_to : {N : Type 0} (g : Ghosts N) (fleet : Fleet N g) (setting : Setting) (run : List (NodeStep N)) (e : Event) (outcome : Outcome)
    (accepted : IsAccepted g fleet setting run e outcome) → IsStepTo setting accepted.next.step (steps_of run) e outcome
step_to g fleet setting run e outcome accepted =
    record { accepted = accepted.stands.fabric.accepted; happens = accepted.happens; comes = accepted.comes }

module _ (setting : Setting) (s : Step) (earlier : List Step) (e : Event) (outcome : Outcome) (step : IsStepTo setting s earlier e outcome)
    (sent : List Flight) (collected : sent ≡ filter (λ f. f.reaches) s.sent) where
  abbrev sight : Seen
  sight = sight_by e outcome sent

  seen_is : sight ≡ s.seen
  seen_is = sight_is setting s earlier e outcome sent step.accepted step.happens step.comes collected

  -- it can follow what was seen before
  pub can_show : CanFollow setting (seen_of earlier) sight
  can_show = subst (CanFollow setting (seen_of earlier)) (sym seen_is)
      (can_follow setting s earlier step.accepted)

  pub can_see : (monitors : Premises) → premises.StandsFor monitors setting (seen_of earlier) → length sent ≤ premises.room_of monitors
      → premises.CanObserve monitors sight
  can_see monitors stands room = can_observe monitors setting (seen_of earlier) sight stands can_show room

  -- the premises stand for what was seen with the step
  pub seen_on : (monitors : Premises) → premises.StandsFor monitors setting (sight ∷ seen_of earlier)
      → premises.StandsFor monitors setting (seen_of (s ∷ earlier))
  seen_on monitors stands = subst (λ (x : Seen). premises.StandsFor monitors setting (x ∷ seen_of earlier)) seen_is stands

  broken_on : (broken : BrokenSet) → broken ≡ breaks setting (sight ∷ seen_of earlier)
      → broken ≡ breaks setting (seen_of (s ∷ earlier))
  broken_on broken is = subst (λ (x : Seen). broken ≡ breaks setting (x ∷ seen_of earlier)) seen_is is

  -- what was found of it, by what the premises and the table of parents tell
  pub found_on : (broken : BrokenSet) (alarms : Alarms) → broken ≡ breaks setting (sight ∷ seen_of earlier)
      → alarms.looped ≡ new_loop setting s earlier → alarms.roots ≡ new_roots setting s earlier
      → AreFound setting s earlier (found_with (record { broken = broken; alarms = alarms }) e outcome)
  found_on broken alarms told looped acting =
      record {
        broken = broken_on broken told;
        looped = looped;
        roots = acting;
        report = ap (λ (o : Outcome). o.report) step.comes;
        reference = ap reference_of (sym step.happens);
      }

-- its step, for a device that it names
module _ {N : Type 0} (g : Ghosts N) (fleet : Fleet N g) (setting : Setting) (run : List (NodeStep N)) (e : Event) (outcome : Outcome)
    (accepted : IsAccepted g fleet setting run e outcome) (device : Option ℕ) (names : device ≡ device_of e) where
  abbrev pub made_of : IsStepOf g fleet setting run device outcome.closed
  made_of =
      record {
        next = accepted.next;
        named = ap device_of accepted.happens ∙ sym names;
        closes = ap (λ (o : Outcome). o.closed) (sym accepted.comes);
        stands = accepted.stands;
      }

-- what is kept of devices is of the fleet's network, and so is the device that the event names
module _ {N : Type 0} (g : Ghosts N) (monitors : Monitors) (fleet : Fleet N g) (e : Event) (outcome : Outcome) (has : HasStep g monitors fleet e outcome) where
  pub named_within : (d : ℕ) → device_of e ≡ Some d → d < length fleet.fabric.net.devices
  named_within d names =
      subst (λ (net : Network). d < length net.devices) (sym has.accepted.stands.fabric.net)
      (named_is_known has.setting (steps_of has.run) has.accepted.next.step.seen.event d has.accepted.stands.fabric.accepted.1
      (ap device_of has.accepted.happens ∙ names))

  pub parents_within : length monitors.parent_table.parents ≡ length fleet.fabric.net.devices
  parents_within = has.has_seen.parent_table.parents ∙ sym (ap (λ (net : Network). length net.devices) has.accepted.stands.fabric.net)

  pub acting_within : length monitors.parent_table.acting ≡ length fleet.fabric.net.devices
  acting_within = has.has_seen.parent_table.acting ∙ sym (ap (λ (net : Network). length net.devices) has.accepted.stands.fabric.net)

-- what the premises ask, where it merely holds
pub ask_merely : (monitors : Premises) (s : Seen) → ∥ premises.CanObserve monitors s ∥₁ → premises.CanObserve monitors s
ask_merely monitors s there =
    record {
      room = ∥∥₁_elim there (search props) (λ can. can.room);
      named =
          record {
            device = if_merely (λ d. d < length monitors.world.devices) (λ d. search props) (device_of s.event) (∥∥₁_map there (λ can. can.named.device));
            link = if_merely (λ l. l < length monitors.world.failed_links) (λ l. search props) (link_of s.event) (∥∥₁_map there (λ can. can.named.link));
          };
      activated = if_merely (λ d. d < length (premises.net_of monitors).devices) (λ d. search props) s.activated (∥∥₁_map there (λ can. can.activated));
      taken = λ f at. ∥∥₁_elim there (search props) (λ can. can.taken f at);
      events = ∥∥₁_elim there (search props) (λ can. can.events);
      epoch = λ closed. ∥∥₁_elim there (search props) (λ can. can.epoch closed);
    }
