-- For which steps and runs the parts of a replay stand.
use Rattle.std.specs.Prelude.{◌≡◌, ℕ, ◌+◌, ◌<◌, ◌&&◌, List, ◌∷◌, length, min, slice_set, Bool, false, Option, Some, None, is_some, if◌then◌else◌}
use Rattle.std.specs.Vec.{vec_capacity}
use Rattle.sd_num.specs.Lists.{at_place}
use Rattle.sd_replay.specs.lines.Printed.{printed}
use Rattle.sd_plan.specs.topo.Topologies.{network}
use Rattle.sd_replay.specs.watch.Watch.{parent_in, two_least}
use Rattle.sd_device.specs.declared.node.Node.{Ghosts}
use Rattle.sd_device.specs.declared.msg.observer.Observer as observers
use Rattle.sd_sched.specs.declared.Event.{Event}
use Rattle.sd_sched.specs.Events.{reference_of, device_of}
use Rattle.sd_history.specs.World.{Setting, Seen, is_counted}
use Rattle.sd_history.specs.Steps.{Step, seen_of, acts_in}
use Rattle.sd_history.specs.Nodes.{NodeStep, steps_of}
use Rattle.sd_history.specs.Refusals.{after_end}
use Rattle.sd_history.specs.Accepted.{AreSteps}
use Rattle.sd_history.specs.Lines.{counted_parent, first_on_loop, roots, reports, asked_report, lines_of}
use Rattle.sd_history.specs.Text.{bytes_of}
use Rattle.sd_fleet.specs.declared.Outcome.{Outcome}
use Rattle.sd_fleet.specs.Outcomes.{outcome_of}
use Rattle.sd_fleet.specs.declared.fleet.Fleet.{Fleet}
use Rattle.sd_fleet.specs.Standing as fleets
use Rattle.sd_replay.specs.watch.parent_table.ParentTable as parent_table
use Rattle.sd_replay.specs.declared.watch.parent_table.ParentRow.{ParentRow}
use Rattle.sd_premise.specs.Standing as premises
use Rattle.sd_safety.specs.invariant.Coming.{IsFair}
use Rattle.sd_replay.specs.declared.alarms.Alarms.{Alarms}
use Rattle.sd_replay.specs.declared.monitors.Monitors.{Monitors}
use Rattle.sd_replay.specs.declared.event_output.EventOutput.{EventOutput}
use Rattle.sd_replay.specs.Tallies.{tally_of}
use Rattle.sd_replay.specs.Troubles.{found_by}
use Rattle.sd_replay.specs.declared.lines.findings.Findings.{Findings}
use Rattle.sd_replay.specs.lines.Findings.{IsOf, found_lines, found_bytes}
use Rattle.sd_replay.specs.Counting.{tally_with}
use Rattle.sd_replay.specs.declared.trouble.Trouble.{Trouble}

-- Loops and roots

-- the device counts as live and acts as root
abbrev pub counted_acts : Setting → List Step → ℕ → Bool
counted_acts setting steps d = is_counted setting (seen_of steps) d && acts_in steps d

-- how a device stands after the steps
abbrev pub parent_row_in : Setting → List Step → ℕ → ParentRow
parent_row_in setting steps d = record { parent = counted_parent setting steps d; acts = counted_acts setting steps d }

-- what is kept of a device at a place
abbrev pub parent_row_at : parent_table.Kept → ℕ → ParentRow
parent_row_at kept d = record { parent = parent_in kept.parents d; acts = at_place kept.acting d false (λ acts. acts) }

-- one device was set to stand so
pub record IsSet (old new : parent_table.Kept) (d : ℕ) (parent_row : ParentRow) : Type 0 where
  pub parents : new.parents ≡ slice_set old.parents d parent_row.parent
  pub acting : new.acting ≡ slice_set old.acting d parent_row.acts

-- each device is kept as it stands after the steps
pub record IsParentTable (kept : parent_table.Kept) (setting : Setting) (steps : List Step) : Type 0 where
  pub parents : length kept.parents ≡ length setting.net.devices
  pub acting : length kept.acting ≡ length setting.net.devices
  pub each : (d : ℕ) → d < length setting.net.devices → parent_row_at kept d ≡ parent_row_in setting steps d

-- the fleet made a step after the run: of an event that names this device, if any, and with which the window closes or not
pub record IsStepOf {N : Type 0} (g : Ghosts N) (fleet : Fleet N g) (setting : Setting) (run : List (NodeStep N)) (device : Option ℕ) (closed : Bool)
    : Type 0 where
  pub next : NodeStep N
  pub named : device_of next.step.seen.event ≡ device
  pub closes : next.step.seen.closed ≡ closed
  pub stands : fleets.StandsFor g fleet setting (next ∷ run)

-- the least device on a loop, where there was no loop before the step
abbrev pub new_loop : Setting → Step → List Step → Option ℕ
new_loop setting s earlier = if is_some (first_on_loop setting earlier) then None else first_on_loop setting (s ∷ earlier)

-- the two least devices that act as root, where fewer than two acted before the step
abbrev pub new_roots : Setting → Step → List Step → Option (ℕ × ℕ)
new_roots setting s earlier = if is_some (two_least (roots setting earlier)) then None else two_least (roots setting (s ∷ earlier))

-- each device is kept as it stands after the step, and these alarms are what is new with it
pub record HasAlarms (kept : parent_table.Kept) (alarms : Alarms) (setting : Setting) (s : Step) (earlier : List Step) : Type 0 where
  pub stands : IsParentTable kept setting (s ∷ earlier)
  pub looped : alarms.looped ≡ new_loop setting s earlier
  pub roots : alarms.roots ≡ new_roots setting s earlier

-- The parts

-- the monitors have seen these steps
pub record HasSeen (monitors : Monitors) (setting : Setting) (steps : List Step) : Type 0 where
  pub premises : premises.StandsFor monitors.premises setting (seen_of steps)
  pub parent_table : IsParentTable monitors.parent_table setting steps

-- what is found of an event is counted and printed in place of what was printed before, by the names of the same topology
pub record IsNoted (old new : EventOutput) (found : Findings) : Type 0 where
  pub topology : new.topology ≡ old.topology
  pub tally : new.tally ≡ tally_with old.tally found
  pub lines : printed new.lines ≡ found_bytes (network old.topology) (old.tally.events + 1) found

-- for how many flights of the next event there is room
abbrev pub room_of : Monitors → ℕ
room_of monitors = min (premises.room_of monitors.premises) (vec_capacity monitors.sent)

-- and in the premises alone
abbrev pub sent_room : Monitors → ℕ
sent_room monitors = premises.room_of monitors.premises

-- the fleet has just made a step after a run that the monitors have seen
pub record HasStep {N : Type 0} (g : Ghosts N) (monitors : Monitors) (fleet : Fleet N g) (e : Event) (outcome : Outcome) : Type 0 where
  pub setting : Setting
  pub run : List (NodeStep N)
  pub accepted : fleets.IsAccepted g fleet setting run e outcome
  pub has_seen : HasSeen monitors setting (steps_of run)

-- the step is the next one, of this event, and came to this
pub record IsStepTo (setting : Setting) (s : Step) (earlier : List Step) (e : Event) (outcome : Outcome) : Type 0 where
  pub accepted : AreSteps setting (s ∷ earlier)
  pub happens : s.seen.event ≡ e
  pub comes : outcome ≡ outcome_of s

-- Quick events

-- the device stands after the step as it did before
abbrev pub StandsAsBefore : Setting → Step → List Step → ℕ → Type 0
StandsAsBefore setting s earlier d = parent_row_in setting (s ∷ earlier) d ≡ parent_row_in setting earlier d

-- The step is the next one, and what is seen of it is such: nothing is told of it, no window closes with it, and the device that it names
-- stands as before.
pub record IsQuickStep (IsSuch : Seen → Type 0) (reference device : ℕ) (setting : Setting) (s : Step) (earlier : List Step) : Type 0 where
  pub accepted : AreSteps setting (s ∷ earlier)
  pub seen : IsSuch s.seen
  pub at : reference_of s.seen.event ≡ reference
  pub named : device_of s.seen.event ≡ Some device
  pub stays : s.seen.closed ≡ false
  pub untold : asked_report s ≡ None
  pub row : StandsAsBefore setting s earlier device

-- there is such a step after those that the monitors have seen
pub record CanLook (monitors : Monitors) (IsSuch : Setting → Step → List Step → Type 0) : Type 0 where
  pub setting : Setting
  pub s : Step
  pub earlier : List Step
  pub such : IsSuch setting s earlier
  pub has_seen : HasSeen monitors setting earlier

-- The monitors look at a step of this kind, of which no report is told: they have seen it then, and the trouble is what it brings.
pub record Looks (IsSuch : Setting → Step → List Step → Type 0) (reference : ℕ) (old new : Monitors) (trouble : Trouble) : Type 0 where
  pub stands : (setting : Setting) (s : Step) (earlier : List Step) → IsSuch setting s earlier → HasSeen old setting earlier → HasSeen new setting (s ∷ earlier)
  pub found : (setting : Setting) (s : Step) (earlier : List Step) → IsSuch setting s earlier → HasSeen old setting earlier
      → found_lines (found_by trouble None reference) ≡ lines_of setting (s ∷ earlier)
  pub devices : (setting : Setting) (s : Step) (earlier : List Step) → IsSuch setting s earlier → HasSeen old setting earlier
      → IsOf setting.net (found_by trouble None reference)

-- the event output tells of these steps
pub record HasPrinted (event_output : EventOutput) (setting : Setting) (steps : List Step) : Type 0 where
  pub net : network event_output.topology ≡ setting.net
  pub lines : printed event_output.lines ≡ bytes_of setting steps
  pub tally : event_output.tally ≡ tally_of setting steps
  pub ended : event_output.ended ≡ after_end (seen_of steps)

-- All parts stand for the run: the fleet made it, the monitors have seen its steps, the event output tells of them, and the observer was told of its
-- reports. Its plans are accepted.
pub record Stands {N V : Type 0} (g : Ghosts N) (o : observers.Ghosts V) (fleet : Fleet N g) (monitors : Monitors) (event_output : EventOutput) (observer : V)
    (setting : Setting) (run : List (NodeStep N)) : Type 0 where
  pub sound : IsFair setting
  pub made : fleets.StandsFor g fleet setting run
  pub has_seen : HasSeen monitors setting (steps_of run)
  pub tells : HasPrinted event_output setting (steps_of run)
  pub told : o.stands observer (reports (steps_of run))

-- there is a run for which they stand
pub record HasRun {N V : Type 0} (g : Ghosts N) (o : observers.Ghosts V) (fleet : Fleet N g) (monitors : Monitors) (event_output : EventOutput)
    (observer : V) : Type 0 where
  pub setting : Setting
  pub steps : List (NodeStep N)
  pub stands : Stands g o fleet monitors event_output observer setting steps
