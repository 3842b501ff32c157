-- Openings of openings: when a history stands for a longer one, and what holds of all later events then. Two such steps are one.
use Rattle.std.specs.Prelude.{◌≡◌, ◌+◌, List, ◌++◌, map, nat_eq, if◌then◌else◌}
use Rattle.sd_plan.specs.topo.Network.{Network}
use Rattle.sd_plan.specs.declared.Plan.{Plan}
use Rattle.sd_device.specs.declared.registers.Registers.{Registers}
use Rattle.sd_sched.specs.declared.Event.{Event}
use Rattle.sd_history.specs.World.{setting_over}
use Rattle.sd_history.specs.Steps.{seen_of, events_of}
use Rattle.sd_history.specs.Chronicle.{chronicle}
use Rattle.sd_history.specs.Nodes.{NodeStep, steps_of}
use Rattle.sd_history.specs.Admitted.{IsAdmitted}
use Rattle.sd_safety.specs.invariant.Coming.{IsFair}
use Rattle.sd_resume.specs.law.Shifts.{Shift, raised_event}
use Rattle.sd_resume.specs.law.Law.{whole, HistoriesAgree, AllMayFollow, GoesOnAs}
use Rattle.sd_resume.specs.law.Cuts.{IsOpening, IsHonestOpening}
use Rattle.sd_resume.specs.law.Premised.{PremisesAgree}
use Rattle.sd_resume.specs.law.Losses.{LossesAgree}

-- by how much numbers differ over two steps: the inner shift raises those of the third to those of the second, the outer one these to those of the first
abbrev pub joined_shift : (outer inner : Shift) → Shift
joined_shift outer inner =
    record {
      plans = inner.plans + outer.plans;
      messages = inner.messages + outer.messages;
      term = inner.term + outer.term;
      round = if nat_eq inner.term 0 then inner.round + outer.round else inner.round;
    }

-- The second history stands for the first: they agree, each premise that holds of the first holds of the second and goes on so, and each flight of the
-- second is lost in both or in none.
pub record StandsForWhole (shift : Shift) (net : Network) (front plans : List Plan) (one other : List Event) : Type 0 where
  pub agree : HistoriesAgree shift net front plans one other
  pub premises : PremisesAgree (whole net front plans) (setting_over net plans) (seen_of (chronicle (whole net front plans) one))
      (seen_of (chronicle (setting_over net plans) other))
  pub losses : LossesAgree shift (seen_of (chronicle (whole net front plans) one)) (seen_of (chronicle (setting_over net plans) other))

-- Later events go on standing for the whole, and what stands for what stands for the whole does so too.
pub record StandingComposes (net : Network) : Type 0 where
  pub goes_on : (shift : Shift) (front plans : List Plan) (one other : List Event) → StandsForWhole shift net front plans one other
      → IsFair (setting_over net plans) → GoesOnAs shift net front plans one other
  pub later : (shift : Shift) (front plans : List Plan) (one other : List Event) → StandsForWhole shift net front plans one other
      → (later : List Event) → AllMayFollow (setting_over net plans) other later → IsAdmitted (setting_over net plans) (later ++ other)
      → StandsForWhole shift net front plans (map (raised_event shift) later ++ one) (later ++ other)
  pub joined : (outer inner : Shift) (front middle plans : List Plan) (one two three : List Event)
      → StandsForWhole outer net front (middle ++ plans) one two → StandsForWhole inner net middle plans two three
      → StandsForWhole (joined_shift outer inner) net (front ++ middle) plans one three

-- An honest opening stands for its schedule. So one of an opening with later events stands for the schedule with the same later events.
pub record OpeningsCompose (net : Network) : Type 0 where
  pub stands : (shift : Shift) (front plans : List Plan) (first second : List (NodeStep Registers)) → IsOpening shift net front plans first second
      → IsHonestOpening (setting_over net plans) (seen_of (steps_of first)) (seen_of (steps_of second))
      → StandsForWhole shift net front plans (events_of (steps_of first)) (events_of (steps_of second))
  pub composed : (outer inner : Shift) (front middle plans : List Plan) (first second third fourth : List (NodeStep Registers)) (later : List Event)
      → IsOpening outer net front (middle ++ plans) first second
      → IsHonestOpening (setting_over net (middle ++ plans)) (seen_of (steps_of first)) (seen_of (steps_of second))
      → AllMayFollow (setting_over net (middle ++ plans)) (events_of (steps_of second)) later
      → events_of (steps_of third) ≡ later ++ events_of (steps_of second)
      → IsOpening inner net middle plans third fourth
      → IsHonestOpening (setting_over net plans) (seen_of (steps_of third)) (seen_of (steps_of fourth)) → IsFair (setting_over net plans)
      → GoesOnAs (joined_shift outer inner) net (front ++ middle) plans (map (raised_event outer) later ++ events_of (steps_of first))
      (events_of (steps_of fourth))
