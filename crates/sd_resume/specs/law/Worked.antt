-- A worked cut: a history of the triangle, an opening for it, and what is shown of both.
use Rattle.std.specs.Prelude.{◌≡◌, List, [], ◌∷◌, reverse}
use Rattle.sd_plan.specs.Examples.{triangle, triangle_plan}
use Rattle.sd_device.specs.declared.registers.Registers.{Registers}
use Rattle.sd_sched.specs.declared.Event.{Event}
use Rattle.sd_sched.specs.declared.Event.TheVariants.{Start, Tick}
use Rattle.sd_history.proofs.Base.{one_plan, base_11}
use Rattle.sd_history.specs.Steps.{seen_of, events_of}
use Rattle.sd_history.specs.Nodes.{NodeStep, steps_of}
use Rattle.sd_resume.specs.law.Shifts.{Shift}
use Rattle.sd_resume.specs.law.Cuts.{IsOpening, NoneOnItsWay, IsHonestOpening}

-- all devices start, the root sends its first round, and each device receives what is sent to it
abbrev pub whole_events : List Event
whole_events = reverse base_11

-- the root starts where it sent, with what it reported then but for the grain, and each other device where it accepted a message
abbrev pub opening_events : List Event
opening_events =
    reverse
    (Start 110000000 0 110000000 110000000 22500
    ∷ Start 110700000 1 110700000 110700000 323500
    ∷ Start 111000000 2 111000000 110700000 323500
    ∷ Tick 111400000 2 111400000
    ∷ Tick 111700000 1 111700000
    ∷ [])

-- the first has sent four messages, and round 1 is round 0 of the opening
abbrev pub worked_shift : Shift
worked_shift = record { plans = 0; messages = 4; term = 0; round = 1 }

-- There are runs of devices with these events. The second is an honest opening for the first, of which no message is on its way.
pub record IsWorked : Type 0 where
  pub first : List (NodeStep Registers)
  pub second : List (NodeStep Registers)
  pub first_happened : events_of (steps_of first) ≡ whole_events
  pub second_happened : events_of (steps_of second) ≡ opening_events
  pub opening : IsOpening worked_shift triangle [] (triangle_plan ∷ []) first second
  pub quiet : NoneOnItsWay worked_shift.messages (steps_of first)
  pub honest : IsHonestOpening one_plan (seen_of (steps_of first)) (seen_of (steps_of second))
