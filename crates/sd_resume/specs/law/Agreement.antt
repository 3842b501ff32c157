-- When two histories agree: what later events can see of the second, with its numbers raised, is what they see of the first.
use Rattle.std.specs.Prelude.{◌≡◌, ℕ, ◌+◌, ◌≤◌, true, List, Some, None, option_map}
use Rattle.sd_device.specs.declared.registers.Registers.{Registers}
use Rattle.sd_device.specs.declared.msg.Flight.{Flight}
use Rattle.sd_sched.specs.declared.Event.{Event}
use Rattle.sd_sched.specs.Events.{started, is_commit}
use Rattle.sd_history.specs.World.{is_up, latest_reading}
use Rattle.sd_history.specs.Steps.{Answers, Told, Act, Makes, Calls, Asks, Passes, Step, seen_of, live_answers, flight_count, flight_numbered, acted_by}
use Rattle.sd_history.specs.Refusals.{was_used, was_swept}
use Rattle.sd_history.specs.Nodes.{NodeStep, steps_of, node_in}
use Rattle.sd_resume.specs.law.Shifts.{Shift, raised_epoch, raised_duty, raised_flight, raised_effect, raised_making, raised_call}
use Rattle.sd_resume.specs.law.Likeness.{AreAlike}
use Rattle.sd_resume.specs.law.Views.{LooksAlike}

-- what a device answers
abbrev pub raised_answers : Shift → Answers → Answers
raised_answers shift a =
    record {
      parent = a.parent;
      acts = a.acts;
      epoch = raised_epoch shift a.epoch;
      given = option_map (raised_duty shift) a.given;
      sealed = a.sealed;
    }

-- what a device tells at an event
abbrev pub raised_told : Shift → Told → Told
raised_told shift told =
    record {
      effect = raised_effect shift told.effect;
      answers = option_map (raised_answers shift) told.answers;
      report = told.report;
    }

-- what an event does
abbrev pub raised_act : Shift → Act → Act
raised_act shift (Makes d making) = Makes d (raised_making shift making)
raised_act shift (Calls d call) = Calls d (raised_call shift call)
raised_act shift (Asks d counter) = Asks d counter
raised_act shift Passes = Passes

-- The steps of the second, with their numbers raised, are to later events those of the first: what is seen, what devices that are up answer,
-- and which messages were sent, used and swept. Those that the first alone has sent are numbered before the others.
pub record StepsAgree (shift : Shift) (one other : List Step) : Type 0 where
  pub seen : LooksAlike shift (seen_of one) (seen_of other)
  pub answers : (d : ℕ) → live_answers one d ≡ option_map (raised_answers shift) (live_answers other d)
  pub count : flight_count one ≡ flight_count other + shift.messages
  pub numbered : (n : ℕ) → 1 ≤ n → flight_numbered one (n + shift.messages) ≡ option_map (raised_flight shift) (flight_numbered other n)
  pub used : (n : ℕ) → 1 ≤ n → was_used one (n + shift.messages) ≡ was_used other n
  pub swept : (n : ℕ) (f : Flight) → 1 ≤ n → flight_numbered other n ≡ Some f → was_swept one (raised_flight shift f) ≡ was_swept other f

-- the two agree, and each device that is up has like registers in both, from its latest reading on
pub record Agree (shift : Shift) (one other : List (NodeStep Registers)) : Type 0 where
  pub steps : StepsAgree shift (steps_of one) (steps_of other)
  pub devices : (d : ℕ) → is_up (seen_of (steps_of other)) d ≡ true
      → AreAlike shift (latest_reading (seen_of (steps_of other)) d) (node_in one d) (node_in other d)

-- What may come after both: no start, and a commit only of a device that acts as root. Two fresh devices are alike, but what they would send as
-- roots is no raised message.
pub record MayFollow (other : List Step) (e : Event) : Type 0 where
  pub start : started e ≡ None
  pub commit : is_commit e ≡ true → acted_by other e ≡ true
