-- What came of an accepted event, by its step.
use Rattle.std.specs.Prelude.{ℕ, List, [], ◌∷◌, length}
use Rattle.sd_device.specs.declared.msg.Flight.{Flight}
use Rattle.sd_sched.specs.Events.{is_end_event}
use Rattle.sd_history.specs.Steps.{Step}
use Rattle.sd_history.specs.Lines.{asked_report}
use Rattle.sd_fleet.specs.declared.Outcome.{Outcome}

-- the number of the first flight, 0 where there is none
abbrev pub first_number : List Flight → ℕ
first_number [] = 0
first_number (f ∷ others) = f.number

-- the outcome of a step
abbrev pub outcome_of : Step → Outcome
outcome_of s =
    record {
      report = asked_report s;
      taken = s.seen.taken;
      first_sent = first_number s.sent;
      sent = length s.sent;
      activated = s.seen.activated;
      acted = s.seen.acted;
      closed = s.seen.closed;
      ended = is_end_event s.seen.event;
    }
