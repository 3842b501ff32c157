-- A history that is moved: all reference times and all clocks that are set by one number, and the counters of each life of each device by a
-- number of its own.
use Rattle.std.specs.Prelude.{ℕ, ◌+◌, List, [], ◌∷◌, map, option_map}
use Rattle.sd_num.specs.declared.clock.Estimate.{Estimate}
use Rattle.sd_num.specs.declared.clock.Report.{Report}
use Rattle.sd_device.specs.declared.msg.Message.{Message}
use Rattle.sd_device.specs.declared.msg.Flight.{Flight}
use Rattle.sd_device.specs.msg.Observed.{ReportAt}
use Rattle.sd_device.specs.declared.Effect.{Effect}
use Rattle.sd_device.specs.declared.Effect.TheVariants.{Quiet, Send}
use Rattle.sd_device.specs.Calls.{Making, Started, Joined, Call, Tick, Receive, Fix, Give, Commit, Seal}
use Rattle.sd_sched.specs.declared.Event.{Event}
use Rattle.sd_sched.specs.declared.Event.TheVariants as event
use Rattle.sd_history.specs.World.{Seen}
use Rattle.sd_history.specs.Steps.{Act, Makes, Calls, Asks, Passes, Told, Step}
use Rattle.sd_history.specs.Lines.{Line, Broken, LoopAlarm, RootsAlarm, Reported, IntervalAlarm}
use Rattle.sd_beside.specs.translation.Counters.{number_of}

-- an event: its reference and the clock that it sets by time, and its counter by the other number
abbrev pub moved_event : (time by : ℕ) → Event → Event
moved_event time by (event.Start reference device counter clock eps) = event.Start (reference + time) device (counter + by) (clock + time) eps
moved_event time by (event.Tick reference device counter) = event.Tick (reference + time) device (counter + by)
moved_event time by (event.Recv reference device counter message) = event.Recv (reference + time) device (counter + by) message
moved_event time by (event.Lose reference message) = event.Lose (reference + time) message
moved_event time by (event.FailDevice reference device) = event.FailDevice (reference + time) device
moved_event time by (event.FailLink reference link) = event.FailLink (reference + time) link
moved_event time by (event.Fix reference device counter clock eps) = event.Fix (reference + time) device (counter + by) (clock + time) eps
moved_event time by (event.Ask reference device counter) = event.Ask (reference + time) device (counter + by)
moved_event time by (event.Stage reference) = event.Stage (reference + time)
moved_event time by (event.Give reference device) = event.Give (reference + time) device
moved_event time by (event.Commit reference device counter) = event.Commit (reference + time) device (counter + by)
moved_event time by (event.Seal reference device) = event.Seal (reference + time) device
moved_event time by (event.Join reference device counter clock eps) = event.Join (reference + time) device (counter + by) (clock + time) eps
moved_event time by (event.MendDevice reference device) = event.MendDevice (reference + time) device
moved_event time by (event.MendLink reference link) = event.MendLink (reference + time) link
moved_event time by (event.End reference) = event.End (reference + time)

-- the events, where the number for counters is that of the life of the device
abbrev pub moved_events : (time : ℕ) (by : ℕ → ℕ → ℕ) → List Event → List Event
moved_events time by [] = []
moved_events time by (e ∷ earlier) = moved_event time (number_of by (e ∷ earlier)) e ∷ moved_events time by earlier

-- What follows of them: time is the number for clocks, and by the one for the counters of the device that is spoken of.

-- a report: its clock, and not its uncertainty
abbrev pub moved_report : (time : ℕ) → Report → Report
moved_report time report = record { clock = report.clock + time; eps = report.eps }

-- an estimate
abbrev pub moved_estimate : (time by : ℕ) → Estimate → Estimate
moved_estimate time by estimate = record { clock = estimate.clock + time; base = estimate.base; at = estimate.at + by }

-- a message: its clock. It has no counter
abbrev pub moved_message : (time : ℕ) → Message → Message
moved_message time message = record { epoch = message.epoch; stamp = message.stamp; clock = message.clock + time; eps = message.eps }

-- a flight: its times and its message
abbrev pub moved_flight : (time : ℕ) → Flight → Flight
moved_flight time f =
    record {
      number = f.number;
      link = f.link;
      sender = f.sender;
      receiver = f.receiver;
      sent_at = f.sent_at + time;
      due = f.due + time;
      last = f.last + time;
      reaches = f.reaches;
      message = moved_message time f.message;
    }

-- what a call sends
abbrev pub moved_effect : (time : ℕ) → Effect → Effect
moved_effect time Quiet = Quiet
moved_effect time (Send message) = Send (moved_message time message)

-- how a device is made
abbrev pub moved_making : (time by : ℕ) → Making → Making
moved_making time by (Started duty counter clock eps) = Started duty (counter + by) (clock + time) eps
moved_making time by (Joined rates counter clock eps) = Joined rates (counter + by) (clock + time) eps

-- a call of a device
abbrev pub moved_call : (time by : ℕ) → Call → Call
moved_call time by (Tick counter) = Tick (counter + by)
moved_call time by (Receive link message counter) = Receive link (moved_message time message) (counter + by)
moved_call time by (Fix counter clock eps) = Fix (counter + by) (clock + time) eps
moved_call time by (Give duty) = Give duty
moved_call time by (Commit counter) = Commit (counter + by)
moved_call time by Seal = Seal

-- what an event does
abbrev pub moved_act : (time by : ℕ) → Act → Act
moved_act time by (Makes d making) = Makes d (moved_making time by making)
moved_act time by (Calls d call) = Calls d (moved_call time by call)
moved_act time by (Asks d counter) = Asks d (counter + by)
moved_act time by Passes = Passes

-- what a device tells at an event: it answers the same
abbrev pub moved_told : (time : ℕ) → Told → Told
moved_told time told =
    record { effect = moved_effect time told.effect; answers = told.answers; report = option_map (moved_report time) told.report }

-- what is seen of an event
abbrev pub moved_seen : (time by : ℕ) → Seen → Seen
moved_seen time by s =
    record {
      event = moved_event time by s.event;
      taken = option_map (moved_flight time) s.taken;
      sent = map (moved_flight time) s.sent;
      activated = s.activated;
      acted = s.acted;
      closed = s.closed;
    }

-- a step
abbrev pub moved_step : (time by : ℕ) → Step → Step
moved_step time by s =
    record {
      seen = moved_seen time by s.seen;
      act = moved_act time by s.act;
      told = moved_told time s.told;
      sent = map (moved_flight time) s.sent;
    }

-- a line: the clock that is reported, and the reference of an alarm
abbrev pub moved_line : (time : ℕ) → Line → Line
moved_line time (Broken premise) = Broken premise
moved_line time (LoopAlarm device) = LoopAlarm device
moved_line time (RootsAlarm first second) = RootsAlarm first second
moved_line time (Reported device report) = Reported device (moved_report time report)
moved_line time (IntervalAlarm device reference) = IntervalAlarm device (reference + time)

-- a report as an observer sees it: its reference and its clock
abbrev pub moved_report_at : (time : ℕ) → ReportAt → ReportAt
moved_report_at time x = record { line = x.line; device = x.device; reference = x.reference + time; report = moved_report time x.report }
