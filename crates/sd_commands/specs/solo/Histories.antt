-- One device alone, with the number 0 and rates of its own: its starts, fixes, asks and an end. A history has its newest event first.
use Rattle.std.specs.Prelude.{◌≡◌, ℕ, ◌+◌, ◌^◌, Bool, true, false, ◌&&◌, not, List, ◌∷◌, length, count_by, nat_eq, nat_le, nat_lt, Option, Some, None, is_some, codes, decimal, IsTrue, if◌then◌else◌, []}
use Rattle.std.specs.List.{list_any}
use Rattle.sd_num.specs.Lists.{map_or, find_map_or}
use Rattle.sd_num.specs.Texts.{text_of}
use Rattle.sd_num.specs.declared.Rates.{Rates}
use Rattle.sd_num.specs.declared.clock.Estimate.{Estimate}
use Rattle.sd_num.specs.declared.clock.Report.{Report}
use Rattle.sd_num.specs.clock.Estimates.{estimate_at, report_of}
use Rattle.sd_sched.specs.declared.Event.{Event}
use Rattle.sd_sched.specs.declared.Event.TheVariants as event
use Rattle.sd_sched.specs.Events.{reference_of, device_of, counter_of, started, is_end_event, is_ask}
use Rattle.sd_commands.specs.declared.solo.SoloFault.{SoloFault}
use Rattle.sd_commands.specs.declared.solo.SoloFault.TheVariants as fault

-- the rates of the device
abbrev pub rates : Rates
rates = record { ppm = 200; grain = 1000 }

-- the four words that are known here
abbrev pub is_known : Event → Bool
is_known (event.Start reference device counter clock eps) = true
is_known (event.Fix reference device counter clock eps) = true
is_known (event.Ask reference device counter) = true
is_known (event.End reference) = true
is_known _ = false

-- the device was started
abbrev pub was_started : List Event → Bool
was_started events = list_any (λ e. is_some (started e)) events

-- the event starts the device
abbrev pub is_start : Event → Bool
is_start e = is_some (started e)

-- what a refusal turns on of the past: the reference and the counter of the latest event and reading, whether the device was started and the schedule has
-- ended, and the number of events
pub record Situation : Type 0 where
  pub reference : ℕ
  pub counter : ℕ
  pub started : Bool
  pub ended : Bool
  pub count : ℕ

-- the situation after the events
abbrev pub situation : List Event → Situation
situation events =
    record {
      reference = find_map_or (λ e. Some (reference_of e)) events 0;
      counter = find_map_or counter_of events 0;
      started = was_started events;
      ended = list_any is_end_event events;
      count = length events;
    }

-- each cause with whether it holds, in the order in which they are answered
abbrev pub causes : Situation → Event → List (SoloFault × Bool)
causes past e =
    (fault.UnknownDevice, map_or (device_of e) false (λ d. not (nat_eq d 0)))
    ∷ (fault.TimeFalls, nat_lt (reference_of e) past.reference)
    ∷ (fault.CounterFalls, not (is_start e) && map_or (counter_of e) false (λ c. nat_lt c past.counter))
    ∷ (fault.NotStarted, not (is_start e) && is_some (device_of e) && not past.started)
    ∷ (fault.StartedTwice, is_start e && past.started)
    ∷ (fault.AfterEnd, past.ended)
    ∷ (fault.TooManyEvents, nat_le (2 ^ 26) past.count)
    ∷ []

-- the first that holds
abbrev pub first_cause : List (SoloFault × Bool) → Option SoloFault
first_cause [] = None
first_cause (cause ∷ others) = if cause.1 then Some cause.0 else first_cause others

-- why an event is refused in a situation, if it is
unfoldable pub refusal_in : Situation → Event → Option SoloFault
refusal_in past e = first_cause (causes past e)

-- why the event is refused after these events, if it is
abbrev pub refusal : List Event → Event → Option SoloFault
refusal events e = refusal_in (situation events) e

-- the estimate that a start or a fix sets
abbrev pub estimate_set : Event → Option Estimate
estimate_set (event.Start reference device counter clock eps) = Some (estimate_at clock eps counter)
estimate_set (event.Fix reference device counter clock eps) = Some (estimate_at clock eps counter)
estimate_set _ = None

-- the estimate that the newest start or fix set
abbrev pub estimate_now : List Event → Estimate
estimate_now events = find_map_or estimate_set events (estimate_at 0 0 0)

-- the report of an ask
abbrev pub report_by : List Event → Event → Option Report
report_by events (event.Ask reference device counter) = Some (report_of rates (estimate_now events) counter)
report_by events _ = None

-- a history: each event is of a known word and accepted after those before it
unfoldable pub IsHistory : List Event → Type 0
IsHistory [] = Unit {0}
IsHistory (e ∷ earlier) = IsHistory earlier × IsTrue (is_known e) × (refusal earlier e ≡ None)

-- the line of a report
abbrev pub report_text : ℕ → Report → List ℕ
report_text n report = text_of (codes "report" ∷ decimal n ∷ codes "0" ∷ decimal report.clock ∷ decimal report.eps ∷ [])

-- what the latest event prints: an ask prints its report, with the number of the event
abbrev pub bytes_of : List Event → Event → List ℕ
bytes_of earlier e = map_or (report_by earlier e) [] (report_text (length earlier + 1))

-- the last line of a history that has ended: how many events and how many reports there were
abbrev pub done_text : List Event → List ℕ
done_text events = text_of (codes "done" ∷ decimal (length events) ∷ decimal (count_by is_ask events) ∷ [])
