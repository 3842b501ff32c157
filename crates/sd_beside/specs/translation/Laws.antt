-- What changes where clocks begin elsewhere: the times that a history tells, and nothing else. Lists of events have the newest first, and any list will do. So
-- the laws hold after each event of a history.
use Rattle.std.specs.Prelude.{◌≡◌, ◌↔◌, ℕ, List, map}
use Rattle.sd_num.specs.Lists.{map_or}
use Rattle.sd_sched.specs.declared.Event.{Event}
use Rattle.sd_sched.specs.Events.{device_of}
use Rattle.sd_history.specs.World.{Setting}
use Rattle.sd_history.specs.Steps.{seen_of, flights}
use Rattle.sd_history.specs.Refusals.{refusal}
use Rattle.sd_history.specs.Chronicle.{chronicle, IsHistory}
use Rattle.sd_history.specs.Admitted.{IsAdmitted}
use Rattle.sd_history.specs.Premises.{broken_in}
use Rattle.sd_history.specs.Lines.{lines_of, reports}
use Rattle.sd_beside.specs.translation.Moves.{moved_event, moved_events, moved_flight, moved_told, moved_line, moved_report_at}
use Rattle.sd_beside.specs.translation.Counters.{counters_moved, counters_of_lives, NeverBelowMaking}
use Rattle.sd_beside.specs.translation.Times.{times_moved}

-- Both are histories or neither is. At each event the device tells the same: what it sends, what it answers (its parent, whether it acts, its plan) and
-- what it reports. The same flights are sent, the latest event has the same lines, there are the same reports, and the same premises are broken.
pub record SaysTheSame (setting : Setting) (one other : List Event) : Type 0 where
  pub admitted : IsAdmitted setting one ↔ IsAdmitted setting other
  pub accepted : IsHistory setting one ↔ IsHistory setting other
  pub told : map (λ s. s.told) (chronicle setting one) ≡ map (λ s. s.told) (chronicle setting other)
  pub flights : flights (chronicle setting one) ≡ flights (chronicle setting other)
  pub lines : lines_of setting (chronicle setting one) ≡ lines_of setting (chronicle setting other)
  pub reports : reports (chronicle setting one) ≡ reports (chronicle setting other)
  pub broken : broken_in setting (seen_of (chronicle setting one)) ≡ broken_in setting (seen_of (chronicle setting other))

-- The same, so much later: clocks that are sent and reported, times of flights, and references of lines and reports are greater by this much.
pub record SaysTheSameLater (time : ℕ) (setting : Setting) (one other : List Event) : Type 0 where
  pub admitted : IsAdmitted setting one ↔ IsAdmitted setting other
  pub accepted : IsHistory setting one ↔ IsHistory setting other
  pub told : map (λ s. s.told) (chronicle setting one) ≡ map (moved_told time) (map (λ s. s.told) (chronicle setting other))
  pub flights : flights (chronicle setting one) ≡ map (moved_flight time) (flights (chronicle setting other))
  pub lines : lines_of setting (chronicle setting one) ≡ map (moved_line time) (lines_of setting (chronicle setting other))
  pub reports : reports (chronicle setting one) ≡ map (moved_report_at time) (reports (chronicle setting other))
  pub broken : broken_in setting (seen_of (chronicle setting one)) ≡ broken_in setting (seen_of (chronicle setting other))

-- Greater counters change nothing, where each life of each device has one number by which they are greater. Of one device alone it is a case: then
-- `by` is 0 for each other device, whatever the life.
abbrev pub CountersChangeNothing : Setting → Type 0
CountersChangeNothing setting = (by : ℕ → ℕ → ℕ) (events : List Event) → SaysTheSame setting (counters_moved by events) events

-- So nothing changes where counters count from the latest start or join of their device, if none is below the counter there. In an admitted history none is.
abbrev pub LivesChangeNothing : Setting → Type 0
LivesChangeNothing setting = (events : List Event) → NeverBelowMaking events → SaysTheSame setting (counters_of_lives events) events

-- Later times change times alone.
abbrev pub TimesChangeTimes : Setting → Type 0
TimesChangeTimes setting = (time : ℕ) (events : List Event) → SaysTheSameLater time setting (times_moved time events) events

-- Both at once.
abbrev pub MovesChangeTimes : Setting → Type 0
MovesChangeTimes setting =
    (time : ℕ) (by : ℕ → ℕ → ℕ) (events : List Event) → SaysTheSameLater time setting (moved_events time by events) events

-- What is refused is refused for the same cause, where each device has one number for all of its lives.
abbrev pub RefusedAlike : Setting → Type 0
RefusedAlike setting =
    (time : ℕ) (by : ℕ → ℕ) (earlier : List Event) (e : Event)
    → refusal setting (chronicle setting (moved_events time (λ d life. by d) earlier)) (moved_event time (map_or (device_of e) 0 by) e)
    ≡ refusal setting (chronicle setting earlier) e
