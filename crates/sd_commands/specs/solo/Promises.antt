-- What is promised of the reports of one device alone.
use Rattle.std.specs.Prelude.{ℕ, Bool, true, ◌&&◌, List, [], ◌∷◌, IsTrue}
use Rattle.std.specs.List.{list_all}
use Rattle.sd_num.specs.Lists.{map_or}
use Rattle.sd_num.specs.clock.Estimates.{contains}
use Rattle.sd_sched.specs.declared.Event.{Event}
use Rattle.sd_sched.specs.Honesty.{sets_true_clock, keeps_reading}
use Rattle.sd_sched.specs.Events.{reference_of, counter_of}
use Rattle.sd_commands.specs.solo.Histories.{rates, report_by, IsHistory}

-- the premise *start*
abbrev pub start_holds : List Event → Bool
start_holds events = list_all sets_true_clock events

-- a reading at this counter and reference keeps the rates with the reading of an earlier event, where that is one
abbrev pub keeps_with : ℕ → ℕ → Event → Bool
keeps_with counter reference earlier = map_or (counter_of earlier) true (λ c. keeps_reading rates (reference, counter) (reference_of earlier, c))

-- the counter of the event, if it has one, keeps the rates with all earlier readings
abbrev pub reads_honestly : Event → List Event → Bool
reads_honestly e earlier = map_or (counter_of e) true (λ counter. list_all (keeps_with counter (reference_of e)) earlier)

-- the premise *drift*: of all pairs of readings
abbrev pub drift_holds : List Event → Bool
drift_holds [] = true
drift_holds (e ∷ earlier) = drift_holds earlier && reads_honestly e earlier

-- a report of the event, if it makes one, has the reference time in it
abbrev pub reports_truly : List Event → Event → Bool
reports_truly earlier e = map_or (report_by earlier e) true (λ report. contains report (reference_of e))

-- While the clock and the oscillator are honest, each reported interval has its reference time in it: of the latest event, and so of each.
abbrev pub ReportsContain : Type 0
ReportsContain =
    (e : Event) (earlier : List Event) → IsHistory (e ∷ earlier) → IsTrue (start_holds (e ∷ earlier)) → IsTrue (drift_holds (e ∷ earlier))
    → IsTrue (reports_truly earlier e)
