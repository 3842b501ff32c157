-- What is true of each report whose own lineage is honest, whatever else is not: clocks of relays, of other devices, and messages that are no part of it.
use Rattle.std.specs.Prelude.{◌≡◌, ◌<◌, List, ◌∷◌, ◌++◌, Some, IsTrue, is_some}
use Rattle.sd_num.specs.clock.Estimates.{contains}
use Rattle.sd_device.specs.msg.Observed.{ReportAt}
use Rattle.sd_sched.specs.declared.Event.{Event}
use Rattle.sd_history.specs.World.{Setting}
use Rattle.sd_history.specs.Steps.{seen_of}
use Rattle.sd_history.specs.Chronicle.{chronicle}
use Rattle.sd_history.specs.Admitted.{IsAdmitted}
use Rattle.sd_history.specs.Premises.{is_honest}
use Rattle.sd_replay.specs.wait.Waits.{stamp_of, surely_after}
use Rattle.sd_beside.specs.lineage.Lineage.{Lineage, is_honest_lineage, report_lineage, latest_report}

-- the latest event of the history asks for this report, and its lineage is this
pub record IsReported (setting : Setting) (history : List Event) (x : ReportAt) (lineage : Lineage) : Type 0 where
  pub report : latest_report (chronicle setting history) ≡ Some x
  pub lineage_is : report_lineage (chronicle setting history) ≡ Some lineage

-- each report has a lineage
abbrev pub HasLineage : Setting → Type 0
HasLineage setting =
    (history : List Event) (x : ReportAt) → IsAdmitted setting history → latest_report (chronicle setting history) ≡ Some x
    → IsTrue (is_some (report_lineage (chronicle setting history)))

-- and contains its reference where that is honest
abbrev pub LineageContains : Setting → Type 0
LineageContains setting =
    (history : List Event) (x : ReportAt) (lineage : Lineage) → IsAdmitted setting history → IsReported setting history x lineage
    → IsTrue (is_honest_lineage setting lineage) → IsTrue (contains x.report x.reference)

-- While clocks, oscillators and links are honest, each lineage is. So that each report then contains its reference is a case of the law above.
abbrev pub HonestLineage : Setting → Type 0
HonestLineage setting =
    (history : List Event) (x : ReportAt) (lineage : Lineage) → IsAdmitted setting history → IsTrue (is_honest setting (seen_of (chronicle setting history)))
    → IsReported setting history x lineage → IsTrue (is_honest_lineage setting lineage)

-- A transaction that began with one report ended at another, and a later report begins a new one: its stamp is greater, where the lineages of the report
-- that ended the first and of the one that begins the second are honest.
abbrev pub LineageOrders : Setting → Type 0
LineageOrders setting =
    (begun ended next : ReportAt) (of_ended of_next : Lineage) (e f : Event) (before between : List Event)
    → IsAdmitted setting (f ∷ between ++ e ∷ before)
    → IsReported setting (e ∷ before) ended of_ended → IsTrue (is_honest_lineage setting of_ended)
    → IsReported setting (f ∷ between ++ e ∷ before) next of_next → IsTrue (is_honest_lineage setting of_next)
    → IsTrue (surely_after begun ended) → stamp_of begun < stamp_of next
