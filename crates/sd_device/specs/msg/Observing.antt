-- What an observer is told, and what one that keeps it shows.
use Rattle.std.specs.Prelude.{ℕ, List}
use Rattle.sd_num.specs.declared.clock.Report.{Report}
use Rattle.sd_device.specs.msg.Observed.{ReportAt}
use Rattle.sd_device.specs.declared.msg.SeenReport.{SeenReport}

-- a report with its line, its device and its reference time
abbrev pub report_at : ℕ → ℕ → ℕ → Report → ReportAt
report_at line device reference report = record { line = line; device = device; reference = reference; report = report }

-- a kept report, as an observer is told of it
abbrev pub as_seen : SeenReport → ReportAt
as_seen s = report_at s.line s.device s.reference s.report

-- the reports that were told, the oldest first, and for how many more there is room
pub record Kept : Type 0 where
  pub reports : List ReportAt
  pub room : ℕ
