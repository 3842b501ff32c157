-- What an observer sees: a report with the number of its line, its device and its reference time. Lists of them have the oldest first.
use Rattle.std.specs.Prelude.{ℕ}
use Rattle.sd_num.specs.declared.clock.Report.{Report}

-- a report, where it was printed and of which device
pub record ReportAt : Type 0 where
  pub line : ℕ
  pub device : ℕ
  pub reference : ℕ
  pub report : Report
