-- Estimates of the reference time, and the reports that are made of them.
use Rattle.std.specs.Prelude.{ℕ, ◌+◌, ◌-◌, Bool, ◌&&◌, nat_le}
use Rattle.sd_num.specs.Numbers.{grow}
use Rattle.sd_num.specs.declared.Rates.{Rates}
use Rattle.sd_num.specs.declared.Bounds.{Bounds}
use Rattle.sd_num.specs.declared.clock.Estimate.{Estimate}
use Rattle.sd_num.specs.declared.clock.Report.{Report}

-- the estimate that is set to a clock and its uncertainty while the counter shows at
abbrev pub estimate_at : ℕ → ℕ → ℕ → Estimate
estimate_at clock eps at = record { clock = clock; base = eps; at = at }

-- the estimate after a report came that is corrected by the bounds
abbrev pub corrected : Report → Bounds → ℕ → Estimate
corrected sent bounds counter = record { clock = sent.clock + bounds.mid; base = sent.eps + bounds.half; at = counter }

-- the report at a counter: the clock has gone on as the counter has, and the uncertainty has grown by the grain and the drift since
abbrev pub report_of : Rates → Estimate → ℕ → Report
report_of rates estimate counter =
    record {
      clock = estimate.clock + (counter - estimate.at);
      eps = estimate.base + rates.grain + grow rates.ppm (counter - estimate.at);
    }

-- the interval from clock - eps to clock + eps has the reference time in it
abbrev pub contains : Report → ℕ → Bool
contains report reference = nat_le report.clock (reference + report.eps) && nat_le reference (report.clock + report.eps)
