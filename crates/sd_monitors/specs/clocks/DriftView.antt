-- What contracts see of the monitor of drift.
use Rattle.sd_monitors.specs.clocks.Drifts.{DriftKept}
use Rattle.sd_monitors.specs.declared.clocks.drift.DriftMonitor.TheInside.{Inside}

-- its fields
abbrev pub drift_kept : Inside → DriftKept
drift_kept m = record { lives = m.lives.items; holds = m.holds }
