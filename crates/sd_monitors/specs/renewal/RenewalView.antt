-- What contracts see of the monitor of renewals.
use Rattle.sd_monitors.specs.renewal.Renewals.{RenewalKept}
use Rattle.sd_monitors.specs.declared.renewal.renewal.RenewalMonitor.TheInside.{Inside}

-- its fields
abbrev pub renewal_kept : Inside → RenewalKept
renewal_kept m = record { progress = m.progress; holds = m.holds }
