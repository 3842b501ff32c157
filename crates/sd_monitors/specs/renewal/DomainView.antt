-- What contracts see of the monitor of failures.
use Rattle.sd_monitors.specs.renewal.Domains.{DomainKept}
use Rattle.sd_monitors.specs.declared.renewal.domain.DomainMonitor.TheInside.{Inside}

-- its fields
abbrev pub domain_kept : Inside → DomainKept
domain_kept m = record { failed = m.failed; holds = m.holds }
