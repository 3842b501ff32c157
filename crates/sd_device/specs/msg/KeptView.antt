-- What the fields of an observer that keeps its reports stand for.
use Rattle.std.specs.Prelude.{◌-◌, map, vec_len, vec_capacity}
use Rattle.sd_device.specs.msg.Observing.{Kept, as_seen}
use Rattle.sd_device.specs.declared.msg.kept.KeptReports.TheInside.{Inside}

-- what the fields stand for: the reports, and the room for more
abbrev pub kept_seen : Inside → Kept
kept_seen k = record { reports = map as_seen k.reports.items; room = vec_capacity k.reports - vec_len k.reports }
