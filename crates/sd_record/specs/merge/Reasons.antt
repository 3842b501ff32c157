-- Why a line of a feed is refused, as it is printed.
use Rattle.std.specs.Prelude.{ℕ, List, codes}
use Rattle.sd_record.specs.logs.Reasons.{line_reason}
use Rattle.sd_record.specs.declared.merge.feed.FeedFault.{FeedFault}
use Rattle.sd_record.specs.declared.merge.feed.FeedFault.TheVariants.{Line, OutOfOrder, UnknownLog}

abbrev pub reason : FeedFault → List ℕ
reason UnknownLog = codes "UnknownLog"
reason OutOfOrder = codes "OutOfOrder"
reason (Line fault) = line_reason fault
