use Rattle.sd_record.specs.merge.Works.{merge_work}
use Rattle.sd_record.proofs.merge.Laws.{feed_is_merged}
use Rattle.sd_record.proofs.merge.Working.{does_nothing_yet, merge_whole}
use Rattle.sd_record.proofs.merge.merging.merge_feed.Goals as goal

pub returns-clause-outcome : goal.returns-clause-outcome
returns-clause-outcome g c =
    c.go_through.ensures.outcome (merge_work c.args.count)
    (does_nothing_yet c.in_ok-work.work c.args.count c.in_ok-work.ensures.logs c.in_ok-work.ensures.begun) (merge_whole c.args.count)

pub returns-clause-merged : goal.returns-clause-merged
returns-clause-merged g c = feed_is_merged c.args.count

pub returns-in_err-work-clause-merged : goal.returns-in_err-work-clause-merged
returns-in_err-work-clause-merged g c = feed_is_merged c.args.count
