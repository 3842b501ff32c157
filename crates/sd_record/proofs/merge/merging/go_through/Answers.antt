use Rattle.std.proofs.Common.{true}
use Rattle.sd_files.specs.Answering.{InWrites}
use Rattle.sd_files.specs.work.Ending.{LeavesAt}
use Rattle.sd_files.specs.work.Works.{InSteps, IsOutcome}
use Rattle.sd_record.proofs.Working.{text_begun}
use Rattle.sd_record.proofs.merge.merging.go_through.Goals as goal

pub returns-in-Ok-clause-outcome : goal.returns-in-Ok-clause-outcome
returns-in-Ok-clause-outcome g c =
    λ w does whole.
    text_begun (g.S.Shelf.held c.args.shelf.now) c.args.feed.now (g.S.Shelf.rest c.begin.new.self)
    (λ text. LeavesAt true (InWrites (InSteps w text) (IsOutcome w text)) (g.O.Sink.written c.args.out.now) (g.O.Sink.written c.work_through.new.out)
    c.work_through.result) c.in-Ok.ensures.text (c.work_through.ensures.outcome w does whole)
