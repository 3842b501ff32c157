-- Those that end lie between two bounds, and the first is found there.
use Rattle.std.proofs.Common.{List, filter, ap, ◌∙◌}
use Rattle.std.specs.BTreeMap.Range.{range_contains}
use Rattle.std.specs.List.{slice_get}
use Rattle.std.specs.declared.ops.Bound.TheVariants.{Included, Excluded}
use Rattle.sd_replay.specs.wait.Waiting.{least, order_of}
use Rattle.sd_replay.specs.declared.wait.transactions.Transaction.{Transaction}
use Rattle.sd_replay.proofs.wait.Keeping.{first_between, first_shown}
use Rattle.sd_replay.proofs.wait.transactions.first_below.Goals as goal

pub returns : goal.returns
returns c =
    c.copied.ensures ∙ first_shown c.range.result c.next.new.self c.next.result c.next.ensures.steps
    ∙ ap (λ (ts : List Transaction). slice_get ts 0)
    (c.range.ensures.between tt
    ∙ ap (λ (t : Transaction). filter (range_contains order_of (Included t) (Excluded c.least-2.result)) c.args.waiting.now.keys) c.least.ensures
    ∙ ap (λ (t : Transaction). filter (range_contains order_of (Included (least c.args.device 0)) (Excluded t)) c.args.waiting.now.keys) c.least-2.ensures)
    ∙ first_between c.args.device c.args.low c.args.waiting.now.keys
