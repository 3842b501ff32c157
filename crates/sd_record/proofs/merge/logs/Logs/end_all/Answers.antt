use Rattle.std.proofs.Common.{arith, sym, ◌∙◌}
use Rattle.std.proofs.lemmas.List.{ext_get_or, get_or-map, length-map}
use Rattle.sd_record.specs.merge.Queues.{ended, new_queue}
use Rattle.sd_record.proofs.merge.logs.Logs.end_all.Goals as goal

pub returns : goal.returns
returns c =
    let many = length-map c.args.self.now ended in
    ext_get_or new_queue c.loop-place.self _ (omega (arith, many, c.loop-place.invariant.same))
    (λ k within. c.loop-place.invariant.done k (omega (arith, within))
    ∙ sym (get_or-map ended c.args.self.now k new_queue new_queue (omega (arith, within, c.loop-place.invariant.same))))
