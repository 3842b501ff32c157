use Rattle.std.proofs.Common.{ap, sym, ◌∙◌, max}
use Rattle.sd_plan.proofs.topo.Adding.{longest_more}
use Rattle.sd_plan.proofs.topo.parts.longest_delay.Goals as goal

pub loop-number-preserved : goal.loop-number-preserved
loop-number-preserved c =
    let link = c.index-link.result.now in
    c.max-longest.ensures ∙ ap (λ m. max m link.back_max) c.max.ensures ∙ ap (λ m. max (max m link.max) link.back_max) c.loop-number.invariant
    ∙ sym (longest_more c.args.links.now.entries c.loop-number.number link c.index-link.ensures)
