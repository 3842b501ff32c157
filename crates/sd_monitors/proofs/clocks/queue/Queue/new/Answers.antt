use Rattle.std.proofs.Common.{map, ap, ◌∙◌}
use Rattle.sd_monitors.specs.declared.clocks.queue.Mark.{Mark}
use Rattle.sd_monitors.proofs.clocks.Queueing.{numbers_replicate}
use Rattle.sd_monitors.proofs.clocks.queue.Queue.new.Goals as goal

pub returns-in-Ok-with_capacity : goal.returns-in-Ok-with_capacity
returns-in-Ok-with_capacity c = ap (map (λ (m : Mark). m.number)) (c.in-Ok.ensures.items_if_clones_equal (λ y same. same))
    ∙ numbers_replicate c.args.places _
