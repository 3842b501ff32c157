use Rattle.sd_plan.proofs.topo.Adding.{added, added_len}
use Rattle.sd_plan.proofs.topo.parts.add_named.Goals as goal

pub returns-in-Ok-insert-clause-ok : goal.returns-in-Ok-insert-clause-ok
returns-in-Ok-insert-clause-ok g c =
    added c.args.things.now c.insert.new.self c.in-Ok.key c.args.name.now c.args.thing c.requires c.in-Ok.ensures.ok c.in-Ok-insert.ensures.entries c.in-Ok-insert.ensures.hasher

pub returns-in-Ok-insert-clause-len : goal.returns-in-Ok-insert-clause-len
returns-in-Ok-insert-clause-len g c =
    added_len c.args.things.now c.insert.new.self c.args.name.now c.args.thing
    (added c.args.things.now c.insert.new.self c.in-Ok.key c.args.name.now c.args.thing c.requires c.in-Ok.ensures.ok c.in-Ok-insert.ensures.entries c.in-Ok-insert.ensures.hasher)
