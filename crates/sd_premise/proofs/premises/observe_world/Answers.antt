use Rattle.std.proofs.Common.{sym, ap, ◌∙◌}
use Rattle.sd_world.specs.world.Registers.{registers_closed}
use Rattle.sd_monitors.specs.clocks.Sights.{sight_of}
use Rattle.sd_premise.proofs.Worlds.{world_stands, world_closed, world_open}
use Rattle.sd_premise.proofs.premises.observe_world.Goals as goal

pub returns-then-seen-clause-stands : goal.returns-then-seen-clause-stands
returns-then-seen-clause-stands c setting earlier =
    world_stands c.args.world.now _ setting (sight_of c.args.seen.now) earlier
    (c.close.ensures.registers ∙ ap registers_closed c.observe.ensures.registers
    ∙ sym (world_closed c.args.world.now (sight_of c.args.seen.now) c.if-seen.true))

pub returns-else-seen-clause-stands : goal.returns-else-seen-clause-stands
returns-else-seen-clause-stands c setting earlier =
    world_stands c.args.world.now _ setting (sight_of c.args.seen.now) earlier
    (c.observe.ensures.registers ∙ sym (world_open c.args.world.now (sight_of c.args.seen.now) c.if-seen.false))
