-- There are no more ends than links, in each of two plans.
use Rattle.std.proofs.Common.{ap, arith, subst}
use Rattle.std.specs.Prelude.{length, ◌+◌}
use Rattle.sd_fleet.specs.FabricView.{registers_seen}
use Rattle.sd_fleet.specs.Sound.{IsSound}
use Rattle.sd_fleet.proofs.FabricKeeping.{ends_sound}
use Rattle.sd_fleet.proofs.fabric.Fabric.ends_of.Goals as goal

pub overflow_add-result : goal.overflow_add-result
overflow_add-result c =
    let sound : IsSound c.args.self.now = subst IsSound c.self.view_is c.self.invariant in
    let one = (ends_sound (registers_seen c.self.inside) c.epoch.result c.args.d c.self.invariant).few in
    let two = (ends_sound c.args.self.now (c.args.self.now.membership.world.epoch + 1) c.args.d sound).few in
    let same = ap length c.ends_below-in_force.ensures in
    omega (arith, one, two, same, c.staged_ends.ensures, c.self.invariant.net.links, sound.net.links)
