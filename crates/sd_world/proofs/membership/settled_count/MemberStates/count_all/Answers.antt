use Rattle.std.proofs.Common.{arith}
use Rattle.sd_world.specs.membership.Counts.{seen_by}
use Rattle.sd_world.proofs.membership.Totals.{room_below}
use Rattle.sd_world.proofs.membership.settled_count.MemberStates.count_all.Goals as goal

pub plus-settled_count-requires-clause-present : goal.plus-settled_count-requires-clause-present
plus-settled_count-requires-clause-present c =
    rw (c.loop-d.invariant, c.count.ensures) (room_below (seen_by c.args.self.now) c.loop-d.d c.requires.sound (omega arith)).0

pub plus-settled_count-requires-clause-settled : goal.plus-settled_count-requires-clause-settled
plus-settled_count-requires-clause-settled c =
    rw (c.loop-d.invariant, c.count.ensures) (room_below (seen_by c.args.self.now) c.loop-d.d c.requires.sound (omega arith)).1
