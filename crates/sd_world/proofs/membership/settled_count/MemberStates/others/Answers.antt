use Rattle.sd_world.specs.membership.Counts.{seen_by}
use Rattle.sd_world.proofs.membership.Totals.{named_low}
use Rattle.sd_world.proofs.membership.settled_count.MemberStates.others.Goals as goal

pub minus-requires-clause-present : goal.minus-requires-clause-present
minus-requires-clause-present c = rw (c.count_named.ensures, c.requires.settled_count) (named_low (seen_by c.args.self.now) c.args.device c.requires.range).0

pub minus-requires-clause-settled : goal.minus-requires-clause-settled
minus-requires-clause-settled c = rw (c.count_named.ensures, c.requires.settled_count) (named_low (seen_by c.args.self.now) c.args.device c.requires.range).1
