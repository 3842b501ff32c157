use Rattle.std.proofs.Common.{◌≡◌}
use Rattle.sd_world.specs.membership.Counts.{count_below, seen_by}
use Rattle.sd_world.proofs.membership.settled_count.MemberStates.count_all.Given as goal

abbrev pub invariant-loop-d : goal.invariant-loop-d
invariant-loop-d l = l.settled_count ≡ count_below (seen_by l.self) l.d
