use Rattle.std.proofs.Common.{ℕ, Bool, List, subst}
use Rattle.sd_checker.specs.check_reach.Aftermaths.{net_of, plan_of, domain_of, hit_of}
use Rattle.sd_checker.specs.check_reach.Turns.{IsFollowed, IsMarkedFed}
use Rattle.sd_checker.proofs.check_reach.Following.{fed_right}
use Rattle.sd_checker.proofs.check_reach.aftermath.Aftermath.mark_from.Goals as goal

pub returns-then-branch-clause-marks : goal.returns-then-branch-clause-marks
returns-then-branch-clause-marks c =
    let o = c.args.self.now in
    let net = net_of o in
    let hit = hit_of o in
    let trail = c.follow.new.trail.items in
    fed_right net (plan_of o) (domain_of o) hit c.args.start c.args.marks.now c.follow.new.marks c.mark_fed.new.marks trail c.requires.marks
    (subst (λ (b : Bool). IsFollowed net (plan_of o) (domain_of o) hit c.args.start c.args.marks.now c.follow.new.marks trail b) c.if-branch.true
    c.in_ok-follow.ensures)
    (subst (λ (xs : List ℕ). IsMarkedFed xs c.follow.new.marks c.mark_fed.new.marks) c.as_slice.ensures.value c.mark_fed.ensures)
