use Rattle.std.proofs.Common.{◌≡◌, rules}
use Rattle.sd_resume.proofs.Apart.{otherwise_same, otherwise_times}
use Rattle.sd_resume.proofs.duties.are_equal_otherwise.Goals as goal

pub returns-clause-same : goal.returns-clause-same
returns-clause-same c =
    let role : c.args.one.now.role ≡ c.args.other.now.role = search rules in
    λ yes.
    otherwise_same c.args.one.now c.args.other.now role (c.are_same_edges.ensures.same c.if-not-are_same_edges.false)
    (c.are_same_edges-2.ensures.same c.if-not-are_same_edges-2.false) (c.have_same_times.ensures.same yes)

pub returns-clause-differs : goal.returns-clause-differs
returns-clause-differs c = λ no same. c.have_same_times.ensures.differs no (otherwise_times c.args.one.now c.args.other.now same)
