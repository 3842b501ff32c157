use Rattle.std.proofs.Common.{◌≡◌, ℕ, ◌<◌, ◌≤◌, arith, below_more}
use Rattle.sd_plan.specs.declared.topo.Thing.TheVariants.{Link}
use Rattle.sd_resume.specs.Honesty.{failed_since, links_of_both}
use Rattle.sd_resume.proofs.honesty.compare_links.Goals as goal

pub returns-then-not-failed_in_both-clause-differs : goal.returns-then-not-failed_in_both-clause-differs
returns-then-not-failed_in_both-clause-differs c = c.failed_in_both.ensures.differs c.if-not-failed_in_both.true

pub loop-l-preserved : goal.loop-l-preserved
loop-l-preserved c shift net front plans one other of_first of_second alike =
    below_more (λ l. failed_since one (Link l) ≡ failed_since other (Link l)) c.loop-l.l
    (c.loop-l.invariant shift net front plans one other of_first of_second alike)
    (c.failed_in_both.ensures.same c.if-not-failed_in_both.false shift net front plans one other of_first of_second alike)

pub returns-clause-honest : goal.returns-clause-honest
returns-clause-honest c shift net front plans one other of_first of_second alike l within =
    let before : l < c.loop-l.l = reached l c.loop-l.l c.links_of_both-l-end.result (links_of_both c.args.first.now c.args.second.now) c.links_of_both-l-end.ensures
    c.loop-l-test.false within in
    c.loop-l.invariant shift net front plans one other of_first of_second alike l before
  where
    reached : (l at end count : ℕ) → end ≡ count → end ≤ at → l < count → l < at
    reached l at end count same done within' = omega (arith, same, done, within')
