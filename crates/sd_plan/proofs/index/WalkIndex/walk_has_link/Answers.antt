use Rattle.std.proofs.Common.{◌<◌, length, subst, sym, ap, ◌∙◌}
use Rattle.sd_plan.proofs.Cutting.{walk_link_by, walk_no_link_by, child_within}
use Rattle.sd_plan.proofs.index.WalkIndex.walk_has_link.Goals as goal

pub stands_below-requires-clause-above : goal.stands_below-requires-clause-above
stands_below-requires-clause-above c =
    let inside = c.self.inside in
    subst (λ index. c.in-Some.child < length index.spans) c.self.view_is
    (child_within (length inside.spans.items) inside.carried.items c.args.self.now.carried c.args.link c.in-Some.child c.self.invariant.children
    (ap (λ index. index.carried) c.self.view_is) c.requires.range c.in-Some.ensures)

pub returns-in-Some : goal.returns-in-Some
returns-in-Some c net plan law member =
    c.stands_below.ensures
    ∙ walk_link_by net plan c.args.self.now c.args.d c.args.link c.in-Some.child law c.requires.device c.requires.range (sym c.in-Some.ensures) member

pub returns-in-None : goal.returns-in-None
returns-in-None c net plan law member =
    walk_no_link_by net plan c.args.self.now c.args.d c.args.link law c.requires.device c.requires.range (sym c.in-None.ensures)
