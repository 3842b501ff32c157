use Rattle.std.proofs.Common.{◌<◌, length, subst, sym, ap, ◌∙◌}
use Rattle.sd_plan.proofs.Cutting.{has_link_by, has_no_link_by, child_within}
use Rattle.sd_plan.proofs.index.WalkIndex.epath_has_link.Goals as goal

pub hops_before_cut-requires-clause-child : goal.hops_before_cut-requires-clause-child
hops_before_cut-requires-clause-child c =
    let inside = c.self.inside in
    subst (λ index. c.in-Some.child < length index.spans) c.self.view_is
    (child_within (length inside.spans.items) inside.carried.items c.args.self.now.carried c.args.link c.in-Some.child c.self.invariant.children
    (ap (λ index. index.carried) c.self.view_is) c.requires.range c.in-Some.ensures)

pub returns-in-Some : goal.returns-in-Some
returns-in-Some c net plan law member other =
    c.hops_before_cut.ensures
    ∙ has_link_by net plan c.args.self.now c.args.d c.args.link c.in-Some.child law c.requires.device c.requires.range (sym c.in-Some.ensures) member other

pub returns-in-None : goal.returns-in-None
returns-in-None c net plan law member other =
    has_no_link_by net plan c.args.self.now c.args.d c.args.link law c.requires.device c.requires.range (sym c.in-None.ensures) other
