use Rattle.std.proofs.Common.{◌≡◌, ◌+◌, [], length, map, replicate, subst, refl, sym, ap, ◌∙◌, arith}
use Rattle.sd_plan.specs.topo.Network.{device_numbers}
use Rattle.sd_plan.specs.topo.Topologies.{network}
use Rattle.sd_plan.specs.Subtrees.{children_before, child_below}
use Rattle.sd_plan.proofs.Numbered.{length-numbered}
use Rattle.sd_plan.proofs.Listing.{rows_grown, rows_empty, children_grown, has_parent, written}
use Rattle.sd_plan.proofs.index.children.all_children.Goals as goal

pub loop-child-init : goal.loop-child-init
loop-child-init c =
    c.in_ok-lists.ensures
    ∙ subst (λ n. replicate n [] ≡ map (children_before c.args.plan.now 0) (device_numbers (network c.args.topo.now))) (sym c.devices.ensures)
    (rows_empty (children_before c.args.plan.now 0) (length (network c.args.topo.now).devices) (λ d within. refl))

pub add_child-requires-clause-parent : goal.add_child-requires-clause-parent
add_child-requires-clause-parent c =
    has_parent (network c.args.topo.now) c.args.plan.now c.loop-child.child (length c.deref_mut.result.now) c.requires.fits
    (ap length (c.deref_mut.ensures.value ∙ c.loop-child.invariant)
    ∙ length-numbered (children_before c.args.plan.now c.loop-child.child) (length (network c.args.topo.now).devices))

pub loop-child-preserved : goal.loop-child-preserved
loop-child-preserved c =
    let n = c.loop-child.child in
    written c.loop-child.lists.len c.add_child.new.lists c.loop-child.lists.items (omega (arith, c.loop-child.lists.ok.0))
    (c.add_child.auto.lists ∙ ap length c.deref_mut.ensures.value)
    ∙ rows_grown (children_before c.args.plan.now n) (children_before c.args.plan.now (n + 1)) (child_below c.args.plan.now n)
    (length (network c.args.topo.now).devices) c.deref_mut.result.now c.add_child.new.lists c.add_child.auto.lists
    (c.deref_mut.ensures.value ∙ c.loop-child.invariant) c.in_ok-add_child.ensures (λ d within. children_grown c.args.plan.now n d)
