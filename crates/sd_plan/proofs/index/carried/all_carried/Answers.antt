use Rattle.std.proofs.Common.{length, find, ap, ◌∙◌, arith}
use Rattle.sd_num.specs.Lists.{below}
use Rattle.sd_plan.specs.topo.Topologies.{network}
use Rattle.sd_plan.specs.IndexedPlan.{goes_over}
use Rattle.sd_plan.proofs.Numbered.{length-numbered}
use Rattle.sd_plan.proofs.Forest.{forest_of}
use Rattle.sd_plan.proofs.Listing.{carried_none, carried_grown, has_link_within, written}
use Rattle.sd_plan.proofs.index.carried.all_carried.Goals as goal

pub loop-d-init : goal.loop-d-init
loop-d-init c = c.in_ok-carried.ensures ∙ carried_none (network c.args.topo.now) c.args.plan.now c.links.result c.links.ensures

pub carry-requires-clause-link : goal.carry-requires-clause-link
carry-requires-clause-link c =
    has_link_within (network c.args.topo.now) c.args.plan.now c.loop-d.d (length c.deref_mut.result.now) c.requires.fits
    (ap length (c.deref_mut.ensures.value ∙ c.loop-d.invariant)
    ∙ length-numbered (λ l. find (goes_over c.args.plan.now l) (below c.loop-d.d)) (length (network c.args.topo.now).links))

pub loop-d-preserved : goal.loop-d-preserved
loop-d-preserved c =
    written c.loop-d.carried.len c.carry.new.carried c.loop-d.carried.items (omega (arith, c.loop-d.carried.ok.0))
    (c.carry.auto.carried ∙ ap length c.deref_mut.ensures.value)
    ∙ carried_grown (network c.args.topo.now) c.args.plan.now
    (forest_of (network c.args.topo.now) c.args.plan.now c.requires.fits c.requires.structured) c.loop-d.d c.deref_mut.result.now c.carry.new.carried
    (omega arith)
    c.carry.auto.carried (c.deref_mut.ensures.value ∙ c.loop-d.invariant) c.carry.ensures
