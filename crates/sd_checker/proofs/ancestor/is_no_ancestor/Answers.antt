use Rattle.std.proofs.Common.{not, sym, ap, ◌∙◌, arith}
use Rattle.sd_plan.specs.topo.Topologies.{network}
use Rattle.sd_checker.proofs.Above.{backup_right, root_ancestor}
use Rattle.sd_checker.proofs.ancestor.is_no_ancestor.Goals as goal

pub on_walk-requires-clause-device : goal.on_walk-requires-clause-device
on_walk-requires-clause-device c =
    let law = c.args.planned.is_index in
    let known = (backup_right (network c.args.planned.topo.now) c.args.planned.plan.now c.args.d c.in-Some.hop law.fits law.structured c.requires.device
    (sym c.backup_of.ensures ∙ c.in-Some.is)).0 in
    omega (arith, known, law.spans)

pub is_on_short_walk-requires-clause-range : goal.is_on_short_walk-requires-clause-range
is_on_short_walk-requires-clause-range c =
    let law = c.args.planned.is_index in
    (backup_right (network c.args.planned.topo.now) c.args.planned.plan.now c.args.d c.in-Some.hop law.fits law.structured c.requires.device
    (sym c.backup_of.ensures ∙ c.in-Some.is)).0

pub is_on_short_walk-requires-clause-member : goal.is_on_short_walk-requires-clause-member
is_on_short_walk-requires-clause-member c =
    let law = c.args.planned.is_index in
    (backup_right (network c.args.planned.topo.now) c.args.planned.plan.now c.args.d c.in-Some.hop law.fits law.structured c.requires.device
    (sym c.backup_of.ensures ∙ c.in-Some.is)).1

pub returns-then-d-planned : goal.returns-then-d-planned
returns-then-d-planned c =
    let law = c.args.planned.is_index in
    let net = network c.args.planned.topo.now in
    let found = sym c.backup_of.ensures ∙ c.in-Some.is in
    let member = (backup_right net c.args.planned.plan.now c.args.d c.in-Some.hop law.fits law.structured c.requires.device found).1 in
    ap not (c.on_walk.ensures net c.args.planned.plan.now law member)
    ∙ sym (root_ancestor net c.args.planned.plan.now c.args.d c.in-Some.hop found c.if-d-planned.true)
