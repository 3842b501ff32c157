use Rattle.std.proofs.Common.{not, sym, ap, ◌≡◌, false, ◌∙◌}
use Rattle.std.proofs.lemmas.Bool.{ne_eqb}
use Rattle.sd_plan.specs.topo.Topologies.{network}
use Rattle.sd_plan.specs.Plans.{is_root}
use Rattle.sd_checker.proofs.Above.{above_by}
use Rattle.sd_checker.proofs.ancestor.is_on_short_walk.Goals as goal

pub returns : goal.returns
returns c =
    let net = network c.args.planned.topo.now in
    let plan = c.args.planned.plan.now in
    let no_root : is_root plan c.args.x ≡ false = ne_eqb plan.root c.args.x (λ same. c.if-x-planned.false (sym same)) in
    c.epath_has_device.ensures net plan c.args.planned.is_index c.requires.member (ap not no_root)
    ∙ above_by net plan c.args.x c.args.d c.if-d-x.false c.if-x-planned.false c.if-x-planned-2.false
