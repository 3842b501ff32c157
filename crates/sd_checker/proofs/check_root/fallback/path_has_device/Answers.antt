use Rattle.std.proofs.Common.{◌&&◌, not, sym, ap, ◌∙◌, arith}
use Rattle.std.proofs.lemmas.Bool.{eq-eqb, ne_eqb}
use Rattle.sd_plan.specs.Walks.{on_walk}
use Rattle.sd_plan.specs.topo.Topologies.{network}
use Rattle.sd_checker.proofs.check_root.Paths.{path_device, backup_root_member}
use Rattle.sd_checker.proofs.check_root.fallback.path_has_device.Goals as goal

pub on_walk-requires-clause-device : goal.on_walk-requires-clause-device
on_walk-requires-clause-device c = let law = c.args.planned.is_index in omega (arith, law.spans, law.fits.backup_root)

pub on_walk-requires-clause-above : goal.on_walk-requires-clause-above
on_walk-requires-clause-above c = let law = c.args.planned.is_index in omega (arith, law.spans, c.requires)

pub returns-then-d-backup_root : goal.returns-then-d-backup_root
returns-then-d-backup_root c =
    let net = network c.args.planned.topo.now in
    let plan = c.args.planned.plan.now in
    let law = c.args.planned.is_index in
    c.on_walk.ensures net plan law (backup_root_member net plan law.structured)
    ∙ sym
    (path_device net plan plan.backup_root c.args.d law.fits law.structured law.fits.backup_root
    ∙ ap (λ t. not t && on_walk net plan plan.backup_root c.args.d) (ne_eqb c.args.d plan.backup_root c.if-d-backup_root.true))

pub returns-else-d-backup_root : goal.returns-else-d-backup_root
returns-else-d-backup_root c =
    let net = network c.args.planned.topo.now in
    let plan = c.args.planned.plan.now in
    let law = c.args.planned.is_index in
    let same = eq-eqb c.args.d plan.backup_root c.if-d-backup_root.false in
    ap not same
    ∙ sym
    (path_device net plan plan.backup_root c.args.d law.fits law.structured law.fits.backup_root
    ∙ ap (λ t. not t && on_walk net plan plan.backup_root c.args.d) same)
