use Rattle.std.proofs.Common.{nat_eq, not, ◌&&◌, sym, ap, ◌∙◌}
use Rattle.std.proofs.lemmas.Bool.{ne_eqb, eq-eqb, not_from_true, and_left}
use Rattle.sd_plan.specs.IndexedPlan.{stands_below, is_cut_before}
use Rattle.sd_plan.proofs.Cutting.{has_device_by}
use Rattle.sd_plan.proofs.index.WalkIndex.epath_has_device.Goals as goal

pub returns-then-d-a : goal.returns-then-d-a
returns-then-d-a c net plan law member other =
    let index = c.args.self.now in
    c.comes_before_cut.ensures
    ∙ sym (ap (λ b. not b && (stands_below index c.args.d c.args.a && not (is_cut_before index c.args.d c.args.a))) (ne_eqb c.args.d c.args.a c.if-d-a.true))
    ∙ has_device_by net plan index c.args.d c.args.a law c.requires.device c.requires.above member other

pub returns-else-d-a : goal.returns-else-d-a
returns-else-d-a c net plan law member other =
    let index = c.args.self.now in
    let same = not_from_true (nat_eq c.args.d c.args.a) (eq-eqb c.args.d c.args.a c.if-d-a.false) in
    same
    ∙ sym (and_left (not (nat_eq c.args.d c.args.a)) (stands_below index c.args.d c.args.a && not (is_cut_before index c.args.d c.args.a)) same)
    ∙ has_device_by net plan index c.args.d c.args.a law c.requires.device c.requires.above member other
