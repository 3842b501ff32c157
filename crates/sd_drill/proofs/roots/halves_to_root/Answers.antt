use Rattle.std.proofs.Common.{◌≡◌, ◌∙◌, ◌≤◌, Option, IfSome, false, sym, subst, arith}
use Rattle.std.proofs.lemmas.Bool.{ne_eqb}
use Rattle.sd_plan.specs.topo.Topologies.{network}
use Rattle.sd_plan.specs.Plans.{IsHop, is_root}
use Rattle.sd_plan.specs.Tables.{EndsAt}
use Rattle.sd_plan.specs.declared.Hop.{Hop}
use Rattle.sd_plan.proofs.Rules.{keeps_rules, hops_within, both_end}
use Rattle.sd_drill.proofs.Ways.{halves_on, none_without_row}
use Rattle.sd_drill.proofs.roots.halves_to_root.Goals as goal

pub returns-in_default-clause-is : goal.returns-in_default-clause-is
returns-in_default-clause-is c =
    let net = network c.args.planned.topo.now in
    omega (
      arith,
      c.loop-left.invariant.same,
      none_without_row net c.args.planned.plan.now c.loop-left.left c.loop-left.here
          (sym c.primary_of.ensures ∙ c.in_default.is),
    )

pub half_of-sum-requires : goal.half_of-sum-requires
half_of-sum-requires c =
    let net = network c.args.planned.topo.now in
    let plan = c.args.planned.plan.now in
    let index = c.args.planned.is_index in
    subst (λ (hop : Option Hop). IfSome hop (EndsAt net c.loop-left.here)) (sym c.primary_of.ensures ∙ c.in-Some.is)
    (both_end net plan c.loop-left.here index.fits (keeps_rules net plan index.structured) c.loop-left.invariant.range).0

pub loop-left-preserved : goal.loop-left-preserved
loop-left-preserved c =
    let net = network c.args.planned.topo.now in
    let plan = c.args.planned.plan.now in
    let found = sym c.primary_of.ensures ∙ c.in-Some.is in
    let other : is_root plan c.loop-left.here ≡ false = ne_eqb plan.root c.loop-left.here (λ same. c.if-here-planned.true (sym same)) in
    let some : 1 ≤ c.loop-left.left = omega (arith, c.loop-left-test.true) in
    record {
      same = omega (
        arith,
        c.loop-left.invariant.same,
        c.half_of-sum.ensures.is,
        halves_on net plan c.loop-left.left c.loop-left.here c.in-Some.hop some other
            found,
      );
      range = (subst (λ (hop : Option Hop). IfSome hop (IsHop net)) found (hops_within net plan c.loop-left.here c.args.planned.is_index.fits).0).0;
      most = omega (arith, c.loop-left.invariant.most, c.half_of-sum.ensures.bound, some);
    }
