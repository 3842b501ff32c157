use Rattle.std.proofs.Common.{IfSome, subst, sym, ◌∙◌, arith}
use Rattle.std.proofs.lemmas.Bool.{ne_eqb}
use Rattle.sd_plan.specs.topo.Topologies.{network}
use Rattle.sd_plan.specs.Plans.{IsHop}
use Rattle.sd_plan.proofs.Walking.{walks_on}
use Rattle.sd_plan.proofs.Rules.{hops_within}
use Rattle.sd_plan.proofs.structure.end_of_walk.Goals as goal

pub loop-left-preserved : goal.loop-left-preserved
loop-left-preserved c =
    let net = network c.args.topo.now in
    let other = ne_eqb c.args.plan.now.root c.loop-left.here (λ same. c.if-here-plan.true (sym same)) in
    let found = sym c.primary_of.ensures ∙ c.in-Some.is in
    record {
      same = c.loop-left.invariant.same
          ∙ walks_on c.args.plan.now c.loop-left.left c.loop-left.here c.in-Some.hop (omega (arith, c.loop-left-test.true)) other found;
      range = (subst (λ hop. IfSome hop (IsHop net)) found (hops_within net c.args.plan.now c.loop-left.here c.requires.fits).0).0;
    }
