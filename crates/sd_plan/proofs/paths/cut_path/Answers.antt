use Rattle.std.proofs.Common.{sym, ap, ◌∙◌, ◌++◌, List, arith}
use Rattle.sd_plan.specs.declared.topo.Thing.{Thing}
use Rattle.sd_plan.specs.topo.Topologies.{network}
use Rattle.sd_plan.specs.Cuts.{ends_at}
use Rattle.sd_plan.proofs.Steps.{goes_on, goes_with, primary_within}
use Rattle.sd_plan.proofs.paths.cut_path.Goals as goal

pub loop-left-preserved : goal.loop-left-preserved
loop-left-preserved c =
    let next = goes_on (ends_at c.args.cut c.args.plan.now) c.args.plan.now c.loop-left.left c.loop-left.here c.in-Some.hop (omega arith)
    (sym c.primary_of.ensures ∙ c.in-Some.is) (sym c.is_at.ensures ∙ c.if-is_at.false) in
    record {
      whole = c.loop-left.invariant.whole ∙ ap (λ (things : List Thing). c.loop-left.things ++ things) next
          ∙ goes_with c.loop-left.things c.add_hop.new.things c.in-Some.hop _ c.in_ok-add_hop.ensures;
      range = (primary_within (network c.args.topo.now) c.args.plan.now c.loop-left.here c.in-Some.hop c.requires.fits.rows
          (sym c.primary_of.ensures ∙ c.in-Some.is)).0;
    }
