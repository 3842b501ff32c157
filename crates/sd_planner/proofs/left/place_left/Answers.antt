use Rattle.std.proofs.Common.{length, ◌∙◌, sym, subst, arith}
use Rattle.sd_planner.specs.Views.{net_of, left_out}
use Rattle.sd_planner.specs.Trees.{IsTree}
use Rattle.sd_planner.specs.Waits.{IsPlacedNext, IsNextStep}
use Rattle.sd_planner.proofs.Growing.{with_next_tree}
use Rattle.sd_planner.proofs.Waiters.{left_turn}
use Rattle.sd_planner.proofs.left.place_left.Goals as goal

pub loop-preserved : goal.loop-preserved
loop-preserved c =
    let net = net_of c.args.present.now in
    let absent = left_out c.args.present.now in
    let old = c.loop.placement.order in
    let new = c.place_lowest.new.placement.order in
    let step : IsPlacedNext net absent old new c.place_lowest.new.waiting =
    subst (λ more. IsNextStep net absent more old new c.place_lowest.new.waiting) c.in-Ok-true.field-0-test c.in-Ok-true.ensures.step
    in
    let (root, tree) = c.loop.invariant.grown in
    record {
      count = c.in-Ok-true.ensures.count ∙ c.loop.invariant.count;
      grown = (root, subst (IsTree net root absent) (sym step.with_it) (with_next_tree net root absent old step.lowest tree step.next));
      waiting = step.waiting;
      left = left_turn net absent (length net.devices) c.loop.counter old new step.lowest (omega (arith, c.devices-end.ensures)) step.next step.with_it
          ∙ c.loop.invariant.left;
    }
