use Rattle.std.proofs.Common.{arith}
use Rattle.sd_plan.specs.topo.Topologies.{network}
use Rattle.sd_planner.proofs.Bounds.{silence_bound}
use Rattle.sd_planner.proofs.waits.least_waits.Goals as goal

pub least_wait-first-requires-clause-bound : goal.least_wait-first-requires-clause-bound
least_wait-first-requires-clause-bound c =
    omega (arith, c.silence_and_tick-silent.ensures.is, silence_bound (network c.args.topo.now) c.args.topo.now.is_network)

pub least_wait-ordinary-requires-clause-bound : goal.least_wait-ordinary-requires-clause-bound
least_wait-ordinary-requires-clause-bound c =
    omega (
      arith,
      c.silence_and_tick-silent.ensures.is,
      silence_bound
          (network c.args.topo.now) c.args.topo.now.is_network,
      c.least_wait-first.ensures.bound,
      c.greatest_up-moved.ensures.bound,
    )

pub returns-clause-bounds : goal.returns-clause-bounds
returns-clause-bounds c =
    let silent = silence_bound (network c.args.topo.now) c.args.topo.now.is_network in (
      omega (arith, c.silence_and_tick-silent.ensures.is, silent, c.least_wait-first.ensures.bound),
      omega (arith, c.silence_and_tick-silent.ensures.is, silent, c.least_wait-first.ensures.bound),
      omega (
        arith,
        c.silence_and_tick-silent.ensures.is,
        silent,
        c.least_wait-first.ensures.bound,
        c.greatest_up-moved.ensures.bound,
        c.least_wait-ordinary.ensures.bound,
      ),
    )
