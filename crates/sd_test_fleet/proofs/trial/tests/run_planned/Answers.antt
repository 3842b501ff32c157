use Rattle.sd_plan.specs.topo.Topologies.{network}
use Rattle.sd_test_fleet_kit.proofs.examples.Followed.{followed_as}
use Rattle.sd_test_fleet.proofs.trial.tests.run_planned.Goals as goal

pub run_histories-ran-requires-clause-sound : goal.run_histories-ran-requires-clause-sound
run_histories-ran-requires-clause-sound g c =
    followed_as (network c.args.topo.now) c.in_ok-plans.plans.items c.as_slice.result.now c.as_slice.ensures.value c.in_ok-plans.ensures.sound
