use Rattle.std.proofs.Common.{refl}
use Rattle.sd_plan.specs.topo.Topologies.{network}
use Rattle.sd_test_fleet_kit.proofs.examples.Followed.{followed_as}
use Rattle.sd_test_fleet_kit.proofs.examples.fleets.fleet_over.Goals as goal

pub new-requires-clause-sound : goal.new-requires-clause-sound
new-requires-clause-sound g c =
    followed_as (network c.args.topo.now) c.in_ok-plans.plans.items c.as_slice.result.now c.as_slice.ensures.value c.in_ok-plans.ensures.sound

-- it stands for the empty run over this topology and these plans
pub returns : goal.returns
returns g c = (record { net = network c.args.topo.now; plans = c.as_slice.result.now }, c.in_ok-new.ensures.stands _ refl refl)
