use Rattle.sd_plan.specs.topo.Topologies.{network}
use Rattle.sd_plan.specs.Plans.{Fits}
use Rattle.sd_checker.specs.Conditions.{IsAccepted}
use Rattle.sd_test_replay.proofs.Longer.{each_as}
use Rattle.sd_test_replay.proofs.tests.replay_of.Goals as goal

pub new-requires-clause-fit : goal.new-requires-clause-fit
new-requires-clause-fit g c = each_as (Fits (network c.in_ok-topo.topo)) c.in_ok-plans.plans.items c.from_vec.result c.from_vec.ensures c.in_ok-plans.ensures.fit

pub new-requires-clause-accepted : goal.new-requires-clause-accepted
new-requires-clause-accepted g c =
    each_as (IsAccepted (network c.in_ok-topo.topo)) c.in_ok-plans.plans.items c.from_vec.result c.from_vec.ensures c.in_ok-plans.ensures.accepted
