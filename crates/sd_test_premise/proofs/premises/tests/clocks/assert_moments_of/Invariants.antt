use Rattle.std.proofs.Common.{◌≡◌, length}
use Rattle.sd_plan.specs.topo.Topologies.{network}
use Rattle.sd_test_premise.proofs.premises.tests.clocks.assert_moments_of.Given as goal

abbrev pub invariant-loop-moment : goal.invariant-loop-moment
invariant-loop-moment g l = length l.monitor.lives ≡ length (network l.topo).devices
