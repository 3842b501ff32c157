use Rattle.std.proofs.Common.{◌≡◌, length}
use Rattle.sd_plan.specs.topo.Network.{Each}
use Rattle.sd_plan.specs.topo.Topologies.{network}
use Rattle.sd_plan.specs.Plans.{Fits}
use Rattle.sd_checker.specs.Conditions.{IsAccepted}
use Rattle.sd_test_replay.proofs.tests.accepted.accepted_plans.Given as goal

-- each of the plans so far is accepted, and there are as many as texts
abbrev pub invariant-loop-text : goal.invariant-loop-text
invariant-loop-text l = record {
  fit : Each (Fits (network l.topo)) l.plans.items;
  accepted : Each (IsAccepted (network l.topo)) l.plans.items;
  count : length l.plans.items ≡ l.text-index;
}
