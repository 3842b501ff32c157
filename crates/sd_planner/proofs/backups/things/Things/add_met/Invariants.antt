use Rattle.sd_plan.specs.topo.Topologies.{network}
use Rattle.sd_planner.specs.Things.{AddsAll, met_device, met_link}
use Rattle.sd_planner.proofs.backups.things.Things.add_met.Given as goal

abbrev pub invariant-loop-domain : goal.invariant-loop-domain
invariant-loop-domain l = AddsAll (met_device (network l.topo) l.others l.domain) (met_link (network l.topo) l.others l.domain) l.fn.self l.self
