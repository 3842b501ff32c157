-- How a device recovers from a domain: whether it comes to hear the acting end, and what its walks reach.
use Rattle.std.specs.Prelude.{ℕ, Decides}
use Rattle.sd_plan.specs.topo.Network.{Network}
use Rattle.sd_plan.specs.declared.domain.DomainId.{DomainId}
use Rattle.sd_plan.specs.declared.Plan.{Plan}
use Rattle.sd_checker.specs.check_reach.Reach.{Fed}
use Rattle.sd_drill.specs.recovery.Reaches.{ReachesFrom}
use Rattle.sd_drill.specs.declared.recovery.Recovery.{Recovery}

-- the recovery tells whether the device comes to hear, and what its walks reach
pub record IsRecovery (net : Network) (plan : Plan) (f : DomainId) (d : ℕ) (recovery : Recovery) : Type 0 where
  pub fed : Decides recovery.fed (Fed net plan f d)
  pub reach : ReachesFrom net plan f d recovery.reach
