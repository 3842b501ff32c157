use Rattle.std.proofs.Common.{List, subst, sym}
use Rattle.sd_plan.specs.topo.Network.{Each}
use Rattle.sd_plan.specs.topo.Topologies.{network}
use Rattle.sd_plan.specs.declared.Plan.{Plan}
use Rattle.sd_plan.specs.Plans.{Fits}
use Rattle.sd_checker.specs.Conditions.{IsAccepted}
use Rattle.sd_replay.proofs.replay.Replay.new.Goals as goal

pub over-requires-clause-fit : goal.over-requires-clause-fit
over-requires-clause-fit g c = subst (λ (plans : List Plan). Each (Fits (network c.args.topo)) plans) (sym c.as_slice.ensures) c.requires.fit

pub over-requires-clause-accepted : goal.over-requires-clause-accepted
over-requires-clause-accepted g c = subst (λ (plans : List Plan). Each (IsAccepted (network c.args.topo)) plans) (sym c.as_slice.ensures) c.requires.accepted
