use Rattle.std.proofs.Common.{sym, subst}
use Rattle.sd_plan.specs.topo.Network.{Each, Network}
use Rattle.sd_plan.specs.topo.Topologies.{network}
use Rattle.sd_plan.specs.Plans.{Fits}
use Rattle.sd_checker.specs.Conditions.{IsAccepted}
use Rattle.sd_resume.proofs.command.Takings.{begins}
use Rattle.sd_resume.proofs.command.resuming.begin.Goals as goal

pub over-requires-clause-fit : goal.over-requires-clause-fit
over-requires-clause-fit c = subst (λ (net : Network). Each (Fits net) c.args.plans.now) (sym c.in_ok-copy.ensures) c.requires.fit

pub over-requires-clause-accepted : goal.over-requires-clause-accepted
over-requires-clause-accepted c = subst (λ (net : Network). Each (IsAccepted net) c.args.plans.now) (sym c.in_ok-copy.ensures) c.requires.accepted

pub returns : goal.returns
returns c = begins (network c.args.topo.now) (network c.in_ok-copy.copy) c.args.plans.now c.over.result c.in_ok-copy.ensures c.over.ensures.stands
