use Rattle.std.proofs.Common.{refl}
use Rattle.sd_plan.specs.topo.Topologies.{network}
use Rattle.sd_commands.specs.twoway.Twoways.{twoway_work}
use Rattle.sd_top.proofs.twoway.bound_links.Goals as goal

pub returns-clause-outcome : goal.returns-clause-outcome
returns-clause-outcome g c = c.work_through.ensures.outcome (twoway_work (network c.args.topo.now)) c.in-Ok.ensures (λ taken x. refl)

pub returns-clause-near : goal.returns-clause-near
returns-clause-near g c = λ refused. c.work_through.ensures.near (twoway_work (network c.args.topo.now)) c.in-Ok.ensures refused
