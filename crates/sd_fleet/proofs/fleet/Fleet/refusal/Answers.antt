use Rattle.std.proofs.Common.{◌∙◌}
use Rattle.sd_history.specs.Nodes.{steps_of}
use Rattle.sd_fleet.proofs.Refused.{refusal_is}
use Rattle.sd_fleet.proofs.fleet.Fleet.refusal.Goals as goal

pub returns-clause-exact : goal.returns-clause-exact
returns-clause-exact g c = λ setting run stands. c.refusal.ensures ∙ refusal_is setting c.args.self.now.fabric (steps_of run) c.args.event.now stands.fabric
