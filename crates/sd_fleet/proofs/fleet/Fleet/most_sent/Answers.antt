use Rattle.std.proofs.Common.{◌∙◌}
use Rattle.sd_history.specs.Nodes.{steps_of}
use Rattle.sd_fleet.proofs.Room.{most_sent_is}
use Rattle.sd_fleet.proofs.fleet.Fleet.most_sent.Goals as goal

pub returns-clause-exact : goal.returns-clause-exact
returns-clause-exact g c = λ setting run stands. c.most_sent.ensures ∙ most_sent_is setting c.args.self.now.fabric (steps_of run) c.args.event.now stands.fabric
