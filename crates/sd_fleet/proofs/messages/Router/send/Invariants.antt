-- Over the ends so far the message was sent.
use Rattle.sd_plan.specs.topo.Topologies.{network}
use Rattle.sd_fleet.proofs.Adding.{SentOver}
use Rattle.sd_fleet.proofs.messages.Router.send.Given as goal

abbrev pub invariant-loop-end : goal.invariant-loop-end
invariant-loop-end l = SentOver (network l.self.topology.now) l.self.world.now l.sending l.ends l.initial.book l.end-index l.book l.sent
