use Rattle.sd_fleet.proofs.Applying.{nodes_grown}
use Rattle.sd_fleet.proofs.fleet.Fleet.ready.Goals as goal

pub invariant_of-self : goal.invariant_of-self
invariant_of-self g c =
    record { are_nodes = nodes_grown g.N.Node c.args.self.now.fabric c.ready.new.self c.args.self.now.nodes.items c.args.self.now.are_nodes c.ready.ensures.others }
