use Rattle.sd_plan.specs.topo.Seen.{network_seen}
use Rattle.sd_topotext.specs.Reading.{tree_of}
use Rattle.sd_topotext.proofs.Meant.{meant_is_network}
use Rattle.sd_topotext.proofs.read.read_topology.Goals as goal

pub new-requires : goal.new-requires
new-requires c = meant_is_network (tree_of c.args.bytes.now) (network_seen c.in-Ok.parts) c.in-Ok.ensures.given
