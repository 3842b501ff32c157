use Rattle.std.proofs.Common.{ap, Ok, Err}
use Rattle.sd_topotext.specs.Meaning.{network_of}
use Rattle.sd_topotext.specs.Reading.{tree_of}
use Rattle.sd_plan.specs.topo.Topologies.{network}
use Rattle.sd_files.specs.Inputs.{refused_for}
use Rattle.sd_files.specs.declared.command_error.FileFault.TheVariants as fault
use Rattle.sd_files.specs.declared.command_error.Input.TheVariants as input
use Rattle.sd_files.proofs.Loading.{unread_says, text_says, topology_fails}
use Rattle.sd_files.proofs.load.load_topology.Goals as goal

pub returns-in-Err-clause-says : goal.returns-in-Err-clause-says
returns-in-Err-clause-says g c =
    unread_says network input.Topology fault.Topology (λ t. network_of (tree_of t)) _ c.args.name.now c.in-Err.fault c.unread.result
    c.unread.ensures (λ is. c.in-Err.ensures.too_long (ap Err is))

pub returns-in-Ok-read_topology-clause-says : goal.returns-in-Ok-read_topology-clause-says
returns-in-Ok-read_topology-clause-says g c =
    text_says network input.Topology fault.Topology (λ t. network_of (tree_of t)) _ c.args.name.now c.in-Ok.text.items c.as_slice.result.now _
    (Ok c.in-Ok-read_topology.topology) c.as_slice.ensures.value c.as_slice.ensures.len c.in-Ok.ensures.whole c.in-Ok.ensures.short
    (ap (refused_for input.Topology fault.Topology) c.in-Ok-read_topology.ensures)

pub returns-clause-says : goal.returns-clause-says
returns-clause-says g c =
    text_says network input.Topology fault.Topology (λ t. network_of (tree_of t)) _ c.args.name.now c.in-Ok.text.items c.as_slice.result.now _
    (Err c.by_topology.result) c.as_slice.ensures.value c.as_slice.ensures.len c.in-Ok.ensures.whole c.in-Ok.ensures.short
    (topology_fails network c.in-Err-read_topology.fault _ c.by_topology.result c.by_topology.ensures c.in-Err-read_topology.ensures)
