use Rattle.std.proofs.Common.{◌∙◌, ap, refl, length, None}
use Rattle.std.proofs.lemmas.List.{length-replicate}
use Rattle.sd_plan.specs.topo.Topologies.{network}
use Rattle.sd_fleet.specs.Nodes.{node_at}
use Rattle.sd_fleet.proofs.Applying.{no_node, nodes_first}
use Rattle.sd_fleet.proofs.fleet.Fleet.new.Goals as goal

pub invariant_of-result : goal.invariant_of-result
invariant_of-result g c =
    record {
      are_nodes =
          nodes_first g.N.Node c.in_ok-fabric.fabric c.in_ok-nodes.nodes.items (record { net = network c.args.topo.now; plans = c.args.plans.now })
          (c.in_ok-fabric.ensures.stands (record { net = network c.args.topo.now; plans = c.args.plans.now }) refl refl)
          (ap length c.in_ok-nodes.ensures ∙ length-replicate c.devices.result None ∙ c.devices.ensures.count)
          (λ d. ap (λ ns. node_at ns d) c.in_ok-nodes.ensures ∙ no_node c.devices.result d);
    }

pub returns : goal.returns
returns g c =
    record {
      stands =
          λ setting net plans.
          record {
            is_run = tt;
            fabric = c.in_ok-fabric.ensures.stands setting net plans;
            nodes = λ d within. ap (λ ns. node_at ns d) c.in_ok-nodes.ensures ∙ no_node c.devices.result d;
          };
    }
