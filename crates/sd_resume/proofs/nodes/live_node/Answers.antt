use Rattle.std.proofs.Common.{◌≡◌, Some, Bor, option_map, sym, ◌∙◌, ap, arith}
use Rattle.sd_device.specs.declared.registers.Registers.{Registers}
use Rattle.sd_device.specs.contracts.device.DeviceNode.TheImpl.{ghosts as device}
use Rattle.sd_fleet.specs.Nodes.{node_at}
use Rattle.sd_fleet.specs.Bounds.{IsKept}
use Rattle.sd_resume.proofs.nodes.live_node.Goals as goal

pub returns-clause-ceiling : goal.returns-clause-ceiling
returns-clause-ceiling c =
    let fleet = c.args.fleet.now in
    let is : node_at fleet.nodes.items c.args.d ≡ Some c.in-Some.node.now =
    sym c.node.ensures ∙ ap (option_map (λ (node : Bor Registers). node.now)) c.in-Some.is in
    let kept : IsKept device fleet.fabric c.args.d c.in-Some.node.now = fleet.are_nodes.kept c.args.d c.in-Some.node.now is in
    omega (arith, kept.numbers.ceiling, c.world.ensures.sound.events)
