-- The node at the place is the one that is told of.
use Rattle.std.proofs.Common.{rules, ◌≡◌, length, Some, None, refl}
use Rattle.std.proofs.lemmas.List.{get_or_read_under}
use Rattle.sd_fleet.specs.Nodes.{node_at}
use Rattle.sd_fleet.proofs.quick_calls.emit_at.Goals as goal

pub emit-requires-clause-can : goal.emit-requires-clause-can
emit-requires-clause-can g c =
    let read = get_or_read_under c.args.nodes.now c.args.d (length c.args.nodes.now) c.index-nodes-d.result None c.index-nodes-d.is c.requires.place refl in
    let here : node_at c.args.nodes.now c.args.d ≡ Some c.in-Some.node = search (rules, read) in
    (c.requires.callable c.in-Some.node here).can
