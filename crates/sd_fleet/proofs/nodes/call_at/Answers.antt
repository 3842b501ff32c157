-- The node at the place is the one that is told of, and what can be done is what the step asks.
use Rattle.std.proofs.Common.{rules, ◌≡◌, length, Some, None, refl}
use Rattle.std.proofs.lemmas.List.{get_or_read_under}
use Rattle.sd_fleet.specs.Nodes.{node_at}
use Rattle.sd_fleet.proofs.nodes.call_at.Goals as goal

pub call-effect-requires-clause-can : goal.call-effect-requires-clause-can
call-effect-requires-clause-can g c =
    let read = get_or_read_under c.args.nodes.now c.args.d (length c.args.nodes.now) c.index-nodes-d.result None c.index-nodes-d.is c.requires.can.0 refl in
    let here : node_at c.args.nodes.now c.args.d ≡ Some c.in-Some.node = search (rules, read) in
    (c.requires.can.2 c.in-Some.node here).can

pub answers_of-answers-requires : goal.answers_of-answers-requires
answers_of-answers-requires g c =
    let read = get_or_read_under c.args.nodes.now c.args.d (length c.args.nodes.now) c.index-nodes-d.result None c.index-nodes-d.is c.requires.can.0 refl in
    let here : node_at c.args.nodes.now c.args.d ≡ Some c.in-Some.node = search (rules, read) in
    c.given_by.ensures _ _ c.call-effect.ensures.given (c.requires.can.2 c.in-Some.node here).given
