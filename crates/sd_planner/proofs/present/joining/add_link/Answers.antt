use Rattle.std.proofs.Common.{◌≡◌, ◌<◌, length, ap, ◌∙◌, arith}
use Rattle.std.proofs.lemmas.Result.{on_ok_weaker}
use Rattle.sd_plan.specs.topo.Network.{link_of}
use Rattle.sd_plan.specs.topo.Limits.{IsLink}
use Rattle.sd_plan.specs.topo.Topologies.{network}
use Rattle.sd_plan.proofs.topo.Laws.{link_law}
use Rattle.sd_planner.specs.Gathered.{over_before}
use Rattle.sd_plan.proofs.Numbered.{length-numbered}
use Rattle.sd_planner.proofs.Over.{rows_over, rows_same}
use Rattle.sd_planner.proofs.present.joining.add_link.Goals as goal

pub returns-then-not-usable-l : goal.returns-then-not-usable-l
returns-then-not-usable-l c = rows_same (network c.args.topo.now) c.args.usable.now c.args.l c.args.rows.now c.if-not-usable-l.true c.requires.rows

pub add_neighbour-requires : goal.add_neighbour-requires
add_neighbour-requires c =
    let size : length c.args.rows.now ≡ length (network c.args.topo.now).devices =
    ap length c.requires.rows
    ∙ length-numbered (over_before (network c.args.topo.now) c.args.usable.now c.args.l) (length (network c.args.topo.now).devices) in
    let law : IsLink (length (network c.args.topo.now).devices) (link_of (network c.args.topo.now) c.args.l) =
    link_law (network c.args.topo.now) c.args.l c.args.topo.now.is_network c.requires.link in
    rw (c.link-link.ensures, size) law.first

pub add_neighbour-requires-2 : goal.add_neighbour-requires-2
add_neighbour-requires-2 c =
    let size : length c.args.rows.now ≡ length (network c.args.topo.now).devices =
    ap length c.requires.rows
    ∙ length-numbered (over_before (network c.args.topo.now) c.args.usable.now c.args.l) (length (network c.args.topo.now).devices) in
    let law : IsLink (length (network c.args.topo.now).devices) (link_of (network c.args.topo.now) c.args.l) =
    link_law (network c.args.topo.now) c.args.l c.args.topo.now.is_network c.requires.link in
    let within : c.link-link.result.end_b < length (network c.args.topo.now).devices = rw c.link-link.ensures law.second in
    omega arith

pub returns : goal.returns
returns c =
    let net = network c.args.topo.now in
    on_ok_weaker c.add_neighbour-2.result
    (λ second. rows_over net c.args.usable.now c.args.l c.link-link.result c.args.rows.now c.add_neighbour.new.rows c.add_neighbour-2.new.rows
    c.args.topo.now.is_network c.requires.link
    c.if-not-usable-l.false c.link-link.ensures c.requires.rows (omega arith) (omega arith) c.in_ok-add_neighbour.ensures second)
    c.add_neighbour-2.ensures
