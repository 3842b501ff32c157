use Rattle.std.proofs.Common.{◌≡◌, ◌<◌, length, ap, ◌∙◌, arith}
use Rattle.std.proofs.lemmas.Result.{on_ok_weaker}
use Rattle.sd_plan.specs.topo.Network.{link_of}
use Rattle.sd_plan.specs.topo.Limits.{IsLink}
use Rattle.sd_plan.specs.topo.Topologies.{network}
use Rattle.sd_plan.proofs.topo.Laws.{link_law}
use Rattle.sd_plan.specs.Tables.{ends_before}
use Rattle.sd_plan.proofs.Numbered.{length-numbered}
use Rattle.sd_plan.proofs.Over.{rows_more}
use Rattle.sd_plan.proofs.Rules.{keeps_rules}
use Rattle.sd_plan.proofs.table.ends.add_link.Goals as goal

pub add_end-requires-clause-parent : goal.add_end-requires-clause-parent
add_end-requires-clause-parent c =
    let size : length c.args.rows.now ≡ length (network c.args.topo.now).devices =
    ap length c.requires.rows
    ∙ length-numbered (ends_before (network c.args.topo.now) c.args.plan.now c.args.l) (length (network c.args.topo.now).devices) in
    let law : IsLink (length (network c.args.topo.now).devices) (link_of (network c.args.topo.now) c.args.l) =
    link_law (network c.args.topo.now) c.args.l c.args.topo.now.is_network c.requires.link in
    rw (c.link-link.ensures, size) law.first

pub add_end-requires-2-clause-parent : goal.add_end-requires-2-clause-parent
add_end-requires-2-clause-parent c =
    let size : length c.args.rows.now ≡ length (network c.args.topo.now).devices =
    ap length c.requires.rows
    ∙ length-numbered (ends_before (network c.args.topo.now) c.args.plan.now c.args.l) (length (network c.args.topo.now).devices) in
    let law : IsLink (length (network c.args.topo.now).devices) (link_of (network c.args.topo.now) c.args.l) =
    link_law (network c.args.topo.now) c.args.l c.args.topo.now.is_network c.requires.link in
    let within : c.link-link.result.end_b < length (network c.args.topo.now).devices = rw c.link-link.ensures law.second in
    let other : c.link-link.result.end_a < length (network c.args.topo.now).devices = rw c.link-link.ensures law.first in
    omega arith

pub returns : goal.returns
returns c =
    let first = c.in_ok-add_end.ensures in
    on_ok_weaker c.add_end-2.result
    (λ second. rows_more (network c.args.topo.now) c.args.plan.now c.args.l c.args.rows.now c.add_end.new.rows c.add_end-2.new.rows c.args.topo.now.is_network
    (keeps_rules (network c.args.topo.now) c.args.plan.now c.requires.structured) c.requires.link c.requires.rows (omega arith) (omega arith)
    (rw (← c.link-link.ensures) first) (rw (← c.link-link.ensures) second))
    c.add_end-2.ensures
