use Rattle.std.proofs.Common.{◌≡◌, ◌<◌, ◌+◌, [], length, get_or, refl, sym, ap, ◌∙◌, arith, append-nil}
use Rattle.std.proofs.lemmas.Result.{on_ok_weaker}
use Rattle.sd_plan.specs.topo.Network.{link_of}
use Rattle.sd_plan.specs.topo.Limits.{IsLink}
use Rattle.sd_plan.specs.topo.Topologies.{network}
use Rattle.sd_plan.proofs.topo.Laws.{link_law}
use Rattle.sd_plan.specs.Usable.{usable_before}
use Rattle.sd_plan.proofs.Numbered.{length-numbered}
use Rattle.sd_plan.proofs.Listing.{rows_grown, usable_rows, usable_same}
use Rattle.sd_plan.proofs.index.usable.add_link.Goals as goal

pub returns-then-not-present : goal.returns-then-not-present
returns-then-not-present c =
    rows_grown (usable_before (network c.args.topo.now) c.args.plan.now c.args.l) (usable_before (network c.args.topo.now) c.args.plan.now (c.args.l + 1))
    (λ d. []) (length (network c.args.topo.now).devices) c.args.rows.now c.args.rows.now
    refl c.requires.rows (λ d within. sym (append-nil (get_or c.args.rows.now d [])))
    (λ d within. usable_same (network c.args.topo.now) c.args.plan.now c.args.l d (sym c.requires.present ∙ c.if-not-present.true))

pub add_usable-requires-clause-at : goal.add_usable-requires-clause-at
add_usable-requires-clause-at c =
    let size : length c.args.rows.now ≡ length (network c.args.topo.now).devices =
    ap length c.requires.rows
    ∙ length-numbered (usable_before (network c.args.topo.now) c.args.plan.now c.args.l) (length (network c.args.topo.now).devices) in
    let law : IsLink (length (network c.args.topo.now).devices) (link_of (network c.args.topo.now) c.args.l) =
    link_law (network c.args.topo.now) c.args.l c.args.topo.now.is_network c.requires.link in
    rw (c.link-link.ensures, size) law.first

pub add_usable-requires-2-clause-at : goal.add_usable-requires-2-clause-at
add_usable-requires-2-clause-at c =
    let size : length c.args.rows.now ≡ length (network c.args.topo.now).devices =
    ap length c.requires.rows
    ∙ length-numbered (usable_before (network c.args.topo.now) c.args.plan.now c.args.l) (length (network c.args.topo.now).devices) in
    let law : IsLink (length (network c.args.topo.now).devices) (link_of (network c.args.topo.now) c.args.l) =
    link_law (network c.args.topo.now) c.args.l c.args.topo.now.is_network c.requires.link in
    let within : c.link-link.result.end_b < length (network c.args.topo.now).devices = rw c.link-link.ensures law.second in
    omega arith

pub returns : goal.returns
returns c =
    let net = network c.args.topo.now in
    on_ok_weaker c.add_usable-2.result
    (λ second. usable_rows net c.args.plan.now c.args.l c.link-link.result c.args.rows.now c.add_usable.new.rows c.add_usable-2.new.rows
    c.args.topo.now.is_network c.requires.link
    (sym c.requires.present ∙ c.if-not-present.false) c.link-link.ensures c.requires.rows (omega arith) (omega arith) c.in_ok-add_usable.ensures second)
    c.add_usable-2.ensures
