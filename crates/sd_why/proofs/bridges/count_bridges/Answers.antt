use Rattle.std.proofs.Common.{◌+◌, ◌∙◌, sym, subst, arith}
use Rattle.sd_planner.specs.Views.{net_of}
use Rattle.sd_why.specs.Bridges.{CountsBelow}
use Rattle.sd_why.proofs.BridgeCounts.{counts_more, counts_same}
use Rattle.sd_why.proofs.bridges.count_bridges.Goals as goal
use Rattle.sd_why.proofs.bridges.count_bridges.Goals.{then-is_bridge, else-is_bridge}

pub loop-link-preserved : goal.loop-link-preserved
loop-link-preserved c =
    let net = net_of c.args.present.now in
    let link = c.loop-link.link in
    let count = c.loop-link.count in
    let counted = c.loop-link.invariant.counted in
    let room = c.is_bridge.ensures.room ∙ c.loop-link.invariant.room in
    elim c.if-is_bridge.branch [
      | then-is_bridge w ↦
          record {
            room = room;
            counted = subst (λ n. CountsBelow net (link + 1) n) (sym w.count-is)
                (counts_more net link count (c.is_bridge.ensures.bridge w.if-is_bridge.true) counted);
            most = omega (arith, w.count-is, c.loop-link.invariant.most);
          }
      | else-is_bridge w ↦
          record {
            room = room;
            counted = subst (λ n. CountsBelow net (link + 1) n) (sym w.count-is)
                (counts_same net link count (c.is_bridge.ensures.none w.if-is_bridge.false) counted);
            most = omega (arith, w.count-is, c.loop-link.invariant.most);
          }
    ]
