use Rattle.std.proofs.Common.{◌≡◌, ◌<◌, length, max, ap, sym, ◌∙◌, arith}
use Rattle.sd_num.specs.Lists.{greatest}
use Rattle.sd_num.specs.Numbers.{up}
use Rattle.sd_plan.specs.topo.Network.{rates_of}
use Rattle.sd_plan.specs.topo.Topologies.{network}
use Rattle.sd_checker.proofs.check_root.Extremes.{ups, greatest_more, up_bound}
use Rattle.sd_checker.proofs.check_root.waits.greatest_up.Goals as goal

pub loop-d-preserved : goal.loop-d-preserved
loop-d-preserved c =
    let net = network c.args.topo.now in
    let within : c.loop-d.d < length net.devices = omega arith in
    let here : c.up.result ≡ up (rates_of net c.loop-d.d) c.args.x = c.up.ensures ∙ ap (λ r. up r c.args.x) c.rates.ensures in
    record {
      is =
          c.greater-greatest.ensures
          ∙ ap (λ g. max g c.up.result) c.loop-d.invariant.is
          ∙ ap (λ u. max (greatest (ups net c.args.x c.loop-d.d)) u) here
          ∙ sym (greatest_more net c.args.x c.loop-d.d within);
      bound = omega (arith, c.greater-greatest.ensures, here, up_bound net c.args.x c.loop-d.d c.args.topo.now.is_network within, c.loop-d.invariant.bound);
    }
