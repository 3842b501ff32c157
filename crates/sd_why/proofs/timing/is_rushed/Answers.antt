use Rattle.std.proofs.Common.{◌≡◌, ◌<◌, length, refl, ap, ◌∙◌, arith}
use Rattle.sd_num.specs.Numbers.{low}
use Rattle.sd_plan.specs.topo.Network.{least_low, rates_of}
use Rattle.sd_plan.specs.topo.Topologies.{network}
use Rattle.sd_why.specs.Kinds.{IsRushed}
use Rattle.sd_why.proofs.Periods.{low_least, lows_above}
use Rattle.sd_why.proofs.timing.is_rushed.Goals as goal

pub returns-then-from-needed : goal.returns-then-from-needed
returns-then-from-needed c =
    let net = network c.args.topo.now in
    let d = c.loop-d.d in
    let within : d < length net.devices = omega arith in
    let low_is : c.low.result ≡ low (rates_of net d) net.params.period =
    c.low.ensures ∙ ap (λ r. low r c.params-period.result.period) c.rates.ensures ∙ ap (λ p. low (rates_of net d) p.period) c.params-period.ensures in
    let rushed : IsRushed net =
    omega (arith, low_least net net.params.period d within, low_is, c.from.ensures, c.if-from-needed.true, c.round_trip-needed.ensures) in
    (λ is. rushed, λ is. refl)

pub returns : goal.returns
returns c =
    let net = network c.args.topo.now in
    let above : c.round_trip-needed.result < least_low net c.params-period.result.period =
    lows_above net c.params-period.result.period c.round_trip-needed.result c.args.topo.now.is_network
    (λ d within. c.loop-d.invariant d (omega (arith, within, c.loop-d-test.false, c.devices-d-end.ensures))) in
    let same = ap (λ p. least_low net p.period) c.params-period.ensures in
    (λ is. cc, λ rushed. absurd (omega (arith, above, rushed, same, c.round_trip-needed.ensures)))
