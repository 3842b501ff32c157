use Rattle.std.proofs.Common.{◌≡◌, ◌∙◌, ℕ, ◌+◌, ◌*◌, ◌^◌, ◌≤◌, ap, sym, subst, arith}
use Rattle.std.proofs.Math.Nat.{mul-le-mul}
use Rattle.sd_num.specs.declared.Rates.{Rates}
use Rattle.sd_plan.specs.topo.Limits.{IsRates}
use Rattle.sd_plan.specs.topo.Topologies.{network}
use Rattle.sd_plan.proofs.topo.Laws.{rates_law}
use Rattle.sd_checker.specs.check_root.Timing.{silence}
use Rattle.sd_drill.specs.ages.Ages.{IsOldest, ageing}
use Rattle.sd_drill.specs.Drill.{settling, quiet}
use Rattle.sd_drill.proofs.times.Times.growth.Goals as goal

pub ageing-requires-clause-rates : goal.ageing-requires-clause-rates
ageing-requires-clause-rates c =
    subst IsRates (sym c.rates-rates.ensures) (rates_law (network c.args.planned.topo.now) c.args.d c.args.planned.topo.now.is_network c.requires.device)

pub returns : goal.returns
returns c =
    let net = network c.args.planned.topo.now in
    let plan = c.args.planned.plan.now in
    let times = c.args.self in
    let oldest = c.oldest.result in
    let passed : ℕ = times.settling + 2 * times.silence * (c.from.result + 1) in
    let quiet_is : passed ≡ quiet net plan c.args.long =
    ap (λ (n : ℕ). n + 2 * times.silence * (c.from.result + 1)) c.requires.times.settling
    ∙ ap (λ (n : ℕ). settling net plan + 2 * n * (c.from.result + 1)) c.requires.times.silence
    ∙ ap (λ (n : ℕ). settling net plan + 2 * silence net * (n + 1)) c.from.ensures in
    let few : c.from.result + 1 ≤ 66 = omega (arith, c.from.ensures, c.requires.long, c.args.planned.topo.now.is_network.depth.1) in
    let silent : 2 * times.silence ≤ 2 ^ 81 = omega (arith, c.requires.times.silence_bound) in
    let product : 2 * times.silence * (c.from.result + 1) ≤ 2 ^ 81 * 66 = mul-le-mul silent few in
    let bounded : passed ≤ 2 ^ 96 = omega (arith, product, c.requires.times.settling_bound) in
    record {
      oldest = oldest;
      is_oldest = subst (λ (rates : Rates). IsOldest rates (quiet net plan c.args.long) oldest)
          c.rates-rates.ensures (subst (λ (n : ℕ). IsOldest c.rates-rates.result n oldest) quiet_is c.oldest.ensures.is);
      grown = c.ageing.ensures.is ∙ ap (λ (rates : Rates). ageing rates oldest) c.rates-rates.ensures;
      bound = omega (arith, bounded, c.oldest.ensures.bound, c.ageing.ensures.bound);
    }
