use Rattle.std.proofs.Common.{◌∙◌, ℕ, ap, sym, subst, arith}
use Rattle.sd_num.specs.declared.Rates.{Rates}
use Rattle.sd_plan.specs.topo.Limits.{IsRates}
use Rattle.sd_plan.specs.topo.Topologies.{network}
use Rattle.sd_plan.proofs.topo.Laws.{rates_law}
use Rattle.sd_drill.specs.Calm.{lag}
use Rattle.sd_drill.specs.ages.Ages.{IsOldest, ageing}
use Rattle.sd_drill.proofs.calm.CalmTimes.number.Goals as goal

pub ageing-growth-requires-clause-rates : goal.ageing-growth-requires-clause-rates
ageing-growth-requires-clause-rates c =
    subst IsRates (sym c.rates-rates.ensures) (rates_law (network c.args.planned.topo.now) c.args.d c.args.planned.topo.now.is_network c.requires.device)

pub returns : goal.returns
returns c =
    let net = network c.args.planned.topo.now in
    let oldest = c.oldest.result in
    record {
      oldest = oldest;
      is_oldest = subst (λ (rates : Rates). IsOldest rates (lag net) oldest)
          c.rates-rates.ensures (subst (λ (n : ℕ). IsOldest c.rates-rates.result n oldest) c.requires.times.silence c.oldest.ensures.is);
      sum = omega (
        arith,
        c.requires.times.sent,
        c.halves_to_root.ensures.is,
        c.ageing-growth.ensures.is ∙ ap (λ (rates : Rates). ageing rates oldest) c.rates-rates.ensures,
      );
    }
