use Rattle.std.proofs.Common.{◌∙◌, ap, sym, subst, arith}
use Rattle.sd_num.specs.declared.Rates.{Rates}
use Rattle.sd_plan.specs.topo.Limits.{IsRates}
use Rattle.sd_plan.specs.topo.Topologies.{network}
use Rattle.sd_plan.proofs.topo.Laws.{rates_law}
use Rattle.sd_drill.specs.ages.Ages.{IsOldest, ageing}
use Rattle.sd_drill.proofs.tight.TightTimes.growth.Goals as goal

pub ageing-requires-clause-rates : goal.ageing-requires-clause-rates
ageing-requires-clause-rates c =
    subst IsRates (sym c.rates-rates.ensures) (rates_law (network c.args.topo.now) c.args.d c.args.topo.now.is_network c.requires.device)

pub returns : goal.returns
returns c =
    record {
      oldest = c.oldest.result;
      is_oldest = subst (λ (rates : Rates). IsOldest rates c.args.self.silence c.oldest.result) c.rates-rates.ensures c.oldest.ensures.is;
      grown = c.ageing.ensures.is ∙ ap (λ (rates : Rates). ageing rates c.oldest.result) c.rates-rates.ensures;
      bound = omega (arith, c.requires.silence, c.oldest.ensures.bound, c.ageing.ensures.bound);
    }
