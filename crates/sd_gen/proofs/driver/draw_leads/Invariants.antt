use Rattle.std.proofs.Common.{◌≡◌, ◌++◌, ◌-◌, ◌%◌, map}
use Rattle.rand_core.specs.Steps.{first_words}
use Rattle.rand_pcg.specs.Lcg.{advance}
use Rattle.rand_pcg.specs.Pcg.{multiplier_64, pcg32}
use Rattle.sd_gen.proofs.driver.draw_leads.Given as goal

abbrev pub invariant-draws : goal.invariant-draws
invariant-draws l =
    record {
      leads : l.leads.items ++ map (λ w. w % 301) (first_words pcg32 (l.devices - l.counter) l.random)
          ≡ map (λ w. w % 301) (first_words pcg32 l.devices l.fn.random);
      random : advance 64 multiplier_64 (l.devices - l.counter) l.random ≡ advance 64 multiplier_64 l.devices l.fn.random;
    }
