use Rattle.std.proofs.Common.{◌≡◌, ◌-◌}
use Rattle.sd_gen.proofs.Posted.{Posts}
use Rattle.sd_gen.proofs.driver.Driver.post.Given as goal

abbrev pub invariant-loop-number : goal.invariant-loop-number
invariant-loop-number g l =
    record {
      leads : l.self.leads.items ≡ l.fn.self.leads.items;
      stands : Posts g.D.Driven l.fn.self l.self l.outcome l.reference (l.number - l.outcome.first_sent);
    }
