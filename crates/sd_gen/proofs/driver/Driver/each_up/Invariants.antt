use Rattle.std.proofs.Common.{◌≡◌}
use Rattle.sd_num.specs.Lists.{below}
use Rattle.sd_history.specs.World.{Setting}
use Rattle.sd_gen.specs.Drafts.{Draft, each, try_if_up}
use Rattle.sd_gen.specs.Turns.{event_by}
use Rattle.sd_gen.specs.Standing.{StandsFor}
use Rattle.sd_gen.proofs.driver.Driver.each_up.Given as goal

abbrev pub invariant-loop-d : goal.invariant-loop-d
invariant-loop-d g l =
    record {
      leads : l.self.leads.items ≡ l.fn.self.leads.items;
      stands : (setting : Setting) (x : Draft) → StandsFor g.D.Driven l.fn.self setting x
          → StandsFor g.D.Driven l.self setting (each (try_if_up setting (event_by l.turn l.reference x.leads)) (below l.d) x);
    }
