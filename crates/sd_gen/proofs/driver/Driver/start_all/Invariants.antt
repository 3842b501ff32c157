use Rattle.sd_num.specs.Lists.{below}
use Rattle.sd_history.specs.World.{Setting}
use Rattle.sd_gen.specs.Drafts.{Draft, each, try, start_of}
use Rattle.sd_gen.specs.Standing.{StandsFor}
use Rattle.sd_gen.proofs.driver.Driver.start_all.Given as goal

abbrev pub invariant-loop-device : goal.invariant-loop-device
invariant-loop-device g l =
    (setting : Setting) (x : Draft) → StandsFor g.D.Driven l.fn.self setting x
    → StandsFor g.D.Driven l.self setting (each (λ d. try setting (start_of setting d)) (below l.device) x)
