use Rattle.std.proofs.Common.{◌-◌, ◌^◌}
use Rattle.sd_history.specs.World.{Setting}
use Rattle.sd_gen.specs.Drafts.{Draft, receive_until}
use Rattle.sd_gen.specs.Standing.{StandsFor}
use Rattle.sd_gen.proofs.Receiving.{StillTo}
use Rattle.sd_gen.proofs.driver.Driver.receive_until.Given as goal

abbrev pub invariant-receipts : goal.invariant-receipts
invariant-receipts g l =
    (setting : Setting) (x : Draft) → StandsFor g.D.Driven l.fn.self setting x
    → StillTo g.D.Driven l.self setting l.moment (2 ^ 64 - 1 - l.counter) (receive_until setting l.moment x)
