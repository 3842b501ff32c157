use Rattle.sd_gen.proofs.Posted.{nothing_found}
use Rattle.sd_gen.proofs.driver.Driver.post_one.Goals as goal

pub returns-in_default-clause-stands : goal.returns-in_default-clause-stands
returns-in_default-clause-stands g c setting x top above its stands =
    nothing_found g.D.Driven c.args.self.now setting x top c.args.number c.flight.result c.in_default.field-0 c.in_default.is
    (λ run before. c.flight.ensures setting run (c.fleet.ensures setting run before)) above stands
