use Rattle.sd_history.specs.Steps.{flight_count}
use Rattle.sd_gen.proofs.Receiving.{received_next}
use Rattle.sd_gen.proofs.driver.Driver.receive_next.Goals as goal

pub returns : goal.returns
returns g c setting x stands =
    received_next g.D.Driven c.args.self.now c.receive.new.self c.take_by.new.self c.in-Some.arrival c.args.moment setting x stands
    (c.in-Some.ensures.next (flight_count x.steps) x.waiting stands.arrivals)
    (c.in-Some.ensures.stands (flight_count x.steps) x.waiting stands.arrivals) c.in_ok-receive.ensures
