-- What is found in the book is what the words on histories say.
use Rattle.std.proofs.Common.{◌∙◌, ap}
use Rattle.sd_device.specs.msg.Books.{found}
use Rattle.sd_history.specs.Steps.{flight_count}
use Rattle.sd_history.proofs.flights.Looks.{look_is}
use Rattle.sd_fleet.proofs.fabric.Fabric.flight.Goals as goal

pub returns-clause-stands : goal.returns-clause-stands
returns-clause-stands c =
    λ setting steps stands.
    c.look.ensures.flight
    ∙ ap (λ r. found r.book.last r.book.flights c.args.number) c.self.view_is
    ∙ ap (λ last. found last c.args.self.now.book.flights c.args.number) stands.sent
    ∙ ap (λ flights. found (flight_count steps) flights c.args.number) stands.flights
    ∙ look_is setting steps c.args.number stands.accepted
