use Rattle.std.proofs.Common.{not, ◌∙◌, ap}
use Rattle.std.specs.List.{filter}
use Rattle.sd_device.specs.msg.Books.{Book, is_swept}
use Rattle.sd_device.specs.msg.Spent.{is_left}
use Rattle.sd_device.proofs.msg.Books.{seen_numbered, seen_swept}
use Rattle.sd_device.proofs.msg.book.FlightBook.sweep.Goals as goal

pub returns-clause-given : goal.returns-clause-given
returns-clause-given c =
    let b = c.self.inside in
    seen_numbered (is_left c.sweep.new.self) b.last c.sweep.new.self b.flights.items (c.sweep.ensures.kept b.flights.items c.self.invariant)

pub returns-clause-flights : goal.returns-clause-flights
returns-clause-flights c =
    let b = c.self.inside in
    seen_swept b.last b.spent c.sweep.new.self c.args.thing c.sweep.ensures.left b.flights.items c.self.invariant
    ∙ ap (λ (k : Book). filter (λ f. not (is_swept c.args.thing f)) k.flights) c.self.view_is
