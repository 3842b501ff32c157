use Rattle.std.proofs.Common.{◌∙◌, ap}
use Rattle.std.specs.List.{filter}
use Rattle.sd_device.specs.msg.Books.{Book, is_current}
use Rattle.sd_device.specs.msg.Spent.{is_left}
use Rattle.sd_device.proofs.msg.Books.{seen_numbered, seen_purged}
use Rattle.sd_device.proofs.msg.book.FlightBook.purge.Goals as goal

pub returns-clause-given : goal.returns-clause-given
returns-clause-given c =
    let b = c.self.inside in
    seen_numbered (is_left c.purge.new.self) b.last c.purge.new.self b.flights.items (c.purge.ensures.kept b.last b.flights.items c.self.invariant)

pub returns-clause-flights : goal.returns-clause-flights
returns-clause-flights c =
    let b = c.self.inside in
    seen_purged b.spent c.purge.new.self c.args.reference b.flights.items c.purge.ensures.left
    ∙ ap (λ (k : Book). filter (is_current c.args.reference) k.flights) c.self.view_is
