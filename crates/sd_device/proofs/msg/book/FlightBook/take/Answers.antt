use Rattle.std.proofs.Common.{subst}
use Rattle.sd_device.specs.msg.Books.{AreGiven}
use Rattle.sd_device.specs.msg.Spent.{is_left}
use Rattle.sd_device.proofs.msg.Books.{seen_numbered}
use Rattle.sd_device.proofs.msg.book.FlightBook.take.Goals as goal

pub returns-in_err-place-clause-given : goal.returns-in_err-place-clause-given
returns-in_err-place-clause-given c =
    let b = c.self.inside in
    subst AreGiven c.self.view_is (seen_numbered (is_left b.spent) b.last b.spent b.flights.items c.self.invariant)

pub returns-clause-given : goal.returns-clause-given
returns-clause-given c =
    let b = c.self.inside in
    seen_numbered (is_left b.spent) b.last b.spent c.spend.new.flights.items c.spend.ensures.kept
