use Rattle.std.proofs.Common.{sym, subst}
use Rattle.sd_device.specs.msg.Spent.{AreKept}
use Rattle.sd_device.proofs.msg.book.FlightBook.new.Goals as goal

pub invariant_of-result : goal.invariant_of-result
invariant_of-result c = subst (AreKept 0 c.in_ok-spent.spent) (sym c.in-Ok.ensures.items) (c.in_ok-spent.ensures.kept 0)
