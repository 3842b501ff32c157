use Rattle.std.proofs.Common.{Ok, sym, ◌∙◌, ap, subst}
use Rattle.std.specs.Prelude.{IsOk}
use Rattle.sd_device.specs.msg.Books.{found}
use Rattle.sd_device.specs.msg.Spent.{is_left}
use Rattle.sd_device.proofs.msg.Finding.{found_one, one_of_all}
use Rattle.sd_device.proofs.msg.Books.{numbered, seen_numbered}
use Rattle.sd_device.proofs.msg.book.FlightBook.take_found.Goals as goal

pub unreachable-requires : goal.unreachable-requires
unreachable-requires c =
    let b = c.self.inside in
    one_of_all b.last c.args.number (is_left b.spent) b.flights.items _ (numbered b.last b.spent b.flights.items c.self.invariant)
    (subst (λ r. IsOk (found r.last r.flights c.args.number)) (sym c.self.view_is) c.requires.there) c.in-Err.ensures.fault

pub returns-clause-given : goal.returns-clause-given
returns-clause-given c =
    let b = c.self.inside in
    seen_numbered (is_left b.spent) b.last b.spent c.spend.new.flights.items c.spend.ensures.kept

pub returns-clause-flight : goal.returns-clause-flight
returns-clause-flight c =
    let b = c.self.inside in
    sym (ap (λ r. found r.last r.flights c.args.number) c.self.view_is)
    ∙ found_one b.last c.args.number (is_left b.spent) b.flights.items (Ok c.in-Ok.flight.now) (numbered b.last b.spent b.flights.items c.self.invariant)
    (subst (λ r. IsOk (found r.last r.flights c.args.number)) (sym c.self.view_is) c.requires.there) c.in-Ok.ensures.flight
