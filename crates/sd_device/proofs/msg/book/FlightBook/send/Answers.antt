use Rattle.std.proofs.Common.{◌≡◌, ◌+◌, true, refl, sym, ◌∙◌, ap, subst}
use Rattle.sd_device.specs.declared.msg.Flight.{Flight}
use Rattle.sd_device.specs.msg.Books.{Book, Size, with_sent, is_within}
use Rattle.sd_device.specs.msg.Spent.{is_left, size_of, AreKept}
use Rattle.sd_device.proofs.msg.Books.{inside, pushed, seen_numbered, seen_pushed}
use Rattle.sd_device.proofs.msg.book.FlightBook.send.Goals as goal

-- the flight with its number
abbrev numbered : goal.After-push_back_reserved → Flight
numbered c = record c.args.flight { number = c.self.inside.last + 1 }

kept : (c : goal.After-push_back_reserved) → AreKept c.self.inside.last c.reopen.new.spent c.reopen.new.flights.items
kept c = c.reopen.ensures.kept c.self.inside.last c.self.invariant

within : (c : goal.After-push_back_reserved) → is_within (size_of c.reopen.new.spent) (numbered c) ≡ true
within c =
    subst (λ (size : Size). is_within size (numbered c) ≡ true) (sym (c.reopen.ensures.size ∙ ap (λ (k : Book). k.size) c.self.view_is))
    (inside _ (numbered c) c.requires.link c.requires.receiver)

pub invariant_of-self : goal.invariant_of-self
invariant_of-self c =
    rw c.push_back_reserved.ensures.items
    (pushed c.self.inside.last c.reopen.new.spent c.reopen.new.flights.items (numbered c) (kept c) refl (within c))

pub returns-clause-given : goal.returns-clause-given
returns-clause-given c =
    seen_numbered (is_left c.reopen.new.spent) (c.self.inside.last + 1) c.reopen.new.spent c.push_back_reserved.new.self.items (invariant_of-self c)

pub returns-clause-flights : goal.returns-clause-flights
returns-clause-flights c =
    let b = c.self.inside in
    rw c.push_back_reserved.ensures.items
    (seen_pushed b.last b.spent c.reopen.new.spent b.flights.items c.reopen.new.flights.items (numbered c) (kept c) refl
    c.reopen.ensures.reference c.reopen.ensures.left
    ∙ ap (λ (k : Book). with_sent k.flights (numbered c)) c.self.view_is)
