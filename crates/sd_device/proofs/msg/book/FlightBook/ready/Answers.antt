use Rattle.std.proofs.Common.{◌≡◌, ◌+◌, ◌*◌, ◌≤◌, length, max, filter, sym, ◌∙◌, ap, subst, arith}
use Rattle.std.specs.VecDeque.{deque_len}
use Rattle.sd_device.specs.msg.Books.{Book, AreGiven}
use Rattle.sd_device.specs.msg.Spent.{is_left, AreKept}
use Rattle.sd_device.proofs.msg.Filters.{filter_again}
use Rattle.sd_device.proofs.msg.Growing.{grown}
use Rattle.sd_device.proofs.msg.Books.{seen_numbered}
use Rattle.sd_device.proofs.msg.book.FlightBook.ready.Goals as goal

pub returns-then-count-room-clause-given : goal.returns-then-count-room-clause-given
returns-then-count-room-clause-given c =
    let b = c.self.inside in
    subst AreGiven c.self.view_is (seen_numbered (is_left b.spent) b.last b.spent b.flights.items c.self.invariant)

pub invariant_of-self : goal.invariant_of-self
invariant_of-self c = c.drop_first.ensures.kept c.self.inside.last c.self.invariant

pub returns-then-saturating_add-room-clause-given : goal.returns-then-saturating_add-room-clause-given
returns-then-saturating_add-room-clause-given c =
    let b = c.self.inside in
    seen_numbered (is_left b.spent) b.last b.spent c.drop_first.new.flights.items (invariant_of-self c)

pub invariant_of-self-2 : goal.invariant_of-self-2
invariant_of-self-2 c =
    let b = c.self.inside in
    subst (AreKept b.last b.spent) (sym c.reserve_exact.ensures.items)
    (c.drop_spent.ensures.kept b.last (c.drop_first.ensures.kept b.last c.self.invariant))

pub returns-clause-given : goal.returns-clause-given
returns-clause-given c =
    let b = c.self.inside in
    seen_numbered (is_left b.spent) b.last b.spent c.reserve_exact.new.self.items (invariant_of-self-2 c)

-- those that are left
left : (c : goal.Joined-reserve_exact) → c.reserve_exact.new.self.items ≡ filter (is_left c.self.inside.spent) c.self.inside.flights.items
left c = c.reserve_exact.ensures.items ∙ c.drop_spent.ensures.left ∙ c.drop_first.ensures.left

-- are all that are kept
all_left : (c : goal.Joined-reserve_exact) → filter (is_left c.self.inside.spent) c.reserve_exact.new.self.items ≡ c.reserve_exact.new.self.items
all_left c =
    let test = is_left c.self.inside.spent in
    ap (filter test) (left c) ∙ filter_again test test c.self.inside.flights.items (λ f is. is) ∙ sym (left c)

pub returns-clause-flights : goal.returns-clause-flights
returns-clause-flights c = all_left c ∙ left c ∙ ap (λ (b : Book). b.flights) c.self.view_is

pub returns-clause-places : goal.returns-clause-places
returns-clause-places c =
    let asked = deque_len c.drop_spent.new.flights + c.saturating_add-more.result in
    let most = 2 * length (filter (is_left c.self.inside.spent) c.reserve_exact.new.self.items) + c.args.count in
    let old : c.drop_spent.new.flights.cap ≡ c.args.self.now.places =
    c.drop_spent.ensures.capacity ∙ c.drop_first.ensures.capacity ∙ ap (λ (b : Book). b.places) c.self.view_is in
    let within : asked ≤ most =
    omega (arith, ap length (all_left c), c.reserve_exact.new.self.ok.0, c.reserve_exact.ensures.len, c.saturating_add-more.ensures, c.len-2.ensures) in
    subst (λ n. c.reserve_exact.new.self.cap ≤ max n most) old
    (grown c.reserve_exact.result c.drop_spent.new.flights.cap c.reserve_exact.new.self.cap asked most c.reserve_exact.ensures.capacity_exact
    c.reserve_exact.ensures.err within)
