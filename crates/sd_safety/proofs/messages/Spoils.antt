-- A flight that reached, that is due before some event, and whose sender, receiver and link did not fail by the first event past its due was
-- received by then, where its round is not spoiled. What is spoiled at an event is spoiled at each later one.
use Rattle.std.specs.Prelude.{◌≡◌, ℕ, ◌<◌, ◌≤◌, Bool, true, false, ◌&&◌, ◌||◌, not, cond, List, [], ◌∷◌, filter, map, nat_eq, nat_lt, Option, Some, None, ◌⊎◌, refl, if◌then◌else◌}
use Rattle.std.specs.List.{list_any}
use Rattle.std.proofs.Common.{arith, sym, ◌∙◌, ap, subst, inl, inr}
use Rattle.std.proofs.lemmas.Bool.{or_parts, or_cases, or_left, ltb-true, ltb-false, lt-ltb, eq-eqb, eqb-true, false_from_ne_true}
use Rattle.sd_num.specs.Lists.{map_or}
use Rattle.sd_plan.specs.declared.topo.Thing.TheVariants as thing
use Rattle.sd_device.specs.declared.msg.Stamp.{Stamp}
use Rattle.sd_device.specs.declared.msg.Flight.{Flight}
use Rattle.sd_sched.specs.Events.{reference_of}
use Rattle.sd_history.specs.World.{Seen, fails, latest_reference}
use Rattle.sd_history.specs.Steps.{Step, seen_of}
use Rattle.sd_history.specs.Premises.{reaching_flights, seen_since_sending, was_received, is_overdue, was_interrupted, spoils, spoiled_rounds, is_round}
use Rattle.sd_history.proofs.Among.{Among, first, later, on_right, any_passing, mapped_in}
use Rattle.sd_history.proofs.Filters.{filter_in}
use Rattle.sd_history.proofs.Shared.{stays_spoiled}
use Rattle.sd_history.specs.Rounds.{is_spoiled}
use Rattle.sd_safety.specs.messages.Moments.{Tail, whole, behind, Moment, upto, when, IsIn, IsBefore}
use Rattle.sd_safety.proofs.invariant.Prefix.{some_passing}
use Rattle.sd_safety.proofs.invariant.Staying.{filter_out}

-- Membership and tests

pub none_any : {A : Type 0} (test : A → Bool) (xs : List A) → ((x : A) → Among x xs → test x ≡ false) → list_any test xs ≡ false
none_any test [] each = refl
none_any test (x ∷ xs) each = both (test x) (list_any test xs) (each x first) (none_any test xs (λ y a. each y (later a)))
  where
    both : (a b : Bool) → a ≡ false → b ≡ false → (a || b) ≡ false
    both false b one two = two
    both true b one two = cc

-- Spoiled rounds

-- a round of which a flight is spoiled is spoiled
pub spoiled_from : (seen : List Seen) (f : Flight) (term round : ℕ) → Among f (reaching_flights seen) → is_round f.message.stamp term round ≡ true
    → spoils seen f ≡ true
    → is_spoiled seen term round ≡ true
spoiled_from seen f term round a is bad =
    any_passing (λ other. is_round other term round) f.message.stamp (spoiled_rounds seen)
    (mapped_in (λ g. g.message.stamp) f (filter (spoils seen) (reaching_flights seen)) (filter_in (spoils seen) f (reaching_flights seen) a bad)) is

-- so no flight of a clean round is
pub clean_flight : (seen : List Seen) (f : Flight) (stamp : Stamp) → Among f (reaching_flights seen) → f.message.stamp ≡ stamp
    → is_spoiled seen stamp.term stamp.round ≡ false → spoils seen f ≡ false
clean_flight seen f stamp a carries clean =
    false_from_ne_true (spoils seen f) (λ bad. clash (spoiled_from seen f stamp.term stamp.round a itself bad))
  where
    both : (a b : Bool) → a ≡ true → b ≡ true → (a && b) ≡ true
    both true b one two = two
    both false b one two = cc

    itself : is_round f.message.stamp stamp.term stamp.round ≡ true
    itself = both (nat_eq f.message.stamp.term stamp.term) (nat_eq f.message.stamp.round stamp.round)
        (eq-eqb f.message.stamp.term stamp.term (ap (λ s. s.term) carries)) (eq-eqb f.message.stamp.round stamp.round (ap (λ s. s.round) carries))

    clash : is_spoiled seen stamp.term stamp.round ≡ true → ⊥
    clash spoiled = let no : true ≡ false = sym spoiled ∙ clean in cc

-- The first event past the due

pub record Overdue (steps : List Step) (f : Flight) : Type 0 where
  pub moment : Moment
  pub is_in : IsIn moment steps
  pub past : f.due < when moment
  pub not_before : is_overdue (seen_of moment.earlier) f ≡ false
  pub spoils_same : spoils (seen_of steps) f ≡ spoils (seen_of (upto moment)) f

pub first_overdue : (steps : List Step) (f : Flight) → is_overdue (seen_of steps) f ≡ true → Overdue steps f
first_overdue [] f over = cc
first_overdue (s ∷ earlier) f over = go (is_overdue (seen_of earlier) f) refl over (first_overdue earlier f)
  where
    go : (b : Bool) → is_overdue (seen_of earlier) f ≡ b → (nat_lt f.due (reference_of s.seen.event) || b) ≡ true
        → (is_overdue (seen_of earlier) f ≡ true → Overdue earlier f) → Overdue (s ∷ earlier) f
    go true is over' rest =
        let o = rest is in
        record {
          moment = o.moment;
          is_in = behind o.is_in;
          past = o.past;
          not_before = o.not_before;
          spoils_same =
              ap (λ b. if b then spoils (seen_of earlier) f else nat_lt f.due (reference_of s.seen.event)
              && not (was_received (s.seen ∷ seen_of earlier) f.number) && not (was_interrupted (s.seen ∷ seen_of earlier) f)) is
              ∙ o.spoils_same;
        }
    go false is over' rest =
        record {
          moment = record { step = s; earlier = earlier };
          is_in = whole;
          past = ltb-true f.due (reference_of s.seen.event) (only (nat_lt f.due (reference_of s.seen.event)) over');
          not_before = is;
          spoils_same = refl;
        }
      where
        only : (b : Bool) → (b || false) ≡ true → b ≡ true
        only true h = refl
        only false h = h

-- past a due that the newest event is past
pub overdue_now : (s : Step) (earlier : List Step) (f : Flight) → f.due < reference_of s.seen.event → is_overdue (seen_of (s ∷ earlier)) f ≡ true
overdue_now s earlier f less =
    or_left (nat_lt f.due (reference_of s.seen.event)) (is_overdue (seen_of earlier) f) (lt-ltb f.due (reference_of s.seen.event) less)

-- up to an event before which none is past the due, all references are at most the due
pub before_due : (steps : List Step) (f : Flight) → is_overdue (seen_of steps) f ≡ false → latest_reference (seen_of steps) ≤ f.due
before_due [] f none = omega arith
before_due (s ∷ earlier) f none =
    ltb-false f.due (reference_of s.seen.event) (or_parts (nat_lt f.due (reference_of s.seen.event)) (is_overdue (seen_of earlier) f) none).0

-- What came since the sending is later than it.

pub record Since (steps : List Step) (from : Moment) (s : Seen) : Type 0 where
  pub moment : Moment
  pub is_in : IsIn moment steps
  pub after : IsBefore from moment
  pub is : moment.step.seen ≡ s

head_or : {A : Type 0} (s y : A) (xs : List A) → Among s (y ∷ xs) → (y ≡ s) ⊎ Among s xs
head_or s y xs first = inl refl
head_or s y xs (later a) = inr a

since_head : (x : Step) (rest : List Step) (from : Moment) (n : ℕ) (s : Seen) → IsIn from rest → (x.seen ≡ s) ⊎ Among s (seen_since_sending (seen_of rest) n)
    → (Among s (seen_since_sending (seen_of rest) n) → Since rest from s) → Since (x ∷ rest) from s
since_head x rest from n s t (inl is) before = record { moment = record { step = x; earlier = rest }; is_in = whole; after = t; is = is }
since_head x rest from n s t (inr a) before = let found = before a in
    record { moment = found.moment; is_in = behind found.is_in; after = found.after; is = found.is }

since_by : (x : Step) (rest : List Step) (from : Moment) (n : ℕ) (s : Seen) (b : Bool) → IsIn from rest
    → Among s (cond b (x.seen ∷ seen_since_sending (seen_of rest) n) []) → (Among s (seen_since_sending (seen_of rest) n) → Since rest from s)
    → Since (x ∷ rest) from s
since_by x rest from n s false t a before = elim a [ ]
since_by x rest from n s true t a before = since_head x rest from n s t (head_or s x.seen (seen_since_sending (seen_of rest) n) a) before

pub since_after : (steps : List Step) (from : Moment) (f : Flight) → IsIn from steps → Among f from.step.seen.sent → (s : Seen)
    → Among s (seen_since_sending (seen_of steps) f.number) → Since steps from s
since_after [] from f t sent s a = elim t [ ]
since_after (x ∷ rest) from f whole sent s a =
    let has : list_any (λ g. nat_eq g.number f.number) x.seen.sent ≡ true =
    any_passing (λ g. nat_eq g.number f.number) f x.seen.sent sent (eq-eqb f.number f.number refl) in
    let none : Among s [] = subst (λ b. Among s (cond (not b) (x.seen ∷ seen_since_sending (seen_of rest) f.number) [])) has a in
    elim none [ ]
since_after (x ∷ rest) from f (behind t) sent s a =
    since_by x rest from f.number s (not (list_any (λ g. nat_eq g.number f.number) x.seen.sent)) t a (since_after rest from f t sent s)

-- The receipt of a clean flight

-- an event that received a flight with this number
pub record Received (steps : List Step) (n : ℕ) : Type 0 where
  pub moment : Moment
  pub is_in : IsIn moment steps
  pub flight : Flight
  pub taken : moment.step.seen.taken ≡ Some flight
  pub number : flight.number ≡ n

taken_flight : (o : Option Flight) (n : ℕ) → map_or o false (λ f. nat_eq f.number n) ≡ true → (f : Flight) × (o ≡ Some f) × (f.number ≡ n)
taken_flight None n is = cc
taken_flight (Some f) n is = (f, refl, eqb-true f.number n is)

pub received_at : (steps : List Step) (n : ℕ) → was_received (seen_of steps) n ≡ true → Received steps n
received_at [] n is = cc
received_at (s ∷ earlier) n is =
    go (or_cases (map_or s.seen.taken false (λ f. nat_eq f.number n)) (was_received (seen_of earlier) n) is) (received_at earlier n)
  where
    go : (map_or s.seen.taken false (λ f. nat_eq f.number n) ≡ true) ⊎ (was_received (seen_of earlier) n ≡ true)
        → (was_received (seen_of earlier) n ≡ true → Received earlier n) → Received (s ∷ earlier) n
    go (inl here) rest =
        let t = taken_flight s.seen.taken n here in
        record { moment = record { step = s; earlier = earlier }; is_in = whole; flight = t.0; taken = t.1; number = t.2 }
    go (inr there) rest = let r = rest there in record { moment = r.moment; is_in = behind r.is_in; flight = r.flight; taken = r.taken; number = r.number }

must_receive : (a b c : Bool) → (a && not b && not c) ≡ false → a ≡ true → c ≡ false → b ≡ true
must_receive true true false is one two = refl
must_receive true false false is one two = cc
must_receive a b true is one two = cc
must_receive false b c is one two = cc

-- by the first event past its due
pub clean_is_received : (steps : List Step) (from : Moment) (f : Flight) → IsIn from steps → Among f from.step.seen.sent → is_overdue (seen_of steps) f ≡ true
    → spoils (seen_of steps) f ≡ false
    → (o : Overdue steps f) → IsIn from (upto o.moment)
    → ((q : Moment) → IsIn q (upto o.moment) → IsBefore from q
    → (fails (thing.Device f.sender) q.step.seen.event ≡ false) × (fails (thing.Device f.receiver) q.step.seen.event ≡ false)
    × (fails (thing.Link f.link) q.step.seen.event ≡ false))
    → Received (upto o.moment) f.number
clean_is_received steps from f t sent over clean o inside whole_ =
    received_at (upto o.moment) f.number
    (must_receive (nat_lt f.due (when o.moment)) (was_received (seen_of (upto o.moment)) f.number) (was_interrupted (seen_of (upto o.moment)) f) here
    (lt-ltb f.due (when o.moment) o.past) unharmed)
  where
    here : (nat_lt f.due (when o.moment) && not (was_received (seen_of (upto o.moment)) f.number) && not (was_interrupted (seen_of (upto o.moment)) f)) ≡ false
    here =
        sym (ap (λ b. if b then spoils (seen_of o.moment.earlier) f else nat_lt f.due (when o.moment) && not (was_received (seen_of (upto o.moment)) f.number)
        && not (was_interrupted (seen_of (upto o.moment)) f)) o.not_before)
        ∙ sym o.spoils_same ∙ clean

    three : (a b c : Bool) → a ≡ false → b ≡ false → c ≡ false → (a || b || c) ≡ false
    three false false false one two three' = refl
    three true b c one two three' = cc
    three false true c one two three' = cc
    three false false true one two three' = cc

    unharmed : was_interrupted (seen_of (upto o.moment)) f ≡ false
    unharmed =
        none_any (λ s. fails (thing.Device f.sender) s.event || fails (thing.Device f.receiver) s.event || fails (thing.Link f.link) s.event)
        (seen_since_sending (seen_of (upto o.moment)) f.number)
        (λ s a.
        let found = since_after (upto o.moment) from f inside sent s a in
        let none = whole_ found.moment found.is_in found.after in
        subst (λ x. (fails (thing.Device f.sender) x.event || fails (thing.Device f.receiver) x.event || fails (thing.Link f.link) x.event) ≡ false) found.is
        (three (fails (thing.Device f.sender) found.moment.step.seen.event) (fails (thing.Device f.receiver) found.moment.step.seen.event)
        (fails (thing.Link f.link) found.moment.step.seen.event) none.0 none.1 none.2))

-- What is spoiled stays so.

pub spoils_stays : (older steps : List Step) (f : Flight) → Tail older steps → spoils (seen_of older) f ≡ true → spoils (seen_of steps) f ≡ true
spoils_stays older steps f whole bad = bad
spoils_stays older (s ∷ steps) f (behind t) bad = stays_spoiled s.seen (seen_of steps) f (spoils_stays older steps f t bad)

flights_on : (older steps : List Step) (f : Flight) → Tail older steps → Among f (reaching_flights (seen_of older)) → Among f (reaching_flights (seen_of steps))
flights_on older steps f whole a = a
flights_on older (s ∷ steps) f (behind t) a = on_right s.seen.sent (flights_on older steps f t a)

-- a flight of which the round is spoiled
record SpoiledFlight (seen : List Seen) (term round : ℕ) : Type 0 where
  flight : Flight
  among : Among flight (reaching_flights seen)
  bad : spoils seen flight ≡ true
  is : is_round flight.message.stamp term round ≡ true

unmapped : (seen : List Seen) (term round : ℕ) (fs : List Flight) → ((f : Flight) → Among f fs → Among f (reaching_flights seen) × (spoils seen f ≡ true))
    → (s : Stamp)
    → is_round s term round ≡ true → Among s (map (λ f. f.message.stamp) fs) → SpoiledFlight seen term round
unmapped seen term round [] each s is a = elim a [ ]
unmapped seen term round (f ∷ fs) each s is a =
    go (head_or s f.message.stamp (map (λ g. g.message.stamp) fs) a) (unmapped seen term round fs (λ g b. each g (later b)) s is)
  where
    go : (f.message.stamp ≡ s) ⊎ Among s (map (λ g. g.message.stamp) fs) → (Among s (map (λ g. g.message.stamp) fs) → SpoiledFlight seen term round)
        → SpoiledFlight seen term round
    go (inl same) rest = let both = each f first in
        record { flight = f; among = both.0; bad = both.1; is = subst (λ x. is_round x term round ≡ true) (sym same) is }
    go (inr b) rest = rest b

spoiled_by : (seen : List Seen) (term round : ℕ) → is_spoiled seen term round ≡ true → SpoiledFlight seen term round
spoiled_by seen term round spoiled =
    let p = some_passing (λ other. is_round other term round) (spoiled_rounds seen) spoiled in
    unmapped seen term round (filter (spoils seen) (reaching_flights seen))
    (λ f a. filter_out (spoils seen) f (reaching_flights seen) a) p.one p.passed p.there

-- so a round that is clean at an event was clean before
pub clean_before : (older steps : List Step) (term round : ℕ) → Tail older steps → is_spoiled (seen_of steps) term round ≡ false
    → is_spoiled (seen_of older) term round ≡ false
clean_before older steps term round t clean =
    false_from_ne_true (is_spoiled (seen_of older) term round)
    (λ spoiled.
    let f = spoiled_by (seen_of older) term round spoiled in
    let now = spoiled_from (seen_of steps) f.flight term round (flights_on older steps f.flight t f.among) f.is (spoils_stays older steps f.flight t f.bad) in
    let clash : true ≡ false = sym now ∙ clean in
    cc)
