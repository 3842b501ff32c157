-- The flights of accepted steps have the numbers 1, 2 and so on, in the order in which they were sent, up to how many there are. So each
-- number that was given is that of one flight.
use Rattle.std.specs.Prelude.{◌≡◌, ℕ, ◌+◌, ◌<◌, ◌≤◌, true, false, not, List, [], ◌∷◌, ◌++◌, length, reverse, flat_map, find, nat_le, Some, None, is_some, ◌⊎◌, refl}
use Rattle.std.specs.Option.{option_or}
use Rattle.std.proofs.Common.{arith, sym, ◌∙◌, ap, subst, inl, inr}
use Rattle.std.proofs.lemmas.Bool.{and_parts, and_cases, leb-true, leb-false, cases_lt, cases_Bool}
use Rattle.std.proofs.lemmas.List.{reverse-append, reverse-reverse, length-append}
use Rattle.std.proofs.lemmas.List.Folds.{find-append}
use Rattle.sd_device.specs.declared.msg.Flight.{Flight}
use Rattle.sd_device.specs.msg.Books.{has_number, is_given, AreNumbered}
use Rattle.sd_device.proofs.msg.Numbered.{numbered_filter}
use Rattle.sd_device.proofs.msg.Finding.{beyond}
use Rattle.sd_history.specs.World.{Setting}
use Rattle.sd_history.specs.Steps.{Step, flights, flight_count, flight_numbered}
use Rattle.sd_history.specs.Refusals.{is_spent}
use Rattle.sd_history.specs.Open.{unspent}
use Rattle.sd_history.specs.Accepted.{AreSteps}
use Rattle.sd_history.proofs.Among.{Among, either_side}
use Rattle.sd_history.specs.flights.Flights.{sent_in_order, AreNumberedOn}
use Rattle.sd_history.proofs.flights.Finds.{joined, ascend, there, within, finds, past_all, either_first}
use Rattle.sd_history.proofs.flights.Sending.{step_numbered, counted}

-- In order

pub one_more_step : (s : Step) (earlier : List Step) → sent_in_order (s ∷ earlier) ≡ sent_in_order earlier ++ s.sent
one_more_step s earlier =
    reverse-append (reverse s.sent) (flat_map (λ x. reverse x.sent) earlier) ∙ ap (λ fs. sent_in_order earlier ++ fs) (reverse-reverse s.sent)

pub length_in_order : (steps : List Step) → length (sent_in_order steps) ≡ flight_count steps
length_in_order [] = refl
length_in_order (s ∷ earlier) =
    let more : length (sent_in_order earlier ++ s.sent) ≡ length (sent_in_order earlier) + length s.sent = length-append (sent_in_order earlier) s.sent in
    let before = length_in_order earlier in
    let all = counted s earlier in
    ap length (one_more_step s earlier) ∙ omega (arith, more, before, all)

-- the numbers 1, 2 and so on
pub numbered_in_order : (setting : Setting) (steps : List Step) → AreSteps setting steps → AreNumberedOn 1 (sent_in_order steps)
numbered_in_order setting [] is = tt
numbered_in_order setting (s ∷ earlier) is =
    let next : flight_count earlier + 1 ≡ 1 + length (sent_in_order earlier) = omega (arith, length_in_order earlier) in
    subst (AreNumberedOn 1) (sym (one_more_step s earlier))
    (joined 1 (sent_in_order earlier) s.sent (numbered_in_order setting earlier is.0)
    (subst (λ (n : ℕ). AreNumberedOn n s.sent) next (step_numbered setting s earlier is)))

-- so they ascend up to how many there are
pub order_given : (setting : Setting) (steps : List Step) → AreSteps setting steps → AreNumbered 0 (flight_count steps) (sent_in_order steps)
order_given setting steps is = ascend 0 (flight_count steps) (sent_in_order steps) (numbered_in_order setting steps is) (omega (arith, length_in_order steps))

-- and those of a step from above all before it
pub step_given : (setting : Setting) (s : Step) (earlier : List Step) → AreSteps setting (s ∷ earlier)
    → AreNumbered (flight_count earlier) (flight_count (s ∷ earlier)) s.sent
step_given setting s earlier is =
    ascend (flight_count earlier) (flight_count (s ∷ earlier)) s.sent (step_numbered setting s earlier is) (omega (arith, counted s earlier))

-- those that are not spent ascend too
pub unspent_given : (setting : Setting) (steps : List Step) (reference : ℕ) → AreSteps setting steps
    → AreNumbered 0 (flight_count steps) (unspent steps reference)
unspent_given setting steps reference is =
    numbered_filter 0 (flight_count steps) (λ f. not (is_spent steps reference f)) (sent_in_order steps) (order_given setting steps is)

-- By number

-- the flight with a number is found in either order
pub found_in_order : (setting : Setting) (steps : List Step) (n : ℕ) → AreSteps setting steps
    → find (has_number n) (sent_in_order steps) ≡ flight_numbered steps n
found_in_order setting [] n is = refl
found_in_order setting (s ∷ earlier) n is =
    let before : find (has_number n) (sent_in_order earlier) ≡ flight_numbered earlier n = found_in_order setting earlier n is.0 in
    ap (find (has_number n)) (one_more_step s earlier)
    ∙ find-append (has_number n) (sent_in_order earlier) s.sent
    ∙ ap (λ o. option_or o (find (has_number n) s.sent)) before
    ∙ either_first (flight_numbered earlier n) (find (has_number n) s.sent)
    (elim (cases_lt (flight_count earlier) n) [
      | inl after ↦ inl (sym before ∙ (past_all 0 (flight_count earlier) n (sent_in_order earlier) (order_given setting earlier is.0) after).0)
      | inr upto ↦ inr (beyond (flight_count earlier) (flight_count (s ∷ earlier)) n s.sent (step_given setting s earlier is) upto)
    ])
    ∙ sym (find-append (has_number n) s.sent (flights earlier))

-- a number that was given is that of a flight
pub numbered_there : (setting : Setting) (steps : List Step) (n : ℕ) → AreSteps setting steps → is_given (flight_count steps) n ≡ true
    → (f : Flight) × (flight_numbered steps n ≡ Some f) × (f.number ≡ n)
numbered_there setting steps n is given =
    let bounds = and_parts (nat_le 1 n) (nat_le n (flight_count steps)) given in
    let low : 1 ≤ n = leb-true 1 n bounds.0 in
    let high : n ≤ flight_count steps = leb-true n (flight_count steps) bounds.1 in
    let count = length_in_order steps in
    let it : (f : Flight) × (find (has_number n) (sent_in_order steps) ≡ Some f) × (f.number ≡ n) =
    there 1 n (sent_in_order steps) (numbered_in_order setting steps is) low (omega arith) in
    (it.0, sym (found_in_order setting steps n is) ∙ it.1, it.2)

-- and any other number is that of none
pub numbered_none : (setting : Setting) (steps : List Step) (n : ℕ) → AreSteps setting steps → is_given (flight_count steps) n ≡ false
    → flight_numbered steps n ≡ None
numbered_none setting steps n is given =
    sym (found_in_order setting steps n is)
    ∙ elim (and_cases (nat_le 1 n) (nat_le n (flight_count steps)) given) [
      | inl low ↦ (let none : n < 1 = leb-false 1 n low in beyond 0 (flight_count steps) n (sent_in_order steps) (order_given setting steps is) (omega arith))
      | inr high ↦ (past_all 0 (flight_count steps) n (sent_in_order steps) (order_given setting steps is) (leb-false n (flight_count steps) high)).0
    ]

pub numbered_exactly : (setting : Setting) (steps : List Step) (n : ℕ) → AreSteps setting steps
    → is_some (flight_numbered steps n) ≡ is_given (flight_count steps) n
numbered_exactly setting steps n is =
    elim (cases_Bool (is_given (flight_count steps) n)) [
      | inl given ↦ (let it = numbered_there setting steps n is given in ap is_some it.1 ∙ sym given)
      | inr other ↦ ap is_some (numbered_none setting steps n is other) ∙ sym other
    ]

-- the number of each flight was given, and is its own
pub numbers_within : (setting : Setting) (steps : List Step) (f : Flight) → AreSteps setting steps → Among f (flights steps)
    → (1 ≤ f.number) × (f.number ≤ flight_count steps)
numbers_within setting [] f is a = elim a [ ]
numbers_within setting (s ∷ earlier) f is a = by_side (either_side s.sent (flights earlier) a) (λ b. numbers_within setting earlier f is.0 b)
  where
    by_side : Among f s.sent ⊎ Among f (flights earlier) → (Among f (flights earlier) → (1 ≤ f.number) × (f.number ≤ flight_count earlier))
        → (1 ≤ f.number) × (f.number ≤ flight_count (s ∷ earlier))
    by_side (inl b) rest = let here = within (flight_count earlier + 1) s.sent f (step_numbered setting s earlier is) b in
        (omega (arith, here.0), omega (arith, here.1, counted s earlier))
    by_side (inr b) rest = let before = rest b in (before.0, omega (arith, before.1, counted s earlier))

pub numbered_itself : (setting : Setting) (steps : List Step) (f : Flight) → AreSteps setting steps → Among f (flights steps)
    → flight_numbered steps f.number ≡ Some f
numbered_itself setting [] f is a = elim a [ ]
numbered_itself setting (s ∷ earlier) f is a = find-append (has_number f.number) s.sent (flights earlier)
    ∙ by_side (either_side s.sent (flights earlier) a) (λ b. numbered_itself setting earlier f is.0 b)
  where
    by_side : Among f s.sent ⊎ Among f (flights earlier) → (Among f (flights earlier) → flight_numbered earlier f.number ≡ Some f)
        → option_or (find (has_number f.number) s.sent) (flight_numbered earlier f.number) ≡ Some f
    by_side (inl b) rest =
        ap (λ o. option_or o (flight_numbered earlier f.number)) (finds (flight_count earlier + 1) s.sent f (step_numbered setting s earlier is) b)
    by_side (inr b) rest =
        ap (λ o. option_or o (flight_numbered earlier f.number))
        (beyond (flight_count earlier) (flight_count (s ∷ earlier)) f.number s.sent (step_given setting s earlier is)
        (numbers_within setting earlier f is.0 b).1)
        ∙ rest b
