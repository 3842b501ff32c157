-- Entries in ascending order: what goes to the back, what leaves at the front, and what they tell of the numbers at places.
use Rattle.std.proofs.Common.{◌≡◌, ℕ, zero, suc, ◌<◌, ◌≤◌, Bool, true, false, ◌&&◌, ◌||◌, List, [], ◌∷◌, ◌++◌, length, map, get_or, set, replicate, nat_eq, nat_le, inl, inr, refl, sym, ap, ◌∙◌, subst, arith, get_or-set_same, get_or-set_other, length-set}
use Rattle.std.specs.List.{list_all}
use Rattle.std.proofs.lemmas.Bool.{and_parts, and_from, le-leb, leb-true, cases_eq, eq-eqb, eqb-true, both_ways}
use Rattle.std.proofs.lemmas.List.Folds.{list_all-append, list_any-append}
use Rattle.sd_num.proofs.Shared.{all_imply}
use Rattle.sd_monitors.specs.declared.clocks.queue.Entry.{Entry}
use Rattle.sd_monitors.specs.declared.clocks.queue.Mark.{Mark}
use Rattle.sd_monitors.specs.clocks.Queues.{ascend, are_at_most, reach, no_mark, mark_at, number_at, is_queued, is_queued_at}

-- The back

-- one that is no less than all
pub ascend_more : (es : List Entry) (e : Entry) (latest : ℕ) → ascend es ≡ true → are_at_most latest es ≡ true → latest ≤ e.number
    → ascend (es ++ e ∷ []) ≡ true
ascend_more [] e latest order most above = refl
ascend_more (x ∷ es) e latest order most above =
    let parts = and_parts (list_all (λ y. nat_le x.number y.number) es) (ascend es) order in
    let first = and_parts (nat_le x.number latest) (are_at_most latest es) most in
    let low : x.number ≤ latest = leb-true x.number latest first.0 in
    and_from (list_all (λ y. nat_le x.number y.number) (es ++ e ∷ [])) (ascend (es ++ e ∷ []))
    (list_all-append (λ y. nat_le x.number y.number) es (e ∷ [])
    ∙ and_from (list_all (λ y. nat_le x.number y.number) es) (nat_le x.number e.number && true) parts.0
    (and_from (nat_le x.number e.number) true (le-leb x.number e.number (omega (arith, low, above))) refl))
    (ascend_more es e latest parts.1 first.1 above)

pub most_more : (es : List Entry) (e : Entry) (latest : ℕ) → are_at_most latest es ≡ true → latest ≤ e.number → are_at_most e.number (es ++ e ∷ []) ≡ true
most_more es e latest most above =
    list_all-append (λ x. nat_le x.number e.number) es (e ∷ [])
    ∙ and_from (are_at_most e.number es) (nat_le e.number e.number && true)
    (all_imply (λ x. nat_le x.number latest) (λ x. nat_le x.number e.number) es
    (λ x low. le-leb x.number e.number (let at : x.number ≤ latest = leb-true x.number latest low in omega (arith, at, above))) most)
    (and_from (nat_le e.number e.number) true (le-leb e.number e.number (omega arith)) refl)

pub queued_more : (place number : ℕ) (es : List Entry) (e : Entry) → is_queued place number es ≡ true → is_queued place number (es ++ e ∷ []) ≡ true
queued_more place number es e there =
    list_any-append (λ x. nat_eq x.place place && nat_eq x.number number) es (e ∷ [])
    ∙ ap (λ (b : Bool). b || is_queued place number (e ∷ [])) there

pub queued_last : (es : List Entry) (e : Entry) → is_queued e.place e.number (es ++ e ∷ []) ≡ true
queued_last es e =
    list_any-append (λ x. nat_eq x.place e.place && nat_eq x.number e.number) es (e ∷ [])
    ∙ ap (λ (b : Bool). is_queued e.place e.number es || (b || false))
    (and_from (nat_eq e.place e.place) (nat_eq e.number e.number) (eq-eqb e.place e.place refl) (eq-eqb e.number e.number refl))
    ∙ or_true (is_queued e.place e.number es)
  where
    or_true : (b : Bool) → (b || true) ≡ true
    or_true true = refl
    or_true false = refl

-- The front

-- where the first reaches the bound, all do
pub reach_all : (bound : ℕ) (es : List Entry) (e : Entry) → ascend es ≡ true → e ≡ get_or es 0 e → bound ≤ e.number → reach bound es ≡ true
reach_all bound [] e order first at = refl
reach_all bound (x ∷ es) e order first at =
    let parts = and_parts (list_all (λ y. nat_le x.number y.number) es) (ascend es) order in
    let same : e.number ≡ x.number = ap (λ (y : Entry). y.number) first in
    and_from (nat_le bound x.number) (reach bound es) (le-leb bound x.number (omega (arith, same, at)))
    (all_imply (λ y. nat_le x.number y.number) (λ y. nat_le bound y.number) es
    (λ y up. le-leb bound y.number (let above : x.number ≤ y.number = leb-true x.number y.number up in omega (arith, same, at, above))) parts.0)

-- What the entries tell

-- a number that is in the queue reaches the bound where all in it do
pub queued_reaches : (bound place number : ℕ) (es : List Entry) → reach bound es ≡ true → is_queued place number es ≡ true → bound ≤ number
queued_reaches bound place number [] all there = cc
queued_reaches bound place number (e ∷ es) all there =
    let parts = and_parts (nat_le bound e.number) (reach bound es) all in
    by (nat_eq e.place place) (nat_eq e.number number) refl there parts.0 (queued_reaches bound place number es parts.1)
  where
    by : (a b : Bool) → nat_eq e.number number ≡ b → ((a && b) || is_queued place number es) ≡ true → nat_le bound e.number ≡ true
        → (is_queued place number es ≡ true → bound ≤ number) → bound ≤ number
    by true true same there' low rest =
        let is : e.number ≡ number = eqb-true e.number number same in
        let at : bound ≤ e.number = leb-true bound e.number low in
        omega (arith, is, at)
    by true false same there' low rest = rest there'
    by false b same there' low rest = rest there'

-- Numbers at places

-- where each number reaches the bound, all do, and the other way round
pub all_reach : (bound : ℕ) (marks : List Mark) → ((k : ℕ) → k < length marks → bound ≤ number_at marks k)
    → list_all (nat_le bound) (map (λ m. m.number) marks) ≡ true
all_reach bound [] each = refl
all_reach bound (m ∷ ms) each =
    and_from (nat_le bound m.number) (list_all (nat_le bound) (map (λ (x : Mark). x.number) ms)) (le-leb bound m.number (each 0 (omega arith)))
    (all_reach bound ms (λ k within. each (suc k) (omega (arith, within))))

pub each_reaches : (bound : ℕ) (marks : List Mark) (k : ℕ) → list_all (nat_le bound) (map (λ m. m.number) marks) ≡ true → k < length marks
    → bound ≤ number_at marks k
each_reaches bound [] k all within = absurd (omega (arith, within))
each_reaches bound (m ∷ ms) zero all within =
    leb-true bound m.number (and_parts (nat_le bound m.number) (list_all (nat_le bound) (map (λ (x : Mark). x.number) ms)) all).0
each_reaches bound (m ∷ ms) (suc k) all within =
    each_reaches bound ms k (and_parts (nat_le bound m.number) (list_all (nat_le bound) (map (λ (x : Mark). x.number) ms)) all).1 (omega (arith, within))

-- one that is less tells that not all do
pub one_below : (bound : ℕ) (marks : List Mark) (k : ℕ) → k < length marks → number_at marks k < bound
    → list_all (nat_le bound) (map (λ m. m.number) marks) ≡ false
one_below bound marks k within low = by (list_all (nat_le bound) (map (λ (m : Mark). m.number) marks)) refl
  where
    by : (b : Bool) → list_all (nat_le bound) (map (λ (m : Mark). m.number) marks) ≡ b → b ≡ false
    by true all = let high : bound ≤ number_at marks k = each_reaches bound marks k all within in absurd (omega (arith, low, high))
    by false some = refl

pub numbers_length : (marks : List Mark) → length (map (λ m. m.number) marks) ≡ length marks
numbers_length [] = refl
numbers_length (m ∷ ms) = ap suc (numbers_length ms)

pub numbers_replicate : (n : ℕ) (m : Mark) → map (λ (x : Mark). x.number) (replicate n m) ≡ replicate n m.number
numbers_replicate zero m = refl
numbers_replicate (suc n) m = ap (λ (xs : List ℕ). m.number ∷ xs) (numbers_replicate n m)

-- A number that is written at a place and goes to the back

module _ (marks : List Mark) (place number : ℕ) (within : place < length marks) where
  -- the marks then
  abbrev pub written : List Mark
  written = set marks place (record { number = number; queued = true })

  there : (k : ℕ) → k ≡ place → mark_at written k ≡ record { number = number; queued = true }
  there k same = subst (λ (n : ℕ). mark_at written n ≡ record { number = number; queued = true }) (sym same)
      (get_or-set_same marks place (record { number = number; queued = true }) no_mark within)

  elsewhere : (k : ℕ) → (k ≡ place → ⊥) → mark_at written k ≡ mark_at marks k
  elsewhere k other = get_or-set_other marks place k (record { number = number; queued = true }) no_mark other

  pub queued_written : (es : List Entry) → ((k : ℕ) → k < length marks → (mark_at marks k).queued ≡ true → is_queued_at marks k es ≡ true)
      → (k : ℕ) → k < length written → (mark_at written k).queued ≡ true
      → is_queued_at written k (es ++ record { place = place; number = number } ∷ []) ≡ true
  queued_written es queued k inside is = elim (cases_eq k place) [
    | inl same ↦
        subst (λ (n : ℕ). is_queued k n (es ++ record { place = place; number = number } ∷ []) ≡ true) (sym (ap (λ (m : Mark). m.number) (there k same)))
        (subst (λ (n : ℕ). is_queued n number (es ++ record { place = place; number = number } ∷ []) ≡ true) (sym same)
        (queued_last es (record { place = place; number = number })))
    | inr other ↦
        subst (λ (n : ℕ). is_queued k n (es ++ record { place = place; number = number } ∷ []) ≡ true)
        (sym (ap (λ (m : Mark). m.number) (elsewhere k other)))
        (queued_more k (number_at marks k) es (record { place = place; number = number })
        (queued k (subst (λ (n : ℕ). k < n) (length-set marks place (record { number = number; queued = true })) inside)
        (sym (ap (λ (m : Mark). m.queued) (elsewhere k other)) ∙ is)))
  ]

  pub others_written : (least : ℕ) → ((k : ℕ) → k < length marks → (mark_at marks k).queued ≡ false → least ≤ number_at marks k)
      → (k : ℕ) → k < length written → (mark_at written k).queued ≡ false → least ≤ number_at written k
  others_written least others k inside is = elim (cases_eq k place) [
    | inl same ↦ absurd (both_ways (mark_at written k).queued is (ap (λ (m : Mark). m.queued) (there k same)))
    | inr other ↦
        subst (λ (n : ℕ). least ≤ n) (sym (ap (λ (m : Mark). m.number) (elsewhere k other)))
        (others k (subst (λ (n : ℕ). k < n) (length-set marks place (record { number = number; queued = true })) inside)
        (sym (ap (λ (m : Mark). m.queued) (elsewhere k other)) ∙ is))
  ]
