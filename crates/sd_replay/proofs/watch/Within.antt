-- A device on a loop comes back within as many steps as there are devices with parents: the devices up to its first return are different.
use Rattle.std.specs.Prelude.{◌≡◌, ◌≢◌, ℕ, zero, suc, ◌+◌, ◌-◌, ◌<◌, ◌≤◌, Bool, true, false, nat_eq, Option, Some, cond, ◌⊎◌}
use Rattle.std.proofs.Common.{refl, sym, ap, ◌∙◌, inl, inr, arith}
use Rattle.std.proofs.lemmas.Bool.{cases_Bool, eqb-true, eqb-false, both_ways, cases_lt}
use Rattle.sd_num.specs.Lists.{map_or, same_number, follow}
use Rattle.sd_num.proofs.Shared.{same_number-some, some-same_number}
use Rattle.sd_num.proofs.Firsts.{NonePasses}
use Rattle.sd_replay.specs.watch.Watch.{IsOnLoop}
use Rattle.sd_replay.proofs.watch.Following.{before_last, further, on_the_way}

-- Different numbers below a bound are no more than it.

abbrev avoiding : (ℕ → ℕ) → ℕ → ℕ → ℕ → ℕ
avoiding f most last i = cond (nat_eq (f i) most) (f last) (f i)

abbrev pub AreBelow : (ℕ → ℕ) → ℕ → ℕ → Type 0
AreBelow f count bound = (i : ℕ) → i < count → f i < bound

abbrev pub AreDifferent : (ℕ → ℕ) → ℕ → Type 0
AreDifferent f count = (i j : ℕ) → i < j → j < count → f i ≢ f j

avoids : (x most y : ℕ) → ((x ≡ most) × (cond (nat_eq x most) y x ≡ y)) ⊎ ((x ≢ most) × (cond (nat_eq x most) y x ≡ x))
avoids x most y = by (nat_eq x most) refl
  where
    by : (b : Bool) → nat_eq x most ≡ b → ((x ≡ most) × (cond b y x ≡ y)) ⊎ ((x ≢ most) × (cond b y x ≡ x))
    by true same = inl (eqb-true x most same, refl)
    by false apart = inr (eqb-false x most apart, refl)

avoiding_below : (f : ℕ → ℕ) (n most : ℕ) → AreBelow f (suc n) (suc most) → AreDifferent f (suc n) → AreBelow (avoiding f most n) n most
avoiding_below f n most within apart i less =
    let here : f i < suc most = within i (omega arith) in
    let last : f n < suc most = within n (omega arith) in
    let other : f i ≢ f n = apart i n less (omega arith) in
    elim (avoids (f i) most (f n)) [ inl w ↦ omega (arith, w.0, w.1) | inr w ↦ omega (arith, w.0, w.1) ]

avoiding_apart : (f : ℕ → ℕ) (n most : ℕ) → AreDifferent f (suc n) → AreDifferent (avoiding f most n) n
avoiding_apart f n most apart i j less within same =
    let others : f i ≢ f j = apart i j less (omega arith) in
    let first : f i ≢ f n = apart i n (omega arith) (omega arith) in
    let second : f j ≢ f n = apart j n within (omega arith) in
    elim (avoids (f i) most (f n)) [
      | inl v ↦ elim (avoids (f j) most (f n)) [ inl w ↦ others (v.0 ∙ sym w.0) | inr w ↦ second (sym w.1 ∙ sym same ∙ v.1) ]
      | inr v ↦ elim (avoids (f j) most (f n)) [ inl w ↦ first (sym v.1 ∙ same ∙ w.1) | inr w ↦ others (sym v.1 ∙ same ∙ w.1) ]
    ]

pub no_more_than : (count bound : ℕ) (f : ℕ → ℕ) → AreBelow f count bound → AreDifferent f count → count ≤ bound
no_more_than zero bound f within apart = omega arith
no_more_than (suc n) zero f within apart = absurd (omega (arith, within n (omega arith)))
no_more_than (suc n) (suc most) f within apart =
    omega (arith, no_more_than n most (avoiding f most n) (avoiding_below f n most within apart) (avoiding_apart f n most apart))

-- The least number that passes a test, of those below a bound.
pub record IsLeastPassing (test : ℕ → Bool) (m : ℕ) : Type 0 where
  pub passes : test m ≡ true
  pub least : (k : ℕ) → k < m → test k ≡ false

pub some_least : (test : ℕ → Bool) (n : ℕ) → NonePasses test n ⊎ ((m : ℕ) × (m < n) × IsLeastPassing test m)
some_least test zero = inl (λ k less. absurd (omega arith))
some_least test (suc n) = by (some_least test n) (cases_Bool (test n))
  where
    by : NonePasses test n ⊎ ((m : ℕ) × (m < n) × IsLeastPassing test m) → (test n ≡ true) ⊎ (test n ≡ false)
        → NonePasses test (suc n) ⊎ ((m : ℕ) × (m < suc n) × IsLeastPassing test m)
    by (inr found) last = inr (found.0, omega (arith, found.1), found.2)
    by (inl none) (inl passes) = inr (n, omega arith, record { passes = passes; least = none })
    by (inl none) (inr fails) = inl (λ k less. elim (cases_lt k n) [
      | inl before ↦ none k before
      | inr at ↦ (let same : k ≡ n = omega arith in ap test same ∙ fails)
    ])

module _ (parent : ℕ → Option ℕ) (d : ℕ) where
  -- this many steps and one lead from d back to d
  abbrev pub returns_at : ℕ → Bool
  returns_at n = same_number (follow parent (suc n) d) d

  pub returns : (n : ℕ) → follow parent (suc n) d ≡ Some d → returns_at n ≡ true
  returns n back = some-same_number (follow parent (suc n) d) d back

  -- up to the first return no device comes twice
  abbrev device_at : ℕ → ℕ
  device_at i = map_or (follow parent i d) 0 (λ x. x)

  way : (m : ℕ) → IsLeastPassing returns_at m → (i : ℕ) → i ≤ m → (x : ℕ) × (follow parent i d ≡ Some x)
  way m first i within =
      let split = on_the_way parent (suc m - i) i (suc m) d d (omega arith) (same_number-some (follow parent (suc m) d) d first.passes) in
      (split.0, split.1)

  device_there : (i x : ℕ) → follow parent i d ≡ Some x → device_at i ≡ x
  device_there i x at = ap (λ o. map_or o 0 (λ y. y)) at

  -- a device that came twice would lead back to d earlier
  no_shortcut : (m : ℕ) → IsLeastPassing returns_at m → (i j x : ℕ) → i < j → j ≤ m → follow parent i d ≡ Some x → follow parent j d ≡ Some x → ⊥
  no_shortcut m first i j x less within at_i at_j =
      let back : follow parent (suc m) d ≡ Some d = same_number-some (follow parent (suc m) d) d first.passes in
      let rest : follow parent (suc m - j) x ≡ Some d = sym (further parent (suc m - j) j (suc m) d x (omega arith) at_j) ∙ back in
      let short : follow parent (suc (m - j + i)) d ≡ Some d = further parent (suc m - j) i (suc (m - j + i)) d x (omega arith) at_i ∙ rest in
      both_ways (returns_at (m - j + i)) (first.least (m - j + i) (omega arith)) (returns (m - j + i) short)

  different : (m : ℕ) → IsLeastPassing returns_at m → AreDifferent device_at (suc m)
  different m first i j less within same =
      let there = way m first i (omega arith) in
      let later = way m first j (omega arith) in
      let at_j : follow parent j d ≡ Some there.0 =
      later.1 ∙ ap Some (sym (device_there j later.0 later.1) ∙ sym same ∙ device_there i there.0 there.1) in
      no_shortcut m first i j there.0 less (omega arith) there.1 at_j

  module _ (count : ℕ) (only : (e p : ℕ) → parent e ≡ Some p → e < count) where
    on_way_below : (m : ℕ) → IsLeastPassing returns_at m → AreBelow device_at (suc m) count
    on_way_below m first i within =
        let there = way m first i (omega arith) in
        let split = on_the_way parent (m - i) (suc i) (suc m) d d (omega arith) (same_number-some (follow parent (suc m) d) d first.passes) in
        let last = before_last parent i d split.0 split.1 in
        let here : last.0 < count = only last.0 split.0 last.2 in
        omega (arith, here, device_there i last.0 last.1)

    first_within : (m : ℕ) → IsLeastPassing returns_at m → m < count
    first_within m first = omega (arith, no_more_than (suc m) count device_at (on_way_below m first) (different m first))

    -- a device on a loop comes back within as many steps as there are devices that can have a parent
    pub back_within : IsOnLoop parent d → (n : ℕ) × (n < count) × (follow parent (suc n) d ≡ Some d)
    back_within loop = by (some_least returns_at (suc loop.steps))
      where
        by : NonePasses returns_at (suc loop.steps) ⊎ ((m : ℕ) × (m < suc loop.steps) × IsLeastPassing returns_at m)
            → (n : ℕ) × (n < count) × (follow parent (suc n) d ≡ Some d)
        by (inl none) = absurd (both_ways (returns_at loop.steps) (none loop.steps (omega arith)) (returns loop.steps loop.back))
        by (inr found) = (found.0, first_within found.0 found.2, same_number-some (follow parent (suc found.0) d) d found.2.passes)
