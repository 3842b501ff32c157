-- None of the one kind before the first of the other, in lists that are put one after the other.
use Rattle.std.specs.Prelude.{◌≡◌, ℕ, ◌+◌, ◌<◌, Bool, true, false, cond, ◌&&◌, not, List, [], ◌∷◌, ◌++◌, map, count_by, refl, if◌then◌else◌}
use Rattle.std.proofs.Common.{arith, sym, ap, ◌∙◌}
use Rattle.std.proofs.lemmas.List.Sums.{sum_by-append}
use Rattle.sd_headline.specs.Headlines.{none_before}

-- one more before others: `all` and `count` are of those, `longer` is with what follows them
one_more : (bad first all behind longer : Bool) (count : ℕ) → (all ≡ true → (count ≡ 0 → behind ≡ true) → longer ≡ true)
    → (if first then true else not bad && all) ≡ true
    → (cond first 1 0 + count ≡ 0 → behind ≡ true) → (if first then true else not bad && longer) ≡ true
one_more bad true all behind longer count follows here next = refl
one_more true false all behind longer count follows here next = here
one_more false false all behind longer count follows here next = follows here (λ none. next (omega (arith, none)))

quiet : (bad first all : Bool) (count : ℕ) → (count ≡ 0 → all ≡ true) → cond bad 1 0 + count ≡ 0 → (if first then true else not bad && all) ≡ true
quiet bad true all count follows none = refl
quiet true false all count follows none = absurd (omega (arith, none))
quiet false false all count follows none = follows (omega (arith, none))

pub count-append : {A : Type 0} (test : A → Bool) (xs ys : List A) → count_by test (xs ++ ys) ≡ count_by test xs + count_by test ys
count-append test xs ys = sum_by-append (λ x. cond (test x) 1 0) xs ys

pub count-cons : {A : Type 0} (test : A → Bool) (x : A) (xs : List A) → count_by test (x ∷ xs) ≡ cond (test x) 1 0 + count_by test xs
count-cons test x xs = let parts = count-append test (x ∷ []) xs in omega (arith, parts)

module _ {A : Type 0} (bad first : A → Bool) where
  pub none_before-append : (xs ys : List A) → none_before bad first xs ≡ true → (count_by first xs ≡ 0 → none_before bad first ys ≡ true)
      → none_before bad first (xs ++ ys) ≡ true
  none_before-append [] ys here behind = behind refl
  none_before-append (x ∷ xs) ys here behind =
      one_more (bad x) (first x) (none_before bad first xs) (none_before bad first ys) (none_before bad first (xs ++ ys)) (count_by first xs)
      (none_before-append xs ys) here (λ none. behind (count-cons first x xs ∙ none))

  -- where there is none at all
  pub none_at_all : (xs : List A) → count_by bad xs ≡ 0 → none_before bad first xs ≡ true
  none_at_all [] none = refl
  none_at_all (x ∷ xs) none = quiet (bad x) (first x) (none_before bad first xs) (count_by bad xs) (none_at_all xs) (sym (count-cons bad x xs) ∙ none)

-- the same of elements of another kind that pass the same tests
module _ {A B : Type 0} (f : A → B) where
  pub none_before-map : (bad first : A → Bool) (bad' first' : B → Bool) → ((x : A) → bad' (f x) ≡ bad x) → ((x : A) → first' (f x) ≡ first x) → (xs : List A)
      → none_before bad' first' (map f xs) ≡ none_before bad first xs
  none_before-map bad first bad' first' same_bad same_first [] = refl
  none_before-map bad first bad' first' same_bad same_first (x ∷ xs) =
      rw (same_bad x, same_first x, none_before-map bad first bad' first' same_bad same_first xs) refl

  pub count-map : (test : A → Bool) (test' : B → Bool) → ((x : A) → test' (f x) ≡ test x) → (xs : List A) → count_by test' (map f xs) ≡ count_by test xs
  count-map test test' same [] = refl
  count-map test test' same (x ∷ xs) =
      let one = ap (λ b. cond {A = ℕ} b 1 0) (same x) in
      let others = count-map test test' same xs in
      let left = count-cons test' (f x) (map f xs) in
      let right = count-cons test x xs in
      omega (arith, one, others, left, right)

-- what is promised of a list: none of the one kind before the first of the other; and while there is none of the other, this holds
pub record Goes {A : Type 0} (bad first : A → Bool) (xs : List A) (Well : Type 0) : Type 0 where
  pub none : none_before bad first xs ≡ true
  pub well : count_by first xs ≡ 0 → Well

module _ {A : Type 0} (bad first : A → Bool) where
  -- a list after it goes on so, where this holds
  pub goes_on : {Before After : Type 0} (xs ys : List A) → Goes bad first xs Before → (Before → Goes bad first ys After) → Goes bad first (xs ++ ys) After
  goes_on xs ys here behind =
      record {
        none = none_before-append bad first xs ys here.none (λ nothing. (behind (here.well nothing)).none);
        well = λ nothing. let parts = count-append first xs ys in (behind (here.well (omega (arith, parts, nothing)))).well (omega (arith, parts, nothing));
      }

  -- a list after one with one of the other
  pub extended : (xs ys : List A) → none_before bad first xs ≡ true → 0 < count_by first xs → none_before bad first (xs ++ ys) ≡ true
  extended xs ys here some = none_before-append bad first xs ys here (λ nothing. absurd (omega (arith, some, nothing)))

  -- where there is none of the first kind, after what holds
  pub goes_quietly : {Well : Type 0} (xs : List A) → count_by bad xs ≡ 0 → Well → Goes bad first xs Well
  goes_quietly xs nothing holds = record { none = none_at_all bad first xs nothing; well = λ none. holds }

-- nothing passes a test that nothing passes
pub count_none : {A : Type 0} (xs : List A) → count_by (λ x. false) xs ≡ 0
count_none [] = refl
count_none (x ∷ xs) = let others = count_none xs in let all = count-cons (λ y. false) x xs in omega (arith, others, all)

-- the same promise of elements of another kind that pass the same tests
pub goes-map : {A B : Type 0} {Well : Type 0} (f : A → B) (bad first : A → Bool) (bad' first' : B → Bool) → ((x : A) → bad' (f x) ≡ bad x)
    → ((x : A) → first' (f x) ≡ first x) → (xs : List A) → Goes bad first xs Well → Goes bad' first' (map f xs) Well
goes-map f bad first bad' first' same_bad same_first xs goes =
    record {
      none = none_before-map f bad first bad' first' same_bad same_first xs ∙ goes.none;
      well = λ nothing. goes.well (sym (count-map f first first' same_first xs) ∙ nothing);
    }
