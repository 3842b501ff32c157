-- Counts of the numbers below a bound that pass a test, where two tests differ at one number at most.
use Rattle.std.specs.Prelude.{◌≡◌, ◌≢◌, ℕ, zero, suc, ◌+◌, ◌<◌, ◌≤◌, Bool, true, false, ◌&&◌, List, [], ◌∷◌, filter, count_by, cond, nat_eq, refl, if◌then◌else◌}
use Rattle.std.specs.List.{list_all}
use Rattle.std.proofs.Common.{ap, ◌∙◌, sym, subst, arith, inl, inr}
use Rattle.std.proofs.lemmas.Bool.{cases_lt, cases_eq, eq-eqb, ne_eqb}
use Rattle.std.proofs.lemmas.List.Sums.{sum_by-append, sum_by-cons, count_by-le-length}
use Rattle.sd_num.specs.Lists.{below}
use Rattle.sd_plan.proofs.Numbered.{length-below}

-- one number more
pub count_more : (test : ℕ → Bool) (n : ℕ) → count_by test (below (suc n)) ≡ count_by test (below n) + cond (test n) 1 0
count_more test n = sum_by-append (λ x. cond (test x) 1 0) (below n) (n ∷ []) ∙ last (count_by test (below n)) (cond (test n) 1 0)
  where
    last : (c one : ℕ) → c + (0 + one) ≡ c + one
    last c one = omega arith

-- tests that agree below the bound
pub count_same : (before after : ℕ → Bool) (n : ℕ) → ((x : ℕ) → x < n → after x ≡ before x) → count_by after (below n) ≡ count_by before (below n)
count_same before after zero alike = refl
count_same before after (suc n) alike =
    count_more after n ∙ ap (λ (c : ℕ). c + cond (after n) 1 0) (count_same before after n (λ x within. alike x (omega arith)))
    ∙ ap (λ (b : Bool). count_by before (below n) + cond b 1 0) (alike n (omega arith))
    ∙ sym (count_more before n)

-- tests that agree at all numbers below the bound but one
pub count_but_one : (before after : ℕ → Bool) (n d : ℕ) → d < n → ((x : ℕ) → x < n → x ≢ d → after x ≡ before x)
    → count_by after (below n) + cond (before d) 1 0 ≡ count_by before (below n) + cond (after d) 1 0
count_but_one before after zero d within alike = absurd (omega arith)
count_but_one before after (suc n) d within alike =
    elim (cases_lt d n) [
      | inl earlier ↦
          together (count_by after (below n)) (count_by after (below (suc n))) (count_by before (below n)) (count_by before (below (suc n)))
          (cond (before d) 1 0) (cond (after d) 1 0) (cond (after n) 1 0) (cond (before n) 1 0)
          (count_but_one before after n d earlier (λ x inside apart. alike x (omega arith) apart))
          (ap (λ (b : Bool). cond b 1 0) (alike n (omega arith) (λ same. omega arith))) (count_more after n) (count_more before n)
      | inr latest ↦
          (let here : n ≡ d = omega arith in
          subst (λ (x : ℕ). count_by after (below (suc n)) + cond (before x) 1 0 ≡ count_by before (below (suc n)) + cond (after x) 1 0) here
          (at_last (count_by after (below n)) (count_by after (below (suc n))) (count_by before (below n)) (count_by before (below (suc n)))
          (cond (after n) 1 0) (cond (before n) 1 0) (count_same before after n (λ x inside. alike x (omega arith) (λ same. omega arith)))
          (count_more after n) (count_more before n)))
    ]
  where
    together : (a a' b b' x y p q : ℕ) → a + x ≡ b + y → p ≡ q → a' ≡ a + p → b' ≡ b + q → a' + x ≡ b' + y
    together a a' b b' x y p q rest last more less = omega arith

    at_last : (a a' b b' p q : ℕ) → a ≡ b → a' ≡ a + p → b' ≡ b + q → a' + q ≡ b' + p
    at_last a a' b b' p q rest more less = omega arith

-- one number counts for no more than all
pub one_of_all : (test : ℕ → Bool) (n d : ℕ) → d < n → cond (test d) 1 0 ≤ count_by test (below n)
one_of_all test zero d within = absurd (omega arith)
one_of_all test (suc n) d within =
    elim (cases_lt d n) [
      | inl earlier ↦ (let rest = one_of_all test n d earlier in let more = count_more test n in omega arith)
      | inr latest ↦
          (let here : n ≡ d = omega arith in
          subst (λ (x : ℕ). cond (test x) 1 0 ≤ count_by test (below (suc n))) here (let more = count_more test n in omega arith))
    ]

-- no more than the bound
pub count_bound : (test : ℕ → Bool) (n : ℕ) → count_by test (below n) ≤ n
count_bound test n = let most = count_by-le-length test (below n) in let size = length-below n in omega arith

-- a test that nothing passes
pub count_none : (test : ℕ → Bool) (n : ℕ) → ((x : ℕ) → test x ≡ false) → count_by test (below n) ≡ 0
count_none test zero fails = refl
count_none test (suc n) fails = count_more test n ∙ ap (λ (b : Bool). count_by test (below n) + cond b 1 0) (fails n)
    ∙ nothing (count_by test (below n)) (count_none test n fails)
  where
    nothing : (c : ℕ) → c ≡ 0 → c + 0 ≡ 0
    nothing c none = omega arith

-- all of those that pass the first test pass the second where as many pass both

fewer : (p q : ℕ → Bool) (xs : List ℕ) → count_by (λ x. p x && q x) xs ≤ count_by p xs
fewer p q [] = omega arith
fewer p q (x ∷ xs) =
    let one = sum_by-cons (λ y. cond (p y && q y) 1 0) x xs in
    let other = sum_by-cons (λ y. cond (p y) 1 0) x xs in
    let rest = fewer p q xs in
    let here = by (p x) (q x) in
    omega arith
  where
    by : (a b : Bool) → cond (a && b) 1 0 ≤ cond a 1 0
    by true true = omega arith
    by true false = omega arith
    by false b = omega arith

pub all_pass : (p q : ℕ → Bool) (xs : List ℕ) → nat_eq (count_by (λ x. p x && q x) xs) (count_by p xs) ≡ list_all q (filter p xs)
all_pass p q [] = refl
all_pass p q (x ∷ xs) =
    subst (λ (n : ℕ). nat_eq n (count_by p (x ∷ xs)) ≡ list_all q (filter p (x ∷ xs))) (sym (sum_by-cons (λ y. cond (p y && q y) 1 0) x xs))
    (subst (λ (n : ℕ). nat_eq (cond (p x && q x) 1 0 + count_by (λ y. p y && q y) xs) n ≡ list_all q (filter p (x ∷ xs)))
    (sym (sum_by-cons (λ y. cond (p y) 1 0) x xs))
    (by (p x) (q x) (count_by (λ y. p y && q y) xs) (count_by p xs) refl (fewer p q xs) (all_pass p q xs)))
  where
    steps : (n m : ℕ) → nat_eq (1 + n) (1 + m) ≡ nat_eq n m
    steps n m = elim (cases_eq n m) [
      | inl same ↦ eq-eqb (1 + n) (1 + m) (omega arith)
          ∙ sym (eq-eqb n m same)
      | inr apart ↦ ne_eqb (1 + n) (1 + m) (λ same. apart (omega arith)) ∙ sym (ne_eqb n m apart)
    ]

    keeps : (n m : ℕ) → nat_eq (0 + n) (0 + m) ≡ nat_eq n m
    keeps n m = elim (cases_eq n m) [
      | inl same ↦ eq-eqb (0 + n) (0 + m) (omega arith)
          ∙ sym (eq-eqb n m same)
      | inr apart ↦ ne_eqb (0 + n) (0 + m) (λ same. apart (omega arith)) ∙ sym (ne_eqb n m apart)
    ]

    by : (a b : Bool) (n m : ℕ) → q x ≡ b → n ≤ m → nat_eq n m ≡ list_all q (filter p xs)
        → nat_eq (cond (a && b) 1 0 + n) (cond a 1 0 + m) ≡ list_all q (if a then x ∷ filter p xs else filter p xs)
    by true true n m is low rest = rw is (steps n m ∙ rest)
    by true false n m is low rest = rw is (ne_eqb (0 + n) (1 + m) (λ same. omega arith))
    by false b n m is low rest = keeps n m ∙ rest
