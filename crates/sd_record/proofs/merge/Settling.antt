-- Which lines are settled, and which of them lead.
use Rattle.std.specs.Prelude.{◌≡◌, ◌<◌, ◌≤◌, ℕ, zero, suc, ◌+◌, ◌&&◌, All, Bool, true, false, List, [], ◌∷◌, ◌++◌, get_or, length, refl, if◌then◌else◌}
use Rattle.std.proofs.Common.{arith, ◌∙◌, ap, subst}
use Rattle.std.proofs.lemmas.List.Elements.{All-cons, All-head, All-nil, All-tail}
use Rattle.sd_num.specs.Lists.{leading}
use Rattle.sd_record.specs.merge.Lines.{LogLine, precedes, settled_by}
use Rattle.sd_record.proofs.merge.Order.{before, is_before}
use Rattle.sd_record.proofs.merge.Putting.{put}

-- A line is settled where it comes before all that each log brings

both_true : (a b : Bool) → (a && b) ≡ true → (a ≡ true) × (b ≡ true)
both_true true b is = (refl, is)
both_true false b is = cc

and_true : (a b : Bool) → a ≡ true → b ≡ true → (a && b) ≡ true
and_true a b one two = ap (λ (c : Bool). c && b) one ∙ two

pub settled_at : (n k : ℕ) (froms : List ℕ) (x : LogLine) → settled_by n froms x ≡ true → k < length froms → precedes (n + k) (get_or froms k 0) x ≡ true
settled_at n k [] x is within = absurd (omega (arith, within))
settled_at n zero (from ∷ froms) x is within =
    let same : n ≡ n + 0 = omega arith in
    subst (λ (m : ℕ). precedes m from x ≡ true) same (both_true (precedes n from x) (settled_by (n + 1) froms x) is).0
settled_at n (suc k) (from ∷ froms) x is within =
    let same : n + 1 + k ≡ n + suc k = omega arith in
    subst (λ (m : ℕ). precedes m (get_or froms k 0) x ≡ true) same
    (settled_at (n + 1) k froms x (both_true (precedes n from x) (settled_by (n + 1) froms x) is).1 (omega (arith, within)))

pub all_settled : (n : ℕ) (froms : List ℕ) (x : LogLine) → ((k : ℕ) → k < length froms → precedes (n + k) (get_or froms k 0) x ≡ true)
    → settled_by n froms x ≡ true
all_settled n [] x each = refl
all_settled n (from ∷ froms) x each =
    let same : n + 0 ≡ n = omega arith in
    and_true (precedes n from x) (settled_by (n + 1) froms x) (subst (λ (m : ℕ). precedes m from x ≡ true) same (each 0 (omega arith)))
    (all_settled (n + 1) froms x
    (λ k within. (let next : n + suc k ≡ n + 1 + k = omega arith in
    subst (λ (m : ℕ). precedes m (get_or froms k 0) x ≡ true) next (each (suc k) (omega (arith, within))))))

and_false : (a b : Bool) → b ≡ false → (a && b) ≡ false
and_false true b is = is
and_false false b is = refl

pub not_settled : (n k : ℕ) (froms : List ℕ) (x : LogLine) → k < length froms → precedes (n + k) (get_or froms k 0) x ≡ false → settled_by n froms x ≡ false
not_settled n k [] x within is = absurd (omega (arith, within))
not_settled n zero (from ∷ froms) x within is =
    let same : n + 0 ≡ n = omega arith in
    ap (λ (c : Bool). c && settled_by (n + 1) froms x) (subst (λ (m : ℕ). precedes m from x ≡ false) same is)
not_settled n (suc k) (from ∷ froms) x within is =
    let next : n + suc k ≡ n + 1 + k = omega arith in
    and_false (precedes n from x) (settled_by (n + 1) froms x)
    (not_settled (n + 1) k froms x (omega (arith, within)) (subst (λ (m : ℕ). precedes m (get_or froms k 0) x ≡ false) next is))

-- it stays before what comes later
pub later : (n from more : ℕ) (x : LogLine) → from ≤ more → precedes n from x ≡ true → precedes n more x ≡ true
later n from more x low is =
    let (reached, lower) = is_before n from x is in
    before n more x (omega (arith, low, reached)) (λ (h : n < x.log). (let less = lower h in omega (arith, low, less)))

-- it stays settled where the logs go on
pub stays : (n : ℕ) (froms more : List ℕ) (x : LogLine) → length more ≡ length froms → ((k : ℕ) → k < length froms → get_or froms k 0 ≤ get_or more k 0)
    → settled_by n froms x ≡ true
    → settled_by n more x ≡ true
stays n froms more x same low is =
    all_settled n more x
    (λ k within. (let inside : k < length froms = omega (arith, within, same) in
    later (n + k) (get_or froms k 0) (get_or more k 0) x (low k inside) (settled_at n k froms x is inside)))

-- What leads

module _ {A : Type 0} (test : A → Bool) where
  -- the lines that pass a test
  abbrev pub AllPassing : List A → Type 0
  AllPassing xs = All (λ x. test x ≡ true) xs

  pub one_leads : (x : A) (xs : List A) → test x ≡ true → leading test (x ∷ xs) ≡ x ∷ leading test xs
  one_leads x xs is = ap (λ (b : Bool). if b then x ∷ leading test xs else []) is

  pub none_leads : (x : A) (xs : List A) → test x ≡ false → leading test (x ∷ xs) ≡ []
  none_leads x xs is = ap (λ (b : Bool). if b then x ∷ leading test xs else []) is

  pub leading_pass : (xs : List A) → AllPassing (leading test xs)
  leading_pass [] = All-nil (λ (x : A). test x ≡ true)
  leading_pass (x ∷ xs) = go (test x) refl (leading_pass xs)
    where
      go : (b : Bool) → test x ≡ b → AllPassing (leading test xs) → AllPassing (if b then x ∷ leading test xs else [])
      go true is more = All-cons (λ (y : A). test y ≡ true) x (leading test xs) is more
      go false is more = All-nil (λ (y : A). test y ≡ true)

  -- those that pass lead, and after them what leads of the others
  pub leading_behind : (xs ys : List A) → AllPassing xs → leading test (xs ++ ys) ≡ xs ++ leading test ys
  leading_behind [] ys all = refl
  leading_behind (x ∷ xs) ys all =
      one_leads x (xs ++ ys) (All-head (λ (y : A). test y ≡ true) x xs all)
      ∙ ap (λ (zs : List A). x ∷ zs) (leading_behind xs ys (All-tail (λ (y : A). test y ≡ true) x xs all))

  -- all of them lead
  pub all_leading : (xs : List A) → AllPassing xs → leading test xs ≡ xs
  all_leading [] all = refl
  all_leading (x ∷ xs) all =
      one_leads x xs (All-head (λ (y : A). test y ≡ true) x xs all)
      ∙ ap (λ (zs : List A). x ∷ zs) (all_leading xs (All-tail (λ (y : A). test y ≡ true) x xs all))

-- a line is put after all that come before it
pub put_past : (x : LogLine) (xs ys : List LogLine) → AllPassing (precedes x.log x.reference) xs → put x (xs ++ ys) ≡ xs ++ put x ys
put_past x [] ys all = refl
put_past x (y ∷ xs) ys all =
    ap (λ (b : Bool). if b then y ∷ put x (xs ++ ys) else x ∷ y ∷ (xs ++ ys)) (All-head (λ (z : LogLine). precedes x.log x.reference z ≡ true) y xs all)
    ∙ ap (λ (zs : List LogLine). y ∷ zs) (put_past x xs ys (All-tail (λ (z : LogLine). precedes x.log x.reference z ≡ true) y xs all))
