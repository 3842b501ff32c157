-- Where an element stands in a list whose elements differ.
use Rattle.std.proofs.Common.{◌≡◌, ◌≢◌, ℕ, zero, suc, ◌+◌, ◌<◌, ◌≤◌, Bool, true, false, not, nat_eq, nat_le, List, [], ◌∷◌, ◌++◌, length, Some, get_or, refl, ap, sym, ◌∙◌, subst, arith}
use Rattle.std.specs.List.{list_any, slice_get, prefix_len}
use Rattle.std.specs.Str.{bytes_eq}
use Rattle.std.proofs.lemmas.Bool.{false_from_ne_true, leb-true, lt-ltb, and_parts, ne_eqb}
use Rattle.std.proofs.lemmas.Slice.Eq.{bytes_eq-Decides}
use Rattle.std.proofs.lemmas.Option.{slice_get-get_or, slice_get_within}
use Rattle.sd_num.specs.Lists.{has, ascends, map_or}
use Rattle.sd_plan.specs.topo.Network.{name_at, number_in}
use Rattle.sd_plan.specs.topo.Limits.{AreDistinct}
use Rattle.sd_plan.proofs.topo.Ascending.{Rises}
use Rattle.sd_plan.proofs.topo.Lists.{names_equal}

-- no two elements are equal, by their places
abbrev pub Differ : {A : Type 0} → List A → Type 0
Differ xs = (i j : ℕ) → i < j → j < length xs → slice_get xs i ≢ slice_get xs j

-- the rest differs too
differ_tail : {A : Type 0} (x : A) (xs : List A) → Differ (x ∷ xs) → Differ xs
differ_tail x xs apart i j before within = apart (suc i) (suc j) (omega arith) (omega arith)

-- the element between two parts
middle : {A : Type 0} (before after : List A) (x : A) → slice_get (before ++ x ∷ after) (length before) ≡ Some x
middle [] after x = refl
middle (b ∷ before) after x = middle before after x

-- its place is in the list
middle-within : {A : Type 0} (before after : List A) (x : A) → length before < length (before ++ x ∷ after)
middle-within [] after x = omega arith
middle-within (b ∷ before) after x = let rest = middle-within before after x in omega arith

-- an element stands at the place after those before it
pub stands : {A : Type 0} (xs before after : List A) (x : A) → before ++ x ∷ after ≡ xs → slice_get xs (length before) ≡ Some x
stands xs before after x is = subst (λ l. slice_get l (length before) ≡ Some x) is (middle before after x)

module _ {A : Type 0} (e : A → A → Bool) (same : (x y : A) → e x y ≡ true → x ≡ y) where
  -- none before it is taken for it
  none_in_front : (before after : List A) (x : A) → Differ (before ++ x ∷ after) → list_any (e x) before ≡ false
  none_in_front [] after x apart = refl
  none_in_front (b ∷ before) after x apart =
      let other : e x b ≡ false = false_from_ne_true (e x b) (λ h.
      apart 0 (suc (length before)) (omega arith) (let h = middle-within before after x in omega arith) (first (same x b h) ∙ sym (middle before after x))) in
      let rest : list_any (e x) before ≡ false = none_in_front before after x (differ_tail b (before ++ x ∷ after) apart) in
      rw (other, rest) refl
    where
      first : x ≡ b → Some b ≡ Some x
      first h = cc

  -- where elements differ, none before x is taken for x
  pub none_before : (xs before after : List A) (x : A) → Differ xs → before ++ x ∷ after ≡ xs → list_any (e x) before ≡ false
  none_before xs before after x apart is = none_in_front before after x (subst Differ (sym is) apart)

-- bytes that are taken for equal are equal
pub same_bytes : (x y : List ℕ) → bytes_eq x y ≡ true → x ≡ y
same_bytes x y h = (bytes_eq-Decides x y).0 h

-- how far the names before a name go
prefix_back : (names : List (List ℕ)) (n : ℕ) (x : List ℕ) → Differ names → slice_get names n ≡ Some x → prefix_len (λ y. not (bytes_eq x y)) names ≡ n
prefix_back [] n x apart at = cc
prefix_back (y ∷ ys) zero x apart at =
    let is : y ≡ x = cc in
    let equal : bytes_eq x y ≡ true = subst (λ (z : List ℕ). bytes_eq x z ≡ true) (sym is) (names_equal.refl x) in
    rw equal refl
prefix_back (y ∷ ys) (suc n) x apart at =
    let within = slice_get_within ys n x at in
    let other : bytes_eq x y ≡ false =
    false_from_ne_true (bytes_eq x y) (λ h. apart 0 (suc n) (omega arith) (omega arith) (first (same_bytes x y h) ∙ sym at)) in
    let rest : prefix_len (λ z. not (bytes_eq x z)) ys ≡ n = prefix_back ys n x (differ_tail y ys apart) at in
    rw (other, rest) (omega arith)
  where
    first : x ≡ y → Some y ≡ Some x
    first h = cc

-- the number of the name at a number is the number
pub number_back : (names : List (List ℕ)) (n : ℕ) → AreDistinct names → n < length names → number_in names (name_at names n) ≡ Some n
number_back names n apart within =
    let at = slice_get-get_or names n [] within in
    let named : name_at names n ≡ get_or names n [] = ap (λ o. map_or o [] (λ name. name)) at in
    let far : prefix_len (λ y. not (bytes_eq (get_or names n []) y)) names ≡ n = prefix_back names n (get_or names n []) apart at in
    ap (number_in names) named ∙ rw (far, lt-ltb n (length names) within) refl

-- an ascending list rises from its first number on
rises-from : (x : ℕ) (xs : List ℕ) → ascends (x ∷ xs) ≡ true → Rises x (x ∷ xs)
rises-from x [] up = (omega arith, tt)
rises-from x (y ∷ ys) up =
    let (next, rest) = and_parts (nat_le (x + 1) y) (ascends (y ∷ ys)) up in
    let low = leb-true (x + 1) y next in
    let more = rises-from y ys rest in
    (omega arith, (omega arith, more.1))

-- and so from 0 on
pub rises-ascending : (xs : List ℕ) → ascends xs ≡ true → Rises 0 xs
rises-ascending [] up = tt
rises-ascending (x ∷ xs) up = (omega arith, (rises-from x xs up).1)

-- no element of a rising list is less than its start
rises-middle : (a : ℕ) (before after : List ℕ) (x : ℕ) → Rises a (before ++ x ∷ after) → a ≤ x
rises-middle a [] after x up = up.0
rises-middle a (b ∷ before) after x up = let rest = rises-middle (suc b) before after x up.1 in omega arith

-- in a rising list none before x is x
rises-none : (a : ℕ) (before after : List ℕ) (x : ℕ) → Rises a (before ++ x ∷ after) → has before x ≡ false
rises-none a [] after x up = refl
rises-none a (b ∷ before) after x up =
    let above = rises-middle (suc b) before after x up.1 in
    let other : nat_eq x b ≡ false = ne_eqb x b (λ e. omega arith) in
    let rest : has before x ≡ false = rises-none (suc b) before after x up.1 in
    rw (other, rest) refl

-- the same where the list is known by another name
pub rising_none : (xs before after : List ℕ) (x : ℕ) → Rises 0 xs → before ++ x ∷ after ≡ xs → has before x ≡ false
rising_none xs before after x up is = rises-none 0 before after x (subst (Rises 0) (sym is) up)
