-- What holds of each element, and that elements differ, by places.
use Rattle.std.proofs.Common.{◌≡◌, ◌≢◌, ℕ, suc, ◌+◌, ◌<◌, Bool, true, false, nat_eq, nat_le, nat_lt, List, [], ◌∷◌, ◌++◌, length, map, Some, get_or, All, IsTrue, refl, sym, ◌∙◌, subst, arith}
use Rattle.std.specs.List.{list_any, IsDistinct, slice_get}
use Rattle.std.specs.Str.{bytes_eq}
use Rattle.std.specs.Cmp.{IsEquivalence, nat_eq_equiv}
use Rattle.std.specs.Cmp.Lexicographic.{on_texts_equal}
use Rattle.std.proofs.lemmas.Bool.{false≢true, le-leb, lt-ltb}
use Rattle.std.proofs.lemmas.List.{map-append}
use Rattle.std.proofs.lemmas.List.Elements.{All-push, All-nil}
use Rattle.std.proofs.lemmas.Map.Keys.{IsDistinct-push, apart_from_distinct}
use Rattle.std.proofs.lemmas.Option.{slice_get_within, get_or_from_slice_get, slice_get-get_or}
use Rattle.sd_num.specs.Lists.{has, ascends, all_below, ascending}
use Rattle.sd_plan.specs.topo.Network.{Each, is_name}
use Rattle.sd_plan.specs.topo.Limits.{AreDistinct, AreNumbers}
use Rattle.sd_plan.proofs.topo.Ascending.{Rises, rising}

-- equal bytes are the same name
pub names_equal : IsEquivalence bytes_eq
names_equal = on_texts_equal (λ (name : List ℕ). name)

-- what holds at each place holds of each element that there is
pub each_of : {A : Type 0} (P : A → Type 0) (xs : List A) → All P xs → Each P xs
each_of P xs all i x at = subst P (get_or_from_slice_get xs i x x at) (all i x (slice_get_within xs i x at))

-- elements that no test takes for equal differ
differ : {A : Type 0} (e : A → A → Bool) (laws : IsEquivalence e) (d : A) (xs : List A) → IsDistinct e xs → (i j : ℕ) → i < j → j < length xs
    → slice_get xs i ≢ slice_get xs j
differ {A} e laws d xs apart i j before within same =
    let left = slice_get-get_or xs i d (omega arith) in
    let right = slice_get-get_or xs j d within in
    let equal : get_or xs i d ≡ get_or xs j d = inside _ _ (sym left ∙ same ∙ right) in
    false≢true (sym (apart_from_distinct e xs i j d apart before within) ∙ subst (λ x. e (get_or xs i d) x ≡ true) equal (laws.refl (get_or xs i d)))
  where
    inside : (x y : A) → Some x ≡ Some y → x ≡ y
    inside x y h = cc

-- names of which none comes twice
pub names_differ : (names : List (List ℕ)) → IsDistinct bytes_eq names → AreDistinct names
names_differ names apart = differ bytes_eq names_equal [] names apart

-- numbers below a bound of which none comes twice
pub numbers_differ : (bound : ℕ) (xs : List ℕ) → All (λ n. n < bound) xs → IsDistinct nat_eq xs → AreNumbers bound xs
numbers_differ bound xs within apart = (each_of (λ n. n < bound) xs within, differ nat_eq nat_eq_equiv 0 xs apart)

-- names within the limits, of which none comes twice
pub record AreNames (names : List (List ℕ)) : Type 0 where
  pub limits : All (λ name. IsTrue (is_name name)) names
  pub apart : IsDistinct bytes_eq names

-- no names are names
pub no_names : AreNames []
unfolding IsDistinct
no_names = record { limits = All-nil (λ name. IsTrue (is_name name)); apart = tt }

-- one more name
pub names_more : {B : Type 0} (name : B → List ℕ) (seen : List B) (x : B) → AreNames (map name seen) → is_name (name x) ≡ true
    → list_any (bytes_eq (name x)) (map name seen) ≡ false
    → AreNames (map name (seen ++ x ∷ []))
names_more name seen x known good new =
    subst AreNames (sym (map-append name seen (x ∷ []))) (record {
      limits = All-push (λ n. IsTrue (is_name n)) (map name seen) (name x) known.limits good;
      apart = IsDistinct-push names_equal (map name seen) (name x) known.apart new;
    })

-- a mapped list is as long
pub length-map : {A B : Type 0} (f : A → B) (xs : List A) → length (map f xs) ≡ length xs
length-map f [] = refl
length-map f (x ∷ xs) = rw (length-map f xs) refl

-- names are as many as what they name
pub names_count : {B : Type 0} (name : B → List ℕ) (xs : List B) → length (map name xs) ≡ length xs
names_count name xs = length-map name xs

-- a rising list ascends
pub ascends-rising : (a : ℕ) (xs : List ℕ) → Rises a xs → ascends xs ≡ true
ascends-rising a [] up = refl
ascends-rising a (x ∷ []) up = refl
ascends-rising a (x ∷ y ∷ ys) up =
    let next : nat_le (x + 1) y ≡ true = le-leb (x + 1) y (omega arith) in
    rw next (ascends-rising (suc x) (y ∷ ys) up.1)

-- what is below a bound at each place passes the test
below-all : (bound : ℕ) (xs : List ℕ) → All (λ n. n < bound) xs → all_below bound xs ≡ true
below-all bound [] within = refl
below-all bound (x ∷ xs) within =
    let first : nat_lt x bound ≡ true = lt-ltb x bound (within 0 0 (omega arith)) in
    rw first (below-all bound xs (λ i d h. within (suc i) d (omega arith)))

-- the numbers below a count that are listed ascend, below the count
pub ascending_ok : (count : ℕ) (xs : List ℕ) → (ascends (ascending count xs) ≡ true) × (all_below count (ascending count xs) ≡ true)
ascending_ok count xs =
    let (up, within) = rising (has xs) count in
    (ascends-rising 0 (ascending count xs) up, below-all count (ascending count xs) within)
