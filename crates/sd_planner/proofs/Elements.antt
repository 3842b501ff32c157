-- Elements of lists: where they stand, and which of them is found first.
use Rattle.std.proofs.Common.{◌≡◌, ℕ, zero, suc, inl, inr, Bool, true, false, ◌||◌, cond, List, [], ◌∷◌, find, get_or, All, Some, None, refl, ap, ◌∙◌, subst}
use Rattle.std.specs.List.{slice_get, list_any, list_all}
use Rattle.std.specs.Option.{is_some}
use Rattle.std.proofs.lemmas.Bool.{and_parts, or_cases}
use Rattle.std.proofs.lemmas.List.Elements.{All-tail, All-head}

-- what follows from what holds of each
pub all_follows : {X : Type 0} (P Q : X → Type 0) (xs : List X) → ((x : X) → P x → Q x) → All P xs → All Q xs
all_follows P Q xs follows all k d within = follows (get_or xs k d) (all k d within)

-- what is found passes, and stands at a place
pub found_at_place : {X : Type 0} (test : X → Bool) (xs : List X) (x : X) → find test xs ≡ Some x → (k : ℕ) × (slice_get xs k ≡ Some x) × (test x ≡ true)
found_at_place test [] x found = cc
found_at_place test (y ∷ ys) x found = by_test (test y) refl (found_at_place test ys x) found
  where
    by_test : (b : Bool) → test y ≡ b → (find test ys ≡ Some x → (k : ℕ) × (slice_get ys k ≡ Some x) × (test x ≡ true))
        → cond b (Some y) (find test ys) ≡ Some x → (k : ℕ) × (slice_get (y ∷ ys) k ≡ Some x) × (test x ≡ true)
    by_test true passes later found = let same : y ≡ x = cc in (0, found, subst (λ z. test z ≡ true) same passes)
    by_test false fails later found = let (k, at, passes) = later found in (suc k, at, passes)

-- what holds of all holds of what is found
pub found_all : {X : Type 0} (P : X → Type 0) (test : X → Bool) (xs : List X) (x : X) → All P xs → find test xs ≡ Some x → P x
found_all P test [] x all found = cc
found_all P test (y ∷ ys) x all found = by_test (test y) (found_all P test ys x (All-tail P y ys all)) found
  where
    by_test : (b : Bool) → (find test ys ≡ Some x → P x) → cond b (Some y) (find test ys) ≡ Some x → P x
    by_test true later found = let same : y ≡ x = cc in subst P same (All-head P y ys all)
    by_test false later found = later found

-- where none passes none is found
pub none_all : {X : Type 0} (P : X → Type 0) (test : X → Bool) (xs : List X) → ((x : X) → P x → test x ≡ false) → All P xs → find test xs ≡ None
none_all P test [] fails all = refl
none_all P test (x ∷ xs) fails all = rw (fails x (All-head P x xs all)) (none_all P test xs fails (All-tail P x xs all))

-- the same, place by place
pub none_each : {X : Type 0} (test : X → Bool) (xs : List X) → ((k : ℕ) (x : X) → slice_get xs k ≡ Some x → test x ≡ false) → find test xs ≡ None
none_each test [] fails = refl
none_each test (x ∷ xs) fails = rw (fails 0 x refl) (none_each test xs (λ k y at. fails (suc k) y at))

-- all pass
pub all_pass : {X : Type 0} (test : X → Bool) (xs : List X) → ((k : ℕ) (x : X) → slice_get xs k ≡ Some x → test x ≡ true) → list_all test xs ≡ true
all_pass test [] passes = refl
all_pass test (x ∷ xs) passes = rw (passes 0 x refl) (all_pass test xs (λ k y at. passes (suc k) y at))

-- each passes
pub pass_each : {X : Type 0} (test : X → Bool) (xs : List X) (k : ℕ) (x : X) → list_all test xs ≡ true → slice_get xs k ≡ Some x → test x ≡ true
pass_each test [] k x passes at = cc
pass_each test (y ∷ ys) zero x passes at = let same : y ≡ x = cc in subst (λ z. test z ≡ true) same (and_parts (test y) (list_all test ys) passes).0
pass_each test (y ∷ ys) (suc k) x passes at = pass_each test ys k x (and_parts (test y) (list_all test ys) passes).1 at

-- what alone passes is found
pub find_alone : {X : Type 0} (test : X → Bool) (xs : List X) (k : ℕ) (x : X) → slice_get xs k ≡ Some x → test x ≡ true
    → ((j : ℕ) (y : X) → slice_get xs j ≡ Some y → test y ≡ true → y ≡ x) → find test xs ≡ Some x
find_alone test [] k x at passes alone = cc
find_alone test (y ∷ ys) zero x at passes alone = let same : y ≡ x = cc in rw (ap test same ∙ passes) (ap (λ z. Some z) same)
find_alone test (y ∷ ys) (suc k) x at passes alone = by_test (test y) refl (find_alone test ys k x at passes (λ j z there. alone (suc j) z there))
  where
    by_test : (b : Bool) → test y ≡ b → find test ys ≡ Some x → cond b (Some y) (find test ys) ≡ Some x
    by_test true here later = ap (λ z. Some z) (alone 0 y refl here)
    by_test false here later = later

pub at_any : {X : Type 0} (test : X → Bool) (xs : List X) → list_any test xs ≡ true → (k : ℕ) × (x : X) × (slice_get xs k ≡ Some x) × (test x ≡ true)
at_any test [] some = cc
at_any test (y ∷ ys) some =
    elim (or_cases (test y) (list_any test ys) some) [
      | inl here ↦ (0, y, refl, here)
      | inr later ↦ (let (k, x, at, passes) = at_any test ys later in (suc k, x, at, passes))
    ]

-- some passes just where one is found
pub any_found : {X : Type 0} (test : X → Bool) (xs : List X) → list_any test xs ≡ is_some (find test xs)
any_found test [] = refl
any_found test (x ∷ xs) = by_test (test x) (any_found test xs)
  where
    by_test : (b : Bool) → list_any test xs ≡ is_some (find test xs) → (b || list_any test xs) ≡ is_some (cond b (Some x) (find test xs))
    by_test true later = refl
    by_test false later = later

-- what holds of all holds at a place
pub all_at : {X : Type 0} (P : X → Type 0) (xs : List X) (k : ℕ) (x : X) → All P xs → slice_get xs k ≡ Some x → P x
all_at P [] k x all at = cc
all_at P (y ∷ ys) zero x all at = let same : y ≡ x = cc in subst P same (All-head P y ys all)
all_at P (y ∷ ys) (suc k) x all at = all_at P ys k x (All-tail P y ys all) at
