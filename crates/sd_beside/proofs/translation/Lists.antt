-- Lists whose elements are mapped: what tests, searches and look-ups find in them.
use Rattle.std.specs.Prelude.{◌≡◌, ℕ, ◌+◌, Bool, true, false, ◌||◌, List, [], ◌∷◌, ◌⊎◌, map, find, filter, filter_map, Option, Some, None, option_map, refl, if◌then◌else◌}
use Rattle.std.specs.List.{list_any, cons_option}
use Rattle.std.proofs.Common.{◌∙◌, inl, inr}
use Rattle.sd_num.specs.Lists.{map_or, find_map_or, leading}

module _ {A B : Type 0} (g : A → B) where
  pub any_mapped : (test : B → Bool) (like : A → Bool) → ((x : A) → test (g x) ≡ like x) → (xs : List A) → list_any test (map g xs) ≡ list_any like xs
  any_mapped test like same [] = refl
  any_mapped test like same (x ∷ xs) = λ i. same x i || any_mapped test like same xs i

  pub told_mapped : {C : Type 0} (f : B → Option C) (like : A → Option C) → ((x : A) → f (g x) ≡ like x) → (xs : List A) (default : C)
      → find_map_or f (map g xs) default ≡ find_map_or like xs default
  told_mapped f like same [] default = refl
  told_mapped f like same (x ∷ xs) default = λ i. map_or (same x i) (told_mapped f like same xs default i) (λ told. told)

  pub leading_mapped : (test : B → Bool) (like : A → Bool) → ((x : A) → test (g x) ≡ like x) → (xs : List A) → leading test (map g xs) ≡ map g (leading like xs)
  leading_mapped test like same [] = refl
  leading_mapped test like same (x ∷ xs) = (λ i. if same x i then g x ∷ leading_mapped test like same xs i else []) ∙ go (like x) (leading like xs)
    where
      go : (b : Bool) (ys : List A) → (if b then g x ∷ map g ys else []) ≡ map g (if b then x ∷ ys else [])
      go true ys = refl
      go false ys = refl

  pub find_mapped : (test : B → Bool) (like : A → Bool) → ((x : A) → test (g x) ≡ like x) → (xs : List A)
      → find test (map g xs) ≡ option_map g (find like xs)
  find_mapped test like same [] = refl
  find_mapped test like same (x ∷ xs) = (λ i. if same x i then Some (g x) else find_mapped test like same xs i) ∙ go (like x) (find like xs)
    where
      go : (b : Bool) (o : Option A) → (if b then Some (g x) else option_map g o) ≡ option_map g (if b then Some x else o)
      go true o = refl
      go false o = refl

  pub filter_mapped : (test : B → Bool) (like : A → Bool) → ((x : A) → test (g x) ≡ like x) → (xs : List A) → filter test (map g xs) ≡ map g (filter like xs)
  filter_mapped test like same [] = refl
  filter_mapped test like same (x ∷ xs) =
      (λ i. if same x i then g x ∷ filter_mapped test like same xs i else filter_mapped test like same xs i) ∙ go (like x) (filter like xs)
    where
      go : (b : Bool) (ys : List A) → (if b then g x ∷ map g ys else map g ys) ≡ map g (if b then x ∷ ys else ys)
      go true ys = refl
      go false ys = refl

  pub map_mapped : {C : Type 0} (f : B → C) (like : A → C) → ((x : A) → f (g x) ≡ like x) → (xs : List A) → map f (map g xs) ≡ map like xs
  map_mapped f like same [] = refl
  map_mapped f like same (x ∷ xs) = λ i. same x i ∷ map_mapped f like same xs i

  pub kept_mapped : {C : Type 0} (f : B → Option C) (like : A → Option C) → ((x : A) → f (g x) ≡ like x) → (xs : List A)
      → filter_map f (map g xs) ≡ filter_map like xs
  kept_mapped f like same [] = refl
  kept_mapped f like same (x ∷ xs) = λ i. cons_option (same x i) (kept_mapped f like same xs i)

-- a look-up whose findings are mapped, with its default
pub look_up_moved : {A B C D : Type 0} (g : A → B) (h : C → D) (f : A → Option C) (f' : B → Option D) → ((x : A) → f' (g x) ≡ option_map h (f x))
    → (xs : List A) (default : C) → find_map_or f' (map g xs) (h default) ≡ h (find_map_or f xs default)
look_up_moved g h f f' same [] default = refl
look_up_moved {C = C} {D = D} g h f f' same (x ∷ xs) default =
    (λ i. map_or (same x i) (look_up_moved g h f f' same xs default i) (λ told. told)) ∙ go (f x) (find_map_or f xs default)
  where
    go : (o : Option C) (c : C) → map_or (option_map h o) (h c) (λ told. told) ≡ h (map_or o c (λ told. told))
    go None c = refl
    go (Some y) c = refl

-- two numbers: the first is the second moved, or both are 0
abbrev pub MovedOrNone : (by moved number : ℕ) → Type 0
MovedOrNone by moved number = (moved ≡ number + by) ⊎ ((moved ≡ 0) × (number ≡ 0))

-- a look-up of a number whose findings are moved, and whose default 0 is not
pub number_moved : {A B : Type 0} (by : ℕ) (g : A → B) (f : A → Option ℕ) (f' : B → Option ℕ) → ((x : A) → f' (g x) ≡ option_map (λ n. n + by) (f x))
    → (xs : List A) → MovedOrNone by (find_map_or f' (map g xs) 0) (find_map_or f xs 0)
number_moved by g f f' same [] = inr (refl, refl)
number_moved by g f f' same (x ∷ xs) = go (f' (g x)) (f x) (same x) (number_moved by g f f' same xs)
  where
    go : (o p : Option ℕ) → o ≡ option_map (λ n. n + by) p → {a b : ℕ} → MovedOrNone by a b
        → MovedOrNone by (map_or o a (λ told. told)) (map_or p b (λ told. told))
    go None None is rest = rest
    go None (Some n) is rest = cc
    go (Some m) None is rest = cc
    go (Some m) (Some n) is rest = inl cc
