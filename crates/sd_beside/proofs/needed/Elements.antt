-- Elements of lists.
use Rattle.std.specs.Prelude.{◌||◌, nat_eq, ◌≡◌, ℕ, Bool, true, false, List, [], ◌∷◌, ◌++◌, filter, find, map, Some, is_some, refl, if◌then◌else◌}
use Rattle.std.specs.List.{list_any}
use Rattle.std.proofs.Common.{sym, subst, inl, inr}
use Rattle.std.proofs.lemmas.Bool.{or_left, or_right, or_cases, eqb-true}
use Rattle.sd_num.specs.Lists.{has}
use Rattle.sd_history.proofs.Among.{Among, first, later}

pub mapped : {A B : Type 0} (f : A → B) (xs : List A) (x : A) → Among x xs → Among (f x) (map f xs)
mapped f [] x a = elim a [ ]
mapped f (y ∷ ys) x first = first
mapped f (y ∷ ys) x (later a) = later (mapped f ys x a)

pub on_left : {A : Type 0} (xs ys : List A) (x : A) → Among x xs → Among x (xs ++ ys)
on_left [] ys x a = elim a [ ]
on_left (z ∷ xs) ys x first = first
on_left (z ∷ xs) ys x (later a) = later (on_left xs ys x a)

kept_head : {A : Type 0} (p : A → Bool) (y x : A) (zs : List A) → p y ≡ true → (Among x zs → p x ≡ true) → Among x (y ∷ zs) → p x ≡ true
kept_head p y x zs is rest first = is
kept_head p y x zs is rest (later b) = rest b

pub passes_kept : {A : Type 0} (p : A → Bool) (xs : List A) (x : A) → Among x (filter p xs) → p x ≡ true
passes_kept p [] x a = elim a [ ]
passes_kept p (y ∷ ys) x a = by (p y) refl a (passes_kept p ys x)
  where
    by : (b : Bool) → p y ≡ b → Among x (if b then y ∷ filter p ys else filter p ys) → (Among x (filter p ys) → p x ≡ true) → p x ≡ true
    by true is b rest = kept_head p y x (filter p ys) is rest b
    by false is b rest = rest b

-- a search that goes on past an element that fails
found_when : {A : Type 0} (p : A → Bool) (y x : A) (ys : List A) (b : Bool) → p y ≡ b → p x ≡ true → (Among x ys → is_some (find p ys) ≡ true)
    → Among x (y ∷ ys) → is_some (if b then Some y else find p ys) ≡ true
found_when p y x ys true same is rest a = refl
found_when p y x ys false same is rest first = cc
found_when p y x ys false same is rest (later a) = rest a

pub found_some : {A : Type 0} (p : A → Bool) (xs : List A) (x : A) → p x ≡ true → Among x xs → is_some (find p xs) ≡ true
found_some p [] x is a = elim a [ ]
found_some p (y ∷ ys) x is a = found_when p y x ys (p y) refl is (found_some p ys x is) a

-- one of them passes
pub any_of : {A : Type 0} (p : A → Bool) (xs : List A) (x : A) → p x ≡ true → Among x xs → list_any p xs ≡ true
any_of p [] x is a = elim a [ ]
any_of p (y ∷ ys) x is first = or_left (p y) (list_any p ys) is
any_of p (y ∷ ys) x is (later a) = or_right (p y) (list_any p ys) (any_of p ys x is a)

-- what passes and is among the elements is among those that are kept
passing_head : {A : Type 0} (p : A → Bool) (y x : A) (ys : List A) → p x ≡ true → (Among x ys → Among x (filter p ys)) → Among x (y ∷ ys)
    → Among x (filter p (y ∷ ys))
passing_head p y x ys is rest first = rw is first
passing_head p y x ys is rest (later a) = by (p y) (rest a)
  where
    by : (b : Bool) → Among x (filter p ys) → Among x (if b then y ∷ filter p ys else filter p ys)
    by true c = later c
    by false c = c

pub among_kept : {A : Type 0} (p : A → Bool) (xs : List A) (x : A) → p x ≡ true → Among x xs → Among x (filter p xs)
among_kept p [] x is a = elim a [ ]
among_kept p (y ∷ ys) x is a = passing_head p y x ys is (among_kept p ys x is) a

-- what is kept is among the numbers, and passes
pub kept_has : (keep : ℕ → Bool) (xs : List ℕ) (d : ℕ) → has (filter keep xs) d ≡ true → (has xs d ≡ true) × (keep d ≡ true)
kept_has keep [] d there = cc
kept_has keep (x ∷ xs) d there = by (keep x) refl there (kept_has keep xs d)
  where
    by : (b : Bool) → keep x ≡ b → has (if b then x ∷ filter keep xs else filter keep xs) d ≡ true
        → (has (filter keep xs) d ≡ true → (has xs d ≡ true) × (keep d ≡ true)) → ((nat_eq d x || has xs d) ≡ true) × (keep d ≡ true)
    by true is there' rest = elim (or_cases (nat_eq d x) (has (filter keep xs) d) there') [
      | inl here ↦ (or_left (nat_eq d x) (has xs d) here, subst (λ (y : ℕ). keep y ≡ true) (sym (eqb-true d x here)) is)
      | inr more ↦ (let it = rest more in (or_right (nat_eq d x) (has xs d) it.0, it.1))
    ]
    by false is there' rest = let it = rest there' in (or_right (nat_eq d x) (has xs d) it.0, it.1)
