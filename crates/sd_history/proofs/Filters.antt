-- What filters keep, by the elements of their list.
use Rattle.std.specs.Prelude.{◌≡◌, Bool, true, false, ◌&&◌, cond, List, [], ◌∷◌, filter, refl, if◌then◌else◌}
use Rattle.std.specs.List.{list_all}
use Rattle.std.proofs.Common.{◌∙◌, ap, sym, subst}
use Rattle.sd_history.proofs.Among.{Among, first, later}

-- two tests that agree at each element of a list keep the same
pub kept_alike : {A : Type 0} (p q : A → Bool) (xs : List A) → ((x : A) → Among x xs → p x ≡ q x) → filter p xs ≡ filter q xs
kept_alike p q [] same = refl
kept_alike p q (x ∷ xs) same =
    ap (λ b. cond b (x ∷ filter p xs) (filter p xs)) (same x first) ∙ ap (λ ys. cond (q x) (x ∷ ys) ys) (kept_alike p q xs (λ y a. same y (later a)))

-- one test after another
pub both_tests : {A : Type 0} (p q : A → Bool) (xs : List A) → filter p (filter q xs) ≡ filter (λ x. p x && q x) xs
both_tests p q [] = refl
both_tests {A = A} p q (x ∷ xs) = go (q x) (p x) refl (both_tests p q xs)
  where
    go : (b c : Bool) → p x ≡ c → filter p (filter q xs) ≡ filter (λ (y : A). p y && q y) xs
        → filter p (cond b (x ∷ filter q xs) (filter q xs)) ≡ cond (c && b) (x ∷ filter (λ (y : A). p y && q y) xs) (filter (λ (y : A). p y && q y) xs)
    go true true passes rest = rw passes (ap (λ ys. x ∷ ys) rest)
    go true false fails rest = rw fails rest
    go false true passes rest = rest
    go false false fails rest = rest

-- a test that all pass keeps all
pub all_pass_kept : {A : Type 0} (xs : List A) → xs ≡ filter (λ x. true) xs
all_pass_kept [] = refl
all_pass_kept (x ∷ xs) = ap (λ ys. x ∷ ys) (all_pass_kept xs)

-- what is kept is one of the list
pub kept_among : {A : Type 0} (p : A → Bool) (xs : List A) (x : A) → Among x (filter p xs) → Among x xs
kept_among p [] x a = elim a [ ]
kept_among {A = A} p (y ∷ ys) x a = go (p y) a (kept_among p ys x)
  where
    at_head : (z : A) (zs ws : List A) (c : A) → Among c (z ∷ zs) → (Among c zs → Among c ws) → Among c (z ∷ ws)
    at_head z zs ws c first rest = first
    at_head z zs ws c (later b) rest = later (rest b)

    go : (b : Bool) → Among x (cond b (y ∷ filter p ys) (filter p ys)) → (Among x (filter p ys) → Among x ys) → Among x (y ∷ ys)
    go true b rest = at_head y (filter p ys) ys x b rest
    go false b rest = later (rest b)

-- one of the list that passes is kept
pub filter_in : {A : Type 0} (p : A → Bool) (x : A) (xs : List A) → Among x xs → p x ≡ true → Among x (filter p xs)
filter_in p x [] a passed = elim a [ ]
filter_in p x (y ∷ xs) first passed = subst (λ c. Among x (if c then x ∷ filter p xs else filter p xs)) (sym passed) first
filter_in p x (y ∷ xs) (later a) passed = past p x y xs (p y) (filter_in p x xs a passed)
  where
    past : {A : Type 0} (p : A → Bool) (x y : A) (xs : List A) (c : Bool) → Among x (filter p xs) → Among x (if c then y ∷ filter p xs else filter p xs)
    past p x y xs true found = later found
    past p x y xs false found = found

-- two tests that agree at each element pass all or not alike
pub all_alike : {A : Type 0} (p q : A → Bool) (xs : List A) → ((x : A) → Among x xs → p x ≡ q x) → list_all p xs ≡ list_all q xs
all_alike p q [] same = refl
all_alike p q (x ∷ xs) same = ap (λ b. b && list_all p xs) (same x first) ∙ ap (λ b. q x && b) (all_alike p q xs (λ y a. same y (later a)))
