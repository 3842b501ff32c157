-- The first element of a list that passes a test.
use Rattle.std.proofs.Common.{◌≡◌, Bool, true, false, cond, List, [], ◌∷◌, map, find, Some, option_map, refl}

-- the first image that passes is that of the first whose image does
pub find_mapped : {X Y : Type 0} (p : Y → Bool) (f : X → Y) (xs : List X) → find p (map f xs) ≡ option_map f (find (λ x. p (f x)) xs)
find_mapped p f [] = refl
find_mapped p f (x ∷ xs) = by_test (p (f x)) (find_mapped p f xs)
  where
    by_test : (t : Bool) → find p (map f xs) ≡ option_map f (find (λ y. p (f y)) xs)
        → cond t (Some (f x)) (find p (map f xs)) ≡ option_map f (cond t (Some x) (find (λ y. p (f y)) xs))
    by_test true rest = refl
    by_test false rest = rest
