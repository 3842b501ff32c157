-- The names that a command needs of the shelf.
use Rattle.std.proofs.Common.{◌≡◌, ℕ, List, [], ◌∷◌, ◌++◌, sym, subst}
use Rattle.std.specs.Prelude.{All}
use Rattle.std.proofs.lemmas.List.Elements.{All-cons, All-head, All-nil, All-tail}

-- where all names are served, each of the first three is
module _ (Serves : List ℕ → Type 0) (names : List (List ℕ)) where
  pub first_served : (name : List ℕ) (others : List (List ℕ)) → name ∷ others ≡ names → All Serves names → Serves name
  first_served name others is all = All-head Serves name others (subst (All Serves) (sym is) all)

  behind_first : (name : List ℕ) (others : List (List ℕ)) → name ∷ others ≡ names → All Serves names → All Serves others
  behind_first name others is all = All-tail Serves name others (subst (All Serves) (sym is) all)

  pub second_served : (first name : List ℕ) (others : List (List ℕ)) → first ∷ name ∷ others ≡ names → All Serves names → Serves name
  second_served first name others is all = All-head Serves name others (behind_first first (name ∷ others) is all)

  pub third_served : (first second name : List ℕ) (others : List (List ℕ)) → first ∷ second ∷ name ∷ others ≡ names → All Serves names → Serves name
  third_served first second name others is all =
      All-head Serves name others (All-tail Serves second (name ∷ others) (behind_first first (second ∷ name ∷ others) is all))

  all_before : (xs ys : List (List ℕ)) → All Serves (xs ++ ys) → All Serves xs
  all_before [] ys all = All-nil Serves
  all_before (x ∷ xs) ys all = All-cons Serves x xs (All-head Serves x (xs ++ ys) all) (all_before xs ys (All-tail Serves x (xs ++ ys) all))

  all_behind : (xs ys : List (List ℕ)) → All Serves (xs ++ ys) → All Serves ys
  all_behind [] ys all = all
  all_behind (x ∷ xs) ys all = all_behind xs ys (All-tail Serves x (xs ++ ys) all)

  -- so is each in the middle, and each of the two after them
  module _ (first : List ℕ) (middle : List (List ℕ)) (name last : List ℕ) (is : first ∷ (middle ++ name ∷ last ∷ []) ≡ names) (all : All Serves names) where
    pub middle_served : All Serves middle
    middle_served = all_before middle (name ∷ last ∷ []) (behind_first first (middle ++ name ∷ last ∷ []) is all)

    others : All Serves (name ∷ last ∷ [])
    others = all_behind middle (name ∷ last ∷ []) (behind_first first (middle ++ name ∷ last ∷ []) is all)

    pub name_served : Serves name
    name_served = All-head Serves name (last ∷ []) others

    pub last_served : Serves last
    last_served = All-head Serves last [] (All-tail Serves name (last ∷ []) others)

  -- so is each in the middle, and the one after them
  module _ (first : List ℕ) (middle : List (List ℕ)) (last : List ℕ) (is : first ∷ (middle ++ last ∷ []) ≡ names) (all : All Serves names) where
    pub inner_served : All Serves middle
    inner_served = all_before middle (last ∷ []) (behind_first first (middle ++ last ∷ []) is all)

    pub end_served : Serves last
    end_served = All-head Serves last [] (all_behind middle (last ∷ []) (behind_first first (middle ++ last ∷ []) is all))
