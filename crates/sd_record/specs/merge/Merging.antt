-- Several logs as one, in the order of their references.
use Rattle.std.specs.Prelude.{◌≡◌, ◌≤◌, ℕ, Bool, List, [], ◌∷◌, ◌++◌, drop, filter, length, nat_lt}
use Rattle.sd_num.specs.Lists.{leading}

-- a line of a log is an A, and has a reference
module _ {A : Type 0} (at : A → ℕ) where
  -- it comes before the reference
  abbrev pub comes_before : ℕ → A → Bool
  comes_before reference x = nat_lt (at x) reference

  -- those at the front of a log that come before a line
  abbrev pub earlier_than : A → List A → List A
  earlier_than x log = leading (comes_before (at x)) log

  -- two logs as one: by reference, and of equal references those of the first log come first
  abbrev pub merge : List A → List A → List A
  merge [] second = second
  merge (x ∷ first) second = earlier_than x second ++ x ∷ merge first (drop (length (earlier_than x second)) second)

  -- several logs as one
  abbrev pub merge_all : List (List A) → List A
  merge_all [] = []
  merge_all (log ∷ others) = merge log (merge_all others)

  -- What a merge is worth

  -- the first of them, if there is one, has at least this reference
  abbrev pub StartsFrom : ℕ → List A → Type 0
  StartsFrom reference [] = Unit {0}
  StartsFrom reference (x ∷ xs) = reference ≤ at x

  -- their references do not fall
  abbrev pub Ascends : List A → Type 0
  Ascends [] = Unit {0}
  Ascends (x ∷ xs) = StartsFrom (at x) xs × Ascends xs

  -- References do not fall where those of both logs do not. What is all of the first log keeps its order, and so does what is all of the second.
  pub record IsMerge (first second merged : List A) : Type 0 where
    pub ascends : Ascends first → Ascends second → Ascends merged
    pub of_first : (test : A → Bool) → filter test second ≡ [] → filter test merged ≡ filter test first
    pub of_second : (test : A → Bool) → filter test first ≡ [] → filter test merged ≡ filter test second
