-- Loops of parents and several roots.
use Rattle.std.specs.Prelude.{◌≡◌, ℕ, suc, ◌<◌, Bool, false, List, [], ◌∷◌, length, filter, Option, Some, None}
use Rattle.sd_num.specs.Lists.{below, at_place, follow}

-- the parent of a device in a list, and none past its end
abbrev pub parent_in : List (Option ℕ) → ℕ → Option ℕ
parent_in parents d = at_place parents d None (λ parent. parent)

-- following parents from d comes back to d
pub record IsOnLoop (parent : ℕ → Option ℕ) (d : ℕ) : Type 0 where
  pub steps : ℕ
  pub back : follow parent (suc steps) d ≡ Some d

-- no device is on a loop
abbrev pub HasNoLoop : (ℕ → Option ℕ) → Type 0
HasNoLoop parent = (d : ℕ) → ¬ IsOnLoop parent d

-- d is the least device on a loop
pub record IsFirstOnLoop (parent : ℕ → Option ℕ) (d : ℕ) : Type 0 where
  pub on_loop : IsOnLoop parent d
  pub least : (e : ℕ) → e < d → ¬ IsOnLoop parent e

-- the devices that act, ascending
abbrev pub acting_devices : List Bool → List ℕ
acting_devices acting = filter (λ d. at_place acting d false (λ acts. acts)) (below (length acting))

-- the two least of them, where there are two
abbrev pub two_least : List ℕ → Option (ℕ × ℕ)
two_least [] = None
two_least (d ∷ []) = None
two_least (d ∷ e ∷ others) = Some (d, e)
