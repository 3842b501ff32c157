-- Where listed numbers stand, by number.
use Rattle.std.specs.Prelude.{◌≡◌, ℕ, List, length, slice_get, slice_index, Some}

-- for each number below a bound there is an entry, and that of a listed number is its place
pub record ArePlaces (bound : ℕ) (listed places : List ℕ) : Type 0 where
  pub size : length places ≡ bound
  pub at : (i d : ℕ) → slice_get listed i ≡ Some d → slice_index places d ≡ i

-- no number is listed twice
pub record IsOnce (listed : List ℕ) : Type 0 where
  pub once : (i j d : ℕ) → slice_get listed i ≡ Some d → slice_get listed j ≡ Some d → i ≡ j
