-- Lists one after another in one, with the places where they begin and the end.
use Rattle.std.specs.Prelude.{◌≡◌, ℕ, ◌+◌, ◌<◌, ◌≤◌, List, [], length, slice_index_or, slice_range}

-- the part of a list from one offset to the next
abbrev pub part_of : {A : Type 0} → List A → List ℕ → ℕ → List A
part_of items offsets d = slice_range items (slice_index_or offsets d 0) (slice_index_or offsets (d + 1) 0)

-- offsets of this many parts: they do not fall, and do not exceed the length
pub record AreOrdered {A : Type 0} (count : ℕ) (items : List A) (offsets : List ℕ) : Type 0 where
  pub entries : length offsets ≡ count + 1
  pub rising : (d : ℕ) → d < count → slice_index_or offsets d 0 ≤ slice_index_or offsets (d + 1) 0
  pub within : (d : ℕ) → d < count → slice_index_or offsets (d + 1) 0 ≤ length items

-- the parts are the first lists of some
pub record AreJoined {A : Type 0} (lists : List (List A)) (count : ℕ) (items : List A) (offsets : List ℕ) : Type 0 where
  pub ordered : AreOrdered count items offsets
  pub last : slice_index_or offsets count 0 ≡ length items
  pub each : (d : ℕ) → d < count → part_of items offsets d ≡ slice_index_or lists d []
