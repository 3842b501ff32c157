-- What the fields of a set of numbers stand for.
use Rattle.std.specs.Prelude.{◌≡◌, ℕ, ◌≤◌, false, nat_eq, slice_index_or, vec_len, vec_capacity}
use Rattle.std.specs.List.{IsDistinct}
use Rattle.sd_num.specs.Lists.{has}
use Rattle.sd_plan.specs.domain.NumberSets.{Numbers}
use Rattle.sd_plan.specs.declared.domain.number_set.NumberSet.TheInside.{Inside}

-- the numbers, below as many as there are marks
abbrev pub numbers_seen : Inside → Numbers
numbers_seen s = record { numbers = s.numbers.items; bound = vec_len s.marks }

-- a mark is set at each number of the set and at no other, no number comes twice, and there is room for each number that can have a mark
pub record IsNumberSet (s : Inside) : Type 0 where
  pub marked : (k : ℕ) → slice_index_or s.marks.items k false ≡ has s.numbers.items k
  pub distinct : IsDistinct nat_eq s.numbers.items
  pub room : vec_len s.marks ≤ vec_capacity s.numbers
