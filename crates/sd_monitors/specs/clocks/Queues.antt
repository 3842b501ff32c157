-- Entries of a queue, each a place with a number, and the numbers that stand at places.
use Rattle.std.specs.Prelude.{ℕ, Bool, true, ◌&&◌, false, List, [], ◌∷◌, nat_eq, nat_le, slice_index_or}
use Rattle.std.specs.List.{list_all, list_any}
use Rattle.sd_monitors.specs.declared.clocks.queue.Entry.{Entry}
use Rattle.sd_monitors.specs.declared.clocks.queue.Mark.{Mark}

-- no number is less than one before it
abbrev pub ascend : List Entry → Bool
ascend [] = true
ascend (e ∷ es) = list_all (λ x. nat_le e.number x.number) es && ascend es

-- no number is greater than the bound
abbrev pub are_at_most : ℕ → List Entry → Bool
are_at_most bound es = list_all (λ e. nat_le e.number bound) es

-- no number is less than the bound
abbrev pub reach : ℕ → List Entry → Bool
reach bound es = list_all (λ e. nat_le bound e.number) es

-- stands where there is no place
abbrev pub no_mark : Mark
no_mark = record { number = 0; queued = false }

-- the mark that stands at the place
abbrev pub mark_at : List Mark → ℕ → Mark
mark_at marks k = slice_index_or marks k no_mark

-- the number that stands there
abbrev pub number_at : List Mark → ℕ → ℕ
number_at marks k = (mark_at marks k).number

-- the queue has an entry of the number for the place
abbrev pub is_queued : ℕ → ℕ → List Entry → Bool
is_queued place number es = list_any (λ e. nat_eq e.place place && nat_eq e.number number) es

-- it has one of the number that stands at the place
abbrev pub is_queued_at : List Mark → ℕ → List Entry → Bool
is_queued_at marks k es = is_queued k (number_at marks k) es
