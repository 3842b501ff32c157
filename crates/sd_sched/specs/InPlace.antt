-- Numbers and lines where they stand in longer bytes.
use Rattle.std.specs.Prelude.{ℕ, ◌≡◌, ◌+◌, ◌^◌, ◌<◌, ◌≤◌, Bool, false, not, List, [], ◌∷◌, take, position, nat_eq, slice_get, slice_range, Some, Ok, IsTrue}
use Rattle.std.specs.List.{list_all}
use Rattle.sd_num.specs.Lists.{map_or}
use Rattle.sd_num.specs.Decimals.{is_digit, number}
use Rattle.sd_sched.specs.Lines.{event_of_line}
use Rattle.sd_sched.specs.Spelled.{is_within}
use Rattle.sd_sched.specs.declared.Event.{Event}
use Rattle.sd_sched.specs.declared.words.Field.{Field}
use Rattle.sd_sched.specs.declared.words.Field.TheVariants.{Amount, Which, Kind}

-- what stands from a place of the bytes up to another is a number of at most this many digits
pub record HasNumber (most : ℕ) (bytes : List ℕ) (from end n : ℕ) : Type 0 where
  pub ordered : from < end
  pub few : end ≤ from + most
  pub digits : IsTrue (list_all is_digit (slice_range bytes from end))
  pub number_is : number (slice_range bytes from end) ≡ Ok n
  pub below : n < 10 ^ most

-- a byte stands at a place of the bytes
abbrev pub is_at : List ℕ → ℕ → ℕ → Bool
is_at bytes place byte = map_or (slice_get bytes place) false (λ found. nat_eq found byte)

-- this many digits make no number beyond the limit of a field
abbrev pub safe_digits : Field → ℕ
safe_digits Amount = 15
safe_digits Which = 7
safe_digits Kind = 0

-- from a place of the bytes on these fields have these numbers, with a space before each, and a newline follows them
abbrev pub HasFields : List Field → List ℕ → ℕ → ℕ → List ℕ → Type 0
HasFields [] bytes place len [] = (place ≡ len) × IsTrue (is_at bytes place 10)
HasFields [] bytes place len (n ∷ ns) = ⊥
HasFields (field ∷ shape) bytes place len [] = ⊥
HasFields (field ∷ shape) bytes place len (n ∷ ns) =
    IsTrue (is_at bytes place 32) × ((end : ℕ) × (HasNumber (safe_digits field) bytes (place + 1) end n × HasFields shape bytes end len ns))

-- a reference time and a device begin the fields from a place of the bytes on, and others follow them
abbrev pub HasHead : List ℕ → ℕ → ℕ → ℕ → ℕ → Type 0
HasHead bytes place end reference device = (shape : List Field) (len : ℕ) (ns : List ℕ) → HasFields shape bytes end len ns
    → HasFields (Amount ∷ Which ∷ shape) bytes place len (reference ∷ device ∷ ns)

-- none of the bytes is a newline
abbrev pub is_one_line : List ℕ → Bool
is_one_line bytes = list_all (λ byte. not (nat_eq byte 10)) bytes

-- the first bytes, this many, are the line of an event, and a newline follows them
pub record HasLine (bytes : List ℕ) (event : Event) (len : ℕ) : Type 0 where
  pub newline : position (λ byte. nat_eq byte 10) bytes ≡ Some len
  pub short : len ≤ 4096
  pub event_is : event_of_line (take len bytes) ≡ Ok event
  pub within : IsTrue (is_within event)
