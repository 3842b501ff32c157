-- Which of the flights that are kept are spent.
use Rattle.std.specs.Prelude.{◌≡◌, ℕ, ◌≤◌, Bool, true, false, ◌&&◌, List, All, nat_le, nat_lt}
use Rattle.sd_device.specs.declared.msg.Flight.{Flight}
use Rattle.sd_device.specs.declared.msg.spent.Spent.{Spent}
use Rattle.sd_device.specs.msg.Books.{Size, AreNumbered, is_within}
use Rattle.sd_device.specs.msg.Marks.{mark_of, count_of}

-- it has not ended, and neither its link nor its receiver was swept since it was sent
abbrev pub is_spared : Spent → Flight → Bool
is_spared spent f = nat_le spent.reference f.last && nat_lt (mark_of spent.links f.link) f.number && nat_lt (mark_of spent.receivers f.receiver) f.number

-- so it is not spent; one that was taken or lost is kept as one that does not reach
abbrev pub is_left : Spent → Flight → Bool
is_left spent f = f.reaches && is_spared spent f

-- for how many devices and links there are marks
abbrev pub size_of : Spent → Size
size_of spent = record { devices = count_of spent.receivers; links = count_of spent.links }

-- a flight as it stays in its place once it was taken or lost
abbrev pub as_spent : Flight → Flight
as_spent f = record f { reaches = false }

-- The flights have numbers that were given, and ascend by them, and there are marks for them. No mark is beyond the last number.
pub record AreKept (last : ℕ) (spent : Spent) (flights : List Flight) : Type 0 where
  pub numbers : AreNumbered 0 last flights
  pub within : All (λ f. is_within (size_of spent) f ≡ true) flights
  pub links : (key : ℕ) → mark_of spent.links key ≤ last
  pub receivers : (key : ℕ) → mark_of spent.receivers key ≤ last
