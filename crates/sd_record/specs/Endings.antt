-- Which endings are kept, and which of them is the soonest.
use Rattle.std.specs.Prelude.{◌≡◌, ◌<◌, ◌≤◌, List, [], ◌∷◌, Option, Some, None}
use Rattle.std.specs.BinaryHeap.{heap_items, heap_len}
use Rattle.std.specs.List.{Contains}
use Rattle.std.specs.declared.cmp.Reverse.{Reverse}
use Rattle.sd_device.specs.declared.msg.Flight.{Flight}
use Rattle.sd_record.specs.Names.{flight_name}
use Rattle.sd_record.specs.declared.endings.NamedEnding.{NamedEnding}
use Rattle.sd_record.specs.declared.endings.Endings.{Endings}

-- how a message ends, and its name
abbrev pub named_ending : Flight → NamedEnding
named_ending f = record { ending = record { last = f.last; number = f.number }; name = flight_name f }

-- the ending is one of them
abbrev pub Lists : Endings → NamedEnding → Type 0
Lists endings ending = Contains (heap_items endings.heap) (record { 0 = ending })

-- the one that is taken out first
abbrev pub first_in : List (Reverse NamedEnding) → Option NamedEnding
first_in [] = None
first_in (e ∷ others) = Some e.0

abbrev pub first_of : Endings → Option NamedEnding
first_of endings = first_in (heap_items endings.heap)

-- it is taken out first: none of them ends sooner, and of those that end when it does none has a lower number
pub record IsSoonest (endings : Endings) (first : NamedEnding) : Type 0 where
  pub some : 0 < heap_len endings.heap
  pub is : first_of endings ≡ Some first
  pub soonest : (other : NamedEnding) → Lists endings other → first.ending.last ≤ other.ending.last
  pub tied : (other : NamedEnding) → Lists endings other → other.ending.last ≡ first.ending.last
      → first.ending.number ≤ other.ending.number
