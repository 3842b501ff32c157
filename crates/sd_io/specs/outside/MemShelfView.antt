-- How the fields of a shelf over memory are seen.
use Rattle.std.specs.Prelude.{◌≤◌}
use Rattle.sd_io.specs.outside.MemShelf.{Seen}
use Rattle.sd_io.specs.declared.outside.mem_shelf.MemShelf.TheInside.{Inside}

-- the fields, with the texts and the lists as what they hold
abbrev pub seen_of : Inside → Seen
seen_of s = record {
  files = s.texts.files;
  piece = s.piece;
  failing = s.failing.items;
  calls = s.calls;
  begun = s.begun;
  rest = s.texts.rest;
  faults = s.faults;
}

-- a read gives at least one byte where one is left
abbrev pub IsMemShelf : Inside → Type 0
IsMemShelf s = 1 ≤ s.piece
