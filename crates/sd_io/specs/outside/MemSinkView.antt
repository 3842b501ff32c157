-- How the fields of a sink over memory are seen.
use Rattle.std.specs.Prelude.{◌≡◌, ◌≤◌, length, vec_len}
use Rattle.std.specs.Vec.{vec_capacity}
use Rattle.sd_io.specs.outside.MemSink.{Kept, cut_by, total}
use Rattle.sd_io.specs.declared.outside.mem_sink.MemSink.TheInside.{Inside}

-- the fields, with the vectors as the lists of their items
abbrev pub kept_of : Inside → Kept
kept_of s = record {
  pieces = cut_by s.counts.items s.bytes.items;
  bytes = s.bytes.items;
  room = s.room;
  failing = s.failing.items;
  calls = s.calls;
  faults = s.faults;
}

-- the room is never passed, and its memory is there; all bytes stand in pieces, each of some bytes
pub record IsMemSink (s : Inside) : Type 0 where
  pub within : vec_len s.bytes ≤ s.room
  pub has_room : s.room ≤ vec_capacity s.bytes
  pub cut : total s.counts.items ≡ length s.bytes.items
  pub few : vec_len s.counts ≤ vec_len s.bytes
  pub has_counts : s.room ≤ vec_capacity s.counts
