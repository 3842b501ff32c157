-- What a buffer of lines holds.
use Rattle.std.specs.Prelude.{ℕ, List}
use Rattle.sd_replay.specs.declared.lines.buffer.EventLines.{EventLines}

-- the bytes that were printed and not yet forgotten
abbrev pub printed : EventLines → List ℕ
printed lines = lines.bytes.items
