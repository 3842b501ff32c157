-- What a line buffer holds.
use Rattle.std.specs.Prelude.{◌≡◌, ℕ, List, ◌++◌}
use Rattle.sd_io.specs.declared.outside.line_buffer.LineBuffer.{LineBuffer}

-- the bytes that were printed and not yet forgotten
abbrev pub printed : LineBuffer → List ℕ
printed line = line.bytes.items

-- the bytes were added
abbrev pub Prints : LineBuffer → List ℕ → LineBuffer → Type 0
Prints before bytes after = printed after ≡ printed before ++ bytes
