-- What waits in a buffer.
use Rattle.std.specs.Prelude.{ℕ, List, slice_range}
use Rattle.sd_io.specs.declared.stream.buffer.Buffer.{Buffer}

-- the bytes of a buffer that were not yet lent
abbrev pub buffered : Buffer → List ℕ
buffered b = slice_range b.bytes.items b.start b.end
