-- What a reader has of its text without reading on.
use Rattle.std.specs.Prelude.{◌≡◌, ℕ, ◌-◌, ◌^◌, ◌<◌, ◌≤◌, List, length, take}
use Rattle.sd_io.specs.stream.Lines.{line_len}
use Rattle.sd_io.specs.stream.Buffered.{buffered}
use Rattle.sd_io.specs.stream.Reader.{bytes_before}
use Rattle.sd_io.specs.declared.stream.reader.LineReader.{LineReader}
use Rattle.sd_io.specs.declared.stream.buffer.Buffer.{Buffer}
use Rattle.sd_io.specs.declared.outside.shelf.Shelf.{Ghosts}

-- the bytes that wait in the buffer, as far as a text may go
abbrev pub window_of : {S : Type 0} {g : Ghosts S} → LineReader S Buffer g → List ℕ
window_of r = take (2 ^ 32 - bytes_before r) (buffered r.buffer)

-- the next line of a text ends with a newline, after this many bytes, and is not too long
pub record EndsAt (text : List ℕ) (len : ℕ) : Type 0 where
  pub len_is : line_len text ≡ len
  pub ends : len < length text
  pub short : len ≤ 4096
