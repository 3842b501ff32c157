-- What the first bytes of a text say of its next line.
use Rattle.std.specs.Prelude.{◌≡◌, ℕ, ◌+◌, ◌^◌, ◌<◌, ◌≤◌, List, length, take, Some, Ok, Err}
use Rattle.sd_io.specs.declared.stream.judge.Finding.{Finding}
use Rattle.sd_io.specs.declared.stream.judge.Finding.TheVariants.{Ends, Refused, Open}
use Rattle.sd_io.specs.stream.Lines.{line_len}
use Rattle.sd_io.specs.stream.Limits.{answer_of}

-- the next line ends at a newline after `len` bytes, and may be lent
pub record IsLine (before : ℕ) (bytes : List ℕ) (len : ℕ) : Type 0 where
  pub len_is : line_len bytes ≡ len
  pub ends : len < length bytes
  pub short : len ≤ 4096
  pub answer : answer_of before bytes ≡ Ok (Some (take len bytes))
  pub within : before + len + 1 ≤ 2 ^ 32

-- no newline is among the bytes, and they are within every limit
pub record IsOpen (before : ℕ) (bytes : List ℕ) : Type 0 where
  pub len_is : line_len bytes ≡ length bytes
  pub short : length bytes ≤ 4096
  pub within : before + length bytes ≤ 2 ^ 32

-- what the first bytes of what is left of a text say of its next line
abbrev pub Shows : ℕ → List ℕ → Finding → Type 0
Shows before bytes (Ends len) = IsLine before bytes len
Shows before bytes (Refused fault) = answer_of before bytes ≡ Err fault
Shows before bytes Open = IsOpen before bytes
