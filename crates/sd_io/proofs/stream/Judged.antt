-- The cases of judging the first bytes.
use Rattle.std.proofs.Common.{◌≡◌, ℕ, ◌+◌, ◌^◌, ◌<◌, ◌≤◌, min, List, length, take, Some, Ok, Err, ap, ◌∙◌, arith}
use Rattle.sd_io.specs.declared.stream.faults.StreamFault.TheVariants.{LongLine, Limit}
use Rattle.sd_io.specs.stream.Lines.{line_len}
use Rattle.sd_io.specs.stream.Limits.{answer_of}
use Rattle.sd_io.specs.stream.Findings.{IsLine, IsOpen}
use Rattle.sd_io.proofs.stream.LineLaws.{line_len-le-length, next_of-more}
use Rattle.sd_io.proofs.stream.AnswerLaws.{answer_of-long, answer_of-past, answer_of-ends}

-- a search up to a place within the limits found a newline
pub judged_line : (before : ℕ) (bytes : List ℕ) (len reach : ℕ) → len ≡ min reach (line_len bytes) → len < reach → reach ≤ length bytes → reach ≤ 4097
    → before + reach ≤ 2 ^ 32 → IsLine before bytes len
judged_line before bytes len reach found ends among short within =
    let is : line_len bytes ≡ len = omega arith in
    let answer = answer_of-ends before bytes (omega arith) (omega arith) in
    record {
      len_is = is;
      ends = omega arith;
      short = omega arith;
      answer = answer ∙ ap Ok (next_of-more bytes (omega arith) ∙ ap (λ n. Some (take n bytes)) is);
      within = omega arith;
    }

-- a search of 4097 bytes within the limit found none
pub judged_long : (before : ℕ) (bytes : List ℕ) (len reach : ℕ) → len ≡ min reach (line_len bytes) → reach ≤ len → 4096 < reach → before + reach ≤ 2 ^ 32
    → answer_of before bytes ≡ Err LongLine
judged_long before bytes len reach found ends long within = answer_of-long before bytes (omega arith) (omega arith)

-- a search up to the limit found none, and there are bytes after it
pub judged_past : (before : ℕ) (bytes : List ℕ) (len reach : ℕ) → len ≡ min reach (line_len bytes) → reach ≤ len → reach ≤ 4096 → reach < length bytes
    → before + reach ≡ 2 ^ 32 → answer_of before bytes ≡ Err Limit
judged_past before bytes len reach found ends short more limit = answer_of-past before bytes (omega arith) (omega arith) (omega arith)

-- a search of all the bytes, which are within the limits, found none
pub judged_open : (before : ℕ) (bytes : List ℕ) (len reach : ℕ) → len ≡ min reach (line_len bytes) → reach ≤ len → reach ≡ length bytes → reach ≤ 4096
    → before + reach ≤ 2 ^ 32 → IsOpen before bytes
judged_open before bytes len reach found ends all short within =
    let le = line_len-le-length bytes in
    record { len_is = omega arith; short = omega arith; within = omega arith }
