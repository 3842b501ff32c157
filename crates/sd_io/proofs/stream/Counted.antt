-- The lines of a text, counted one after the other.
use Rattle.std.proofs.Common.{◌≡◌, ℕ, ◌+◌, List, Option, None, Some, Ok, IfSome, ap, length, arith}
use Rattle.sd_io.specs.stream.Lines.{lines, after_line}
use Rattle.sd_io.specs.stream.Limits.{answer_of}
use Rattle.sd_io.specs.stream.Reader.{GoesPast}
use Rattle.sd_io.proofs.stream.LineLaws.{lines-some, lines-none}
use Rattle.sd_io.proofs.stream.AnswerLaws.{line_from_answer}

-- n lines of a text were passed where the rest of it is left
abbrev pub Counted : Option (List ℕ) → Option (List ℕ) → ℕ → Type 0
Counted None left n = Unit {0}
Counted (Some text) None n = ⊥
Counted (Some text) (Some left) n = length (lines text) ≡ n + length (lines left)

-- one line more
pub counted_more : (a old new : Option (List ℕ)) (n before after : ℕ) (line : List ℕ) → Counted a old n
    → IfSome old (λ text. answer_of before text ≡ Ok (Some line))
    → IfSome old (GoesPast before after new) → Counted a new (n + 1)
counted_more None old new n before after line c h p = tt
counted_more (Some x) None new n before after line c h p = absurd c
counted_more (Some x) (Some y) None n before after line c h p = let e = p.after in cc
counted_more (Some x) (Some y) (Some z) n before after line c h p =
    let first = lines-some y line (line_from_answer before y (Some line) h).0 in
    let left : z ≡ after_line y = let e = p.after in cc in
    omega (arith, ap length first, ap (λ l. length (lines l)) left)

-- no line more
pub counted_all : (a old : Option (List ℕ)) (n before : ℕ) → Counted a old n → IfSome old (λ text. answer_of before text ≡ Ok None)
    → IfSome a (λ text. n ≡ length (lines text))
counted_all None old n before c h = tt
counted_all (Some x) None n before c h = absurd c
counted_all (Some x) (Some y) n before c h =
    let none = lines-none y (line_from_answer before y None h).0 in
    omega (arith, ap length none)
