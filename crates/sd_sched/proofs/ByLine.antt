-- A line by its word and the numbers of its fields.
use Rattle.std.proofs.Common.{◌≡◌, ◌≤◌, ◌-◌, ◌∙◌, sym, ap, refl, List, ◌∷◌, ℕ, length, take, drop, Result, arith}
use Rattle.std.proofs.lemmas.List.{get_or-take}
use Rattle.sd_sched.specs.Lines.{first_field, event_of_fields, event_of_line}
use Rattle.sd_sched.specs.Reading.{row_of, numbers_from, fields_behind}
use Rattle.sd_sched.specs.declared.words.Word.{Word}
use Rattle.sd_sched.specs.declared.words.Word.TheVariants.{Start, Tick, Recv, Lose, Fail, Fix, Ask, Stage, Give, Commit, Seal, Join, Mend, End}
use Rattle.sd_sched.specs.declared.LineFault.{LineFault}
use Rattle.sd_sched.specs.declared.words.Field.{Field}
use Rattle.std.proofs.lemmas.Grind.{common_steps}
use Rattle.sd_sched.proofs.Cuts.{fields_step}
use Rattle.sd_sched.proofs.ByWord.{event_of, event_of_word_is, known_word}

-- the event of a line by its first field and what follows it
pub word_first : (line : List ℕ) (w : Word) (numbers : Result (List ℕ) LineFault) → first_field line ≡ (row_of w).spelled
    → numbers_from 1 (row_of w).shape (fields_behind (drop (length (first_field line)) line)) ≡ numbers → event_of_line line ≡ event_of (row_of w).event numbers
unfolding event_of_line
word_first line w numbers spells read =
    ap event_of_fields (fields_step line)
    ∙ ap (λ (first : List ℕ). event_of_fields (first ∷ fields_behind (drop (length (first_field line)) line))) spells
    ∙ known_word w (fields_behind (drop (length (first_field line)) line))
    ∙ event_of_word_is (row_of w) (fields_behind (drop (length (first_field line)) line))
    ∙ ap (event_of (row_of w).event) read

-- the event of a line that begins with a word is that of the numbers of the fields after it
pub line_of_word : (line first : List ℕ) (w : Word) (shape : List Field) (numbers : Result (List ℕ) LineFault) → first ≡ first_field line
    → first ≡ (row_of w).spelled → shape ≡ (row_of w).shape → length first ≤ length line
    → numbers_from 1 shape (fields_behind (take (length line - length first) (drop (length first) line))) ≡ numbers
    → event_of_line line ≡ event_of (row_of w).event numbers
line_of_word line first w shape numbers is spells known inside read =
    let whole : take (length line - length first) (drop (length first) line) ≡ drop (length first) line = grind (arith, common_steps) in
    word_first line w numbers (sym is ∙ spells) (rw (← known, ← is, ← whole) read)

-- the numbers past the fields of a word are left aside
event_of_taken : (w : Word) (numbers : List ℕ) → (row_of w).event (take (length (row_of w).shape) numbers) ≡ (row_of w).event numbers
event_of_taken Start numbers =
    rw (
      get_or-take 5 numbers 0 0 (omega arith),
      get_or-take 5 numbers 1 0 (omega arith),
      get_or-take 5 numbers 2 0 (omega arith),
      get_or-take 5 numbers 3 0
          (omega arith),
      get_or-take 5 numbers 4 0 (omega arith),
    ) refl
event_of_taken Tick numbers =
    rw (get_or-take 3 numbers 0 0 (omega arith), get_or-take 3 numbers 1 0 (omega arith), get_or-take 3 numbers 2 0 (omega arith)) refl
event_of_taken Recv numbers =
    rw (
      get_or-take 4 numbers 0 0 (omega arith),
      get_or-take 4 numbers 1 0 (omega arith),
      get_or-take 4 numbers 2 0 (omega arith),
      get_or-take 4 numbers 3 0
          (omega arith),
    ) refl
event_of_taken Lose numbers = rw (get_or-take 2 numbers 0 0 (omega arith), get_or-take 2 numbers 1 0 (omega arith)) refl
event_of_taken Fail numbers =
    rw (get_or-take 3 numbers 1 0 (omega arith), get_or-take 3 numbers 0 0 (omega arith), get_or-take 3 numbers 2 0 (omega arith)) refl
event_of_taken Fix numbers =
    rw (
      get_or-take 5 numbers 0 0 (omega arith),
      get_or-take 5 numbers 1 0 (omega arith),
      get_or-take 5 numbers 2 0 (omega arith),
      get_or-take 5 numbers 3 0
          (omega arith),
      get_or-take 5 numbers 4 0 (omega arith),
    ) refl
event_of_taken Ask numbers = rw (get_or-take 3 numbers 0 0 (omega arith), get_or-take 3 numbers 1 0 (omega arith), get_or-take 3 numbers 2 0 (omega arith)) refl
event_of_taken Stage numbers = rw (get_or-take 1 numbers 0 0 (omega arith)) refl
event_of_taken Give numbers = rw (get_or-take 2 numbers 0 0 (omega arith), get_or-take 2 numbers 1 0 (omega arith)) refl
event_of_taken Commit numbers =
    rw (get_or-take 3 numbers 0 0 (omega arith), get_or-take 3 numbers 1 0 (omega arith), get_or-take 3 numbers 2 0 (omega arith)) refl
event_of_taken Seal numbers = rw (get_or-take 2 numbers 0 0 (omega arith), get_or-take 2 numbers 1 0 (omega arith)) refl
event_of_taken Join numbers =
    rw (
      get_or-take 5 numbers 0 0 (omega arith),
      get_or-take 5 numbers 1 0 (omega arith),
      get_or-take 5 numbers 2 0 (omega arith),
      get_or-take 5 numbers 3 0
          (omega arith),
      get_or-take 5 numbers 4 0 (omega arith),
    ) refl
event_of_taken Mend numbers =
    rw (get_or-take 3 numbers 1 0 (omega arith), get_or-take 3 numbers 0 0 (omega arith), get_or-take 3 numbers 2 0 (omega arith)) refl
event_of_taken End numbers = rw (get_or-take 1 numbers 0 0 (omega arith)) refl

-- so those of the shape say which event it is
pub event_of_shape : (w : Word) (shape : List Field) (numbers : List ℕ) → shape ≡ (row_of w).shape
    → (row_of w).event numbers ≡ (row_of w).event (take (length shape) numbers)
event_of_shape w shape numbers is = rw is (sym (event_of_taken w numbers))
