-- What the reader answers is the step that the definition says comes next.
use Rattle.std.proofs.Common.{◌≡◌, ℕ, ◌+◌, ◌^◌, ◌<◌, ◌≤◌, Bool, true, false, cond, List, [], Option, Some, None, Ok, Err, refl, sym, ap, ◌∙◌, subst, arith, length}
use Rattle.std.specs.Prelude.{nat_le, nat_lt, IfSome, codes}
use Rattle.std.specs.Option.{option_copied}
use Rattle.std.specs.Borrow.{Bor}
use Rattle.std.proofs.lemmas.Bool.{and_parts, ltb-true}
use Rattle.sd_io.specs.stream.Lines.{lines, line_len}
use Rattle.sd_io.specs.stream.Next.{next_of}
use Rattle.sd_io.specs.stream.Limits.{IsAnswerTo, answer_of, is_long, is_past}
use Rattle.sd_io.specs.declared.stream.faults.StreamFault.{StreamFault}
use Rattle.sd_io.specs.declared.stream.faults.StreamFault.TheVariants as stream
use Rattle.sd_io.proofs.stream.LineLaws.{line_len-le-length, length-take-line_len, next_of-none, length-next_of, lines-more, lines-some}
use Rattle.sd_io.proofs.stream.AnswerLaws.{line_cases}
use Rattle.sd_files.specs.work.Works.{Work}
use Rattle.sd_files.specs.work.Nexts.{HoldsNext}
use Rattle.sd_files.specs.work.Steps.{Step, step_for, step_of, end_step, refused_step}

-- which tests hold where an answer is known
long_holds : (long past : Bool) (line : Option (List ℕ)) → cond long (Err stream.LongLine) (cond past (Err stream.Limit) (Ok line)) ≡ Err stream.LongLine
    → long ≡ true
long_holds true past line same = refl
long_holds false true line same = cc
long_holds false false line same = cc

past_holds : (long past : Bool) (line : Option (List ℕ)) → cond long (Err stream.LongLine) (cond past (Err stream.Limit) (Ok line)) ≡ Err stream.Limit
    → (long ≡ false) × (past ≡ true)
past_holds true past line same = cc
past_holds false true line same = (refl, refl)
past_holds false false line same = cc

-- a text whose next line is too long
pub step_long : {E : Type 0} (work : Work E) (before : ℕ) (text : List ℕ) (xs : List E) → answer_of before text ≡ Err stream.LongLine
    → step_of work (before + length text) before xs (lines text) ≡ refused_step work xs (codes "LongLine")
unfolding answer_of
step_long work before text xs answer =
    let long : is_long before text ≡ true = long_holds (is_long before text) (is_past before text) (next_of text) answer in
    let more : 4096 < line_len text = ltb-true 4096 (line_len text) (and_parts (nat_le (before + 4097) (2 ^ 32)) (nat_lt 4096 (line_len text)) long).1 in
    let some : 0 < length text = omega (arith, more, line_len-le-length text) in
    rw (lines-more text some, length-take-line_len text, long) refl

-- a text that goes on past its limit
pub step_past : {E : Type 0} (work : Work E) (before : ℕ) (text : List ℕ) (xs : List E) → before ≤ 2 ^ 32 → answer_of before text ≡ Err stream.Limit
    → step_of work (before + length text) before xs (lines text) ≡ refused_step work xs (codes "Limit")
unfolding answer_of
step_past work before text xs within answer =
    let tests : (is_long before text ≡ false) × (is_past before text ≡ true) = past_holds (is_long before text) (is_past before text) (next_of text) answer in
    let more : 2 ^ 32 < before + length text =
    ltb-true (2 ^ 32) (before + length text)
    (and_parts (nat_lt (2 ^ 32) (before + length text)) (nat_lt (2 ^ 32) (before + line_len text + 1)) tests.1).0 in
    let some : 0 < length text = omega (arith, more, within) in
    rw (lines-more text some, length-take-line_len text, tests.0, tests.1) refl

-- a text whose next line is lent
pub step_line : {E : Type 0} (work : Work E) (before : ℕ) (text line : List ℕ) (xs : List E) → answer_of before text ≡ Ok (Some line)
    → step_of work (before + length text) before xs (lines text) ≡ step_for work xs (work.says xs line)
unfolding answer_of
step_line work before text line xs answer =
    let tests : (is_long before text ≡ false) × (is_past before text ≡ false) × (next_of text ≡ Some line) =
    line_cases (is_long before text) (is_past before text) (next_of text) (Some line) answer in
    rw (lines-some text line tests.2, length-next_of text line tests.2, tests.0, tests.1) refl

-- a text that is used up
pub step_end : {E : Type 0} (work : Work E) (before : ℕ) (text : List ℕ) (xs : List E) → answer_of before text ≡ Ok None
    → step_of work (before + length text) before xs (lines text) ≡ end_step work xs
unfolding answer_of
step_end work before text xs answer =
    let tests : (is_long before text ≡ false) × (is_past before text ≡ false) × (next_of text ≡ None) =
    line_cases (is_long before text) (is_past before text) (next_of text) None answer in
    let used_up : text ≡ [] = next_of-none text tests.2 in
    rw used_up refl

-- What holds of the step that an answer calls for holds of the next step.

-- a line that was passed
pub next_passed : {E : Type 0} (P : Work E → List E → Step E → Type 0) (left : Option (List ℕ)) (before : ℕ) (line : List ℕ)
    → IfSome left (λ text. answer_of before text ≡ Ok (Some line)) → ((w : Work E) (xs : List E) → P w xs (step_for w xs (w.says xs line)))
    → HoldsNext P left before
next_passed P None before line answer holds = tt
next_passed P (Some text) before line answer holds = λ w xs. subst (P w xs) (sym (step_line w before text line xs answer)) (holds w xs)

pub next_line : {E : Type 0} (P : Work E → List E → Step E → Type 0) (left : Option (List ℕ)) (before : ℕ) (field : Option (Bor (List ℕ))) (line : Bor (List ℕ))
    → field ≡ Some line → IfSome left (λ text. IsAnswerTo (answer_of before text) (Ok field))
    → ((w : Work E) (xs : List E) → P w xs (step_for w xs (w.says xs line.now))) → HoldsNext P left before
next_line P None before field line is answer holds = tt
next_line P (Some text) before field line is answer holds =
    λ w xs. subst (P w xs) (sym (step_line w before text line.now xs (answer ∙ ap (λ (f : Option (Bor (List ℕ))). Ok (option_copied f)) is))) (holds w xs)

pub next_end : {E : Type 0} (P : Work E → List E → Step E → Type 0) (left : Option (List ℕ)) (before : ℕ) (field : Option (Bor (List ℕ)))
    → field ≡ None → IfSome left (λ text. IsAnswerTo (answer_of before text) (Ok field))
    → ((w : Work E) (xs : List E) → P w xs (end_step w xs)) → HoldsNext P left before
next_end P None before field is answer holds = tt
next_end P (Some text) before field is answer holds =
    λ w xs. subst (P w xs) (sym (step_end w before text xs (answer ∙ ap (λ (f : Option (Bor (List ℕ))). Ok (option_copied f)) is))) (holds w xs)

pub next_long : {E : Type 0} (P : Work E → List E → Step E → Type 0) (left : Option (List ℕ)) (before : ℕ) (why : StreamFault) → why ≡ stream.LongLine
    → IfSome left (λ text. IsAnswerTo (answer_of before text) (Err why))
    → ((w : Work E) (xs : List E) → P w xs (refused_step w xs (codes "LongLine"))) → HoldsNext P left before
next_long P None before why is answer holds = tt
next_long P (Some text) before why is answer holds = λ w xs. subst (P w xs) (sym (step_long w before text xs (rw is at answer))) (holds w xs)

pub next_past : {E : Type 0} (P : Work E → List E → Step E → Type 0) (left : Option (List ℕ)) (before : ℕ) (why : StreamFault) → before ≤ 2 ^ 32
    → why ≡ stream.Limit → IfSome left (λ text. IsAnswerTo (answer_of before text) (Err why))
    → ((w : Work E) (xs : List E) → P w xs (refused_step w xs (codes "Limit"))) → HoldsNext P left before
next_past P None before why within is answer holds = tt
next_past P (Some text) before why within is answer holds = λ w xs. subst (P w xs) (sym (step_past w before text xs within (rw is at answer))) (holds w xs)
