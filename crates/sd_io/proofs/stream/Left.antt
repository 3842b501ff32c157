-- What is left of a text from call to call.
use Rattle.std.proofs.Common.{◌≡◌, ℕ, ◌+◌, ◌≤◌, ◌<◌, List, ◌++◌, Option, None, Some, Ok, Err, Result, IfSome, IfErr, OnErr, sym, ap, subst, ◌∙◌, length, take, drop, slice_range, arith, append_assoc, append-nil}
use Rattle.std.proofs.lemmas.List.{take-append-drop, length-append, take-append-le, drop-append-le, take_all, nil_from_length}
use Rattle.std.specs.Io.KnownBytes.{prepend_known, Consumes, Keeps, IsAtEnd}
use Rattle.sd_io.specs.declared.stream.faults.StreamFault.{StreamFault}
use Rattle.sd_io.specs.declared.stream.faults.StreamFault.TheVariants.{ReadFault, LongLine, Limit}
use Rattle.sd_io.specs.stream.Lines.{line_len, after_line}
use Rattle.sd_io.specs.stream.Next.{next_of}
use Rattle.sd_io.specs.stream.Limits.{answer_of}
use Rattle.sd_io.specs.stream.Findings.{IsLine, IsOpen}
use Rattle.sd_io.specs.stream.Reader.{GoesPast, AnswersAt}
use Rattle.sd_io.proofs.stream.LineLaws.{next_of-more, length-after_line}
use Rattle.sd_io.proofs.stream.Found.{line_len-append, line_len-le-append}
use Rattle.sd_io.proofs.stream.AnswerLaws.{answer_of-ends, answer_of-last, answer_of-append}

-- what holds anyway holds after an error
pub on_err : {T E P : Type 0} (r : Result T E) → P → OnErr r P
on_err (Ok x) p = tt
on_err (Err e) p = p

-- bytes that came into the buffer are still left of the text
pub left_after_read : (a b : Option (List ℕ)) (old more new : List ℕ) → new ≡ old ++ more → Consumes a b more
    → Keeps (prepend_known old a) (prepend_known new b)
left_after_read None b old more new e c = tt
left_after_read (Some x) None old more new e c = absurd c
left_after_read (Some x) (Some y) old more new e c = ap (λ l. l ++ y) e ∙ append_assoc old more y ∙ ap (λ l. old ++ l) (sym c)

-- where nothing came, the text is left as before
pub left_kept : (a b : Option (List ℕ)) (old new : List ℕ) → new ≡ old → Keeps a b → Keeps (prepend_known old a) (prepend_known new b)
left_kept None b old new e c = tt
left_kept (Some x) None old new e c = absurd c
left_kept (Some x) (Some y) old new e c = ap (λ l. l ++ y) e ∙ ap (λ l. old ++ l) c

-- bytes that hold no newline hold none when more come after them
pub searched_kept : (old new : List ℕ) → take (length old) new ≡ old → line_len old ≡ length old → length old ≤ line_len new
searched_kept old new front is =
    let joined : new ≡ old ++ drop (length old) new = sym (take-append-drop (length old) new) ∙ ap (λ l. l ++ drop (length old) new) front in
    let longer = line_len-le-append old (drop (length old) new) in
    rw joined (omega arith)

-- ---- what the buffer says is so of the text

-- a refusal by the bytes in the buffer is one by the text
pub refused_left : (before : ℕ) (a r : Option (List ℕ)) (b : List ℕ) (f : StreamFault) → Keeps a (prepend_known b r) → answer_of before b ≡ Err f
    → IfSome a (λ text. answer_of before text ≡ Err f)
refused_left before None r b f k e = tt
refused_left before (Some x) None b f k e = absurd k
refused_left before (Some x) (Some y) b f k e = subst (λ (t : List ℕ). answer_of before t ≡ Err f) k (answer_of-append before b y f e)

-- a line that ends in the buffer is the next line of the text
pub line_left : (before : ℕ) (a r : Option (List ℕ)) (b : List ℕ) (len : ℕ) → Keeps a (prepend_known b r) → IsLine before b len
    → IfSome a (λ text. answer_of before text ≡ Ok (Some (take len b)))
line_left before None r b len k is = tt
line_left before (Some x) None b len k is = absurd k
line_left before (Some x) (Some y) b len k is =
    let same : line_len (b ++ y) ≡ len = line_len-append b y (omega arith) ∙ is.len_is in
    let among : len ≤ length b = omega arith in
    let answer = answer_of-ends before (b ++ y) (omega arith) (omega arith) in
    let line = next_of-more (b ++ y) (omega (arith, length-append b y)) ∙ ap Some (ap (λ n. take n (b ++ y)) same ∙ take-append-le len b y among) in
    subst (λ (t : List ℕ). answer_of before t ≡ Ok (Some (take len b))) k (answer ∙ ap Ok line)

-- where the shelf has nothing left, the bytes in the buffer are the text
pub last_left : (before : ℕ) (a r : Option (List ℕ)) (b : List ℕ) → Keeps a (prepend_known b r) → IsAtEnd r → IsOpen before b
    → IfSome a (λ text. answer_of before text ≡ Ok (next_of b))
last_left before None r b k end is = tt
last_left before (Some x) None b k end is = absurd k
last_left before (Some x) (Some y) b k end is =
    let all : b ≡ x = sym (append-nil b) ∙ ap (λ l. b ++ l) (sym end) ∙ k in
    subst (λ (t : List ℕ). answer_of before t ≡ Ok (next_of b)) all (answer_of-last before b (omega arith) (omega arith))

-- ---- what is left of the text

-- what is left after a newline in the buffer is the text after its next line
pub past_line : (before new : ℕ) (a r : Option (List ℕ)) (b rest : List ℕ) (len : ℕ) → Keeps a (prepend_known b r) → IsLine before b len
    → rest ≡ drop (len + 1) b
    → new ≡ before + (len + 1) → IfSome a (GoesPast before new (prepend_known rest r))
past_line before new None r b rest len k is e count = tt
past_line before new (Some x) None b rest len k is e count = absurd k
past_line before new (Some x) (Some y) b rest len k is e count =
    let same : line_len (b ++ y) ≡ len = line_len-append b y (omega arith) ∙ is.len_is in
    let among : len + 1 ≤ length b = omega arith in
    let after : rest ++ y ≡ after_line (b ++ y) = ap (λ l. l ++ y) e ∙ sym (ap (λ n. drop (n + 1) (b ++ y)) same ∙ drop-append-le (len + 1) b y among) in
    subst (GoesPast before new (Some (rest ++ y))) k
    (record { after = ap Some after; count = omega (arith, length-after_line (b ++ y), length-append b y) })

-- ---- a refusal is repeated

-- no refusal stood in a buffer that holds no newline and is within every limit
pub not_refused : (first : Result (Option (List ℕ)) StreamFault) (before : ℕ) (b : List ℕ) (P : StreamFault → Type 0)
    → IfErr first (λ g. answer_of before b ≡ Err g) → IsOpen before b → IfErr first P
not_refused (Ok x) before b P h is = tt
not_refused (Err g) before b P h is = let line = answer_of-last before b (omega arith) (omega arith) in cc

-- ---- what a call answers

-- the expected line stands at a place of the buffer
pub line_answers : (before : ℕ) (a : Option (List ℕ)) (line bytes : List ℕ) (place : ℕ × ℕ) → IfSome a (λ text. answer_of before text ≡ Ok (Some line))
    → slice_range bytes place.0 place.1 ≡ line
    → IfSome a (λ text. AnswersAt (answer_of before text) bytes (Ok (Some place)))
line_answers before None line bytes place h e = tt
line_answers before (Some x) line bytes place h e = h ∙ ap (λ (l : List ℕ). Ok (Some l)) (sym e)

-- a refusal that is expected may be answered
refusal_answers : (expected : Result (Option (List ℕ)) StreamFault) (bytes : List ℕ) (f : StreamFault) → expected ≡ Err f → AnswersAt expected bytes (Err f)
refusal_answers expected bytes ReadFault e = tt
refusal_answers expected bytes LongLine e = e
refusal_answers expected bytes Limit e = e

-- a refusal by the text may be answered
pub fault_answers : (before : ℕ) (a : Option (List ℕ)) (bytes : List ℕ) (f : StreamFault) → IfSome a (λ text. answer_of before text ≡ Err f)
    → IfSome a (λ text. AnswersAt (answer_of before text) bytes (Err f))
fault_answers before None bytes f h = tt
fault_answers before (Some x) bytes f h = refusal_answers (answer_of before x) bytes f h

-- bytes without a newline are one line
next_of_bytes : (b : List ℕ) → line_len b ≡ length b → 0 < length b → next_of b ≡ Some b
next_of_bytes b all more = next_of-more b more ∙ ap Some (ap (λ n. take n b) all ∙ take_all (length b) b (omega arith))

-- the last bytes are the last line
pub last_line_left : (before : ℕ) (a r : Option (List ℕ)) (b : List ℕ) → Keeps a (prepend_known b r) → IsAtEnd r → IsOpen before b → 0 < length b
    → IfSome a (λ text. answer_of before text ≡ Ok (Some b))
last_line_left before a r b k end is more = rw (next_of_bytes b is.len_is more) at (last_left before a r b k end is)

-- with no byte left there is no line
pub no_line_left : (before : ℕ) (a r : Option (List ℕ)) (b bytes : List ℕ) → Keeps a (prepend_known b r) → IsAtEnd r → IsOpen before b → length b ≡ 0
    → IfSome a (λ text. AnswersAt (answer_of before text) bytes (Ok None))
no_line_left before a r b bytes k end is empty = rw (nil_from_length b empty) at (last_left before a r b k end is)
