-- How the answer for a text follows from that for its first bytes.
use Rattle.std.proofs.Common.{◌≡◌, ℕ, ◌+◌, ◌^◌, ◌<◌, ◌≤◌, ◌⊎◌, Bool, true, false, cond, List, length, Option, Ok, Err, refl, arith, inl, inr, min, ◌++◌}
use Rattle.std.proofs.lemmas.Bool.{le-leb, lt-leb, lt-ltb, le-ltb, leb-true, leb-false, ltb-true, ltb-false, and_from, and_left, and_right, and_parts, and_cases}
use Rattle.std.proofs.lemmas.List.{length-append}
use Rattle.sd_io.specs.declared.stream.faults.StreamFault.{StreamFault}
use Rattle.sd_io.specs.declared.stream.faults.StreamFault.TheVariants.{ReadFault, LongLine, Limit}
use Rattle.sd_io.specs.stream.Lines.{line_len}
use Rattle.sd_io.specs.stream.Next.{next_of}
use Rattle.sd_io.specs.stream.Limits.{is_long, is_past, answer_of}
use Rattle.sd_io.proofs.stream.LineLaws.{line_len-le-length}
use Rattle.sd_io.proofs.stream.Found.{line_len-le-append}

-- a line of more than 4096 bytes within the limit is too long
pub answer_of-long : (before : ℕ) (text : List ℕ) → before + 4097 ≤ 2 ^ 32 → 4096 < line_len text → answer_of before text ≡ Err LongLine
unfolding answer_of
answer_of-long before text h k =
    let long : is_long before text ≡ true = and_from _ _ (le-leb (before + 4097) (2 ^ 32) h) (lt-ltb 4096 (line_len text) k) in
    rw long refl

-- a line that does not end within the limit, in a text that goes on past it
pub answer_of-past : (before : ℕ) (text : List ℕ) → 2 ^ 32 < before + 4097 → 2 ^ 32 < before + length text → 2 ^ 32 < before + line_len text + 1
    → answer_of before text ≡ Err Limit
unfolding answer_of
answer_of-past before text n h k =
    let long : is_long before text ≡ false = and_left _ _ (lt-leb (before + 4097) (2 ^ 32) n) in
    let past : is_past before text ≡ true = and_from _ _ (lt-ltb (2 ^ 32) (before + length text) h) (lt-ltb (2 ^ 32) (before + line_len text + 1) k) in
    rw (long, past) refl

-- a line of at most 4096 bytes that ends within the limit
pub answer_of-ends : (before : ℕ) (text : List ℕ) → line_len text ≤ 4096 → before + line_len text + 1 ≤ 2 ^ 32 → answer_of before text ≡ Ok (next_of text)
unfolding answer_of
answer_of-ends before text h k =
    let long : is_long before text ≡ false = and_right _ _ (le-ltb 4096 (line_len text) h) in
    let past : is_past before text ≡ false = and_right _ _ (le-ltb (2 ^ 32) (before + line_len text + 1) k) in
    rw (long, past) refl

-- the last line, of at most 4096 bytes, in a text within the limit
pub answer_of-last : (before : ℕ) (text : List ℕ) → line_len text ≤ 4096 → before + length text ≤ 2 ^ 32 → answer_of before text ≡ Ok (next_of text)
unfolding answer_of
answer_of-last before text h k =
    let long : is_long before text ≡ false = and_right _ _ (le-ltb 4096 (line_len text) h) in
    let past : is_past before text ≡ false = and_left _ _ (le-ltb (2 ^ 32) (before + length text) k) in
    rw (long, past) refl

-- the cases of a refusal
refusal_cases : (long past : Bool) (line : Option (List ℕ)) (f : StreamFault) → cond long (Err LongLine) (cond past (Err Limit) (Ok line)) ≡ Err f
    → ((long ≡ true) × (f ≡ LongLine)) ⊎ ((long ≡ false) × (past ≡ true) × (f ≡ Limit))
refusal_cases true past line f e = inl (refl, cc)
refusal_cases false true line f e = inr (refl, refl, cc)
refusal_cases false false line f e = cc

-- the cases of a line
pub line_cases : (long past : Bool) (next line : Option (List ℕ)) → cond long (Err LongLine) (cond past (Err Limit) (Ok next)) ≡ Ok line
    → (long ≡ false) × (past ≡ false) × (next ≡ line)
line_cases true past next line e = cc
line_cases false true next line e = cc
line_cases false false next line e = (refl, refl, cc)

-- where a refusal comes: the line is too long, or it does not end within the limit
pub refused_from_answer : (before : ℕ) (text : List ℕ) (f : StreamFault) → answer_of before text ≡ Err f
    → ((f ≡ LongLine) × (before + 4097 ≤ 2 ^ 32) × (4096 < line_len text))
    ⊎ ((f ≡ Limit) × (2 ^ 32 < before + 4097) × (2 ^ 32 < before + length text) × (2 ^ 32 < before + line_len text + 1))
unfolding answer_of
refused_from_answer before text f e =
    elim (refusal_cases (is_long before text) (is_past before text) (next_of text) f e) [
      | inl w ↦ let both = and_parts _ _ w.0 in inl (w.1, leb-true (before + 4097) (2 ^ 32) both.0, ltb-true 4096 (line_len text) both.1)
      | inr w ↦
          let both = and_parts _ _ w.1 in
          let goes_on = ltb-true (2 ^ 32) (before + length text) both.0 in
          let ends = ltb-true (2 ^ 32) (before + line_len text + 1) both.1 in
          let near : 2 ^ 32 < before + 4097 =
          elim (and_cases _ _ w.0) [
            | inl far ↦ leb-false (before + 4097) (2 ^ 32) far
            | inr short ↦ let le = ltb-false 4096 (line_len text) short in omega arith
          ] in
          inr (w.2, near, goes_on, ends)
    ]

-- a line that is lent is the next one, has at most 4096 bytes, and ends within the limit
pub line_from_answer : (before : ℕ) (text : List ℕ) (line : Option (List ℕ)) → answer_of before text ≡ Ok line
    → (next_of text ≡ line) × (line_len text ≤ 4096) × (before + min (length text) (line_len text + 1) ≤ 2 ^ 32)
unfolding answer_of
line_from_answer before text line e =
    let parts = line_cases (is_long before text) (is_past before text) (next_of text) line e in
    let among = line_len-le-length text in
    let short : (2 ^ 32 < before + 4097) ⊎ (line_len text ≤ 4096) =
    elim (and_cases _ _ parts.0) [
      | inl far ↦ inl (leb-false (before + 4097) (2 ^ 32) far)
      | inr le ↦ inr (ltb-false 4096 (line_len text) le)
    ] in
    let within : (before + length text ≤ 2 ^ 32) ⊎ (before + line_len text + 1 ≤ 2 ^ 32) =
    elim (and_cases _ _ parts.1) [
      | inl whole ↦ inl (ltb-false (2 ^ 32) (before + length text) whole)
      | inr ends ↦ inr (ltb-false (2 ^ 32) (before + line_len text + 1) ends)
    ] in
    (parts.2, omega (arith, short, within), omega (arith, within))

-- a refusal stands, whatever follows
pub answer_of-append : (before : ℕ) (b y : List ℕ) (f : StreamFault) → answer_of before b ≡ Err f → answer_of before (b ++ y) ≡ Err f
answer_of-append before b y f e =
    let longer = line_len-le-append b y in
    let more = length-append b y in
    elim (refused_from_answer before b f e) [
      | inl w ↦ rw w.0 (answer_of-long before (b ++ y) w.1 (omega (arith, w.2)))
      | inr w ↦ rw w.0 (answer_of-past before (b ++ y) w.1 (omega (arith, w.2)) (omega (arith, w.3)))
    ]

-- that the outside failed is never what a text asks for
pub never_read_fault : (before : ℕ) (text : List ℕ) → answer_of before text ≡ Err ReadFault → ⊥
never_read_fault before text e = elim (refused_from_answer before text ReadFault e) [ inl w ↦ (let is = w.0 in cc) | inr w ↦ (let is = w.0 in cc) ]
