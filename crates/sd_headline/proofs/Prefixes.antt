-- What is promised of the bytes of a run holds of each front of them, wherever it was cut off.
use Rattle.std.specs.Prelude.{◌≡◌, ℕ, Bool, true, false, ◌&&◌, not, List, [], ◌∷◌, ◌++◌, nat_eq, refl, if◌then◌else◌}
use Rattle.std.specs.List.{list_all}
use Rattle.std.proofs.Common.{sym, ap, ◌∙◌}
use Rattle.std.proofs.lemmas.Bool.{and_parts}
use Rattle.std.proofs.lemmas.List.Folds.{list_all-append}
use Rattle.sd_headline.specs.Headlines.{with_front, whole_lines, none_before}

-- the whole lines of a longer text begin with those of the text
abbrev Begins : List (List ℕ) → List (List ℕ) → Type 0
Begins more ls = (rest : List (List ℕ)) × (more ≡ ls ++ rest)

front : (byte : ℕ) (more ls : List (List ℕ)) → Begins more ls → Begins (with_front byte more) (with_front byte ls)
front byte more [] begins = (with_front byte more, refl)
front byte more (line ∷ others) begins = let same : more ≡ (line ∷ others) ++ begins.0 = begins.1 in (begins.0, rw same refl)

next : (byte : ℕ) (more ls : List (List ℕ)) (is_newline : Bool) → Begins more ls
    → Begins (if is_newline then [] ∷ more else with_front byte more) (if is_newline then [] ∷ ls else with_front byte ls)
next byte more ls true begins = let same : more ≡ ls ++ begins.0 = begins.1 in (begins.0, rw same refl)
next byte more ls false begins = front byte more ls begins

lines_begin : (text more : List ℕ) → Begins (whole_lines (text ++ more)) (whole_lines text)
lines_begin [] more = (whole_lines more, refl)
lines_begin (byte ∷ text) more = next byte (whole_lines (text ++ more)) (whole_lines text) (nat_eq byte 10) (lines_begin text more)

-- the test of a line before others
step : (bad first : Bool) (more less : Bool) → (more ≡ true → less ≡ true) → (if first then true else not bad && more) ≡ true
    → (if first then true else not bad && less) ≡ true
step bad true more less down passes = refl
step true false more less down passes = passes
step false false more less down passes = down passes

of_lines : (bad first : List ℕ → Bool) (ls rest : List (List ℕ)) → none_before bad first (ls ++ rest) ≡ true → none_before bad first ls ≡ true
of_lines bad first [] rest passes = refl
of_lines bad first (line ∷ others) rest passes =
    step (bad line) (first line) (none_before bad first (others ++ rest)) (none_before bad first others) (of_lines bad first others rest) passes

-- none of the one kind stands before the first of the other in a front of a text where none does in the text
pub none_before_front : (bad first : List ℕ → Bool) (text more : List ℕ)
    → none_before bad first (whole_lines (text ++ more)) ≡ true → none_before bad first (whole_lines text) ≡ true
none_before_front bad first text more passes =
    let begins : Begins (whole_lines (text ++ more)) (whole_lines text) = lines_begin text more in
    let same : whole_lines (text ++ more) ≡ whole_lines text ++ begins.0 = begins.1 in
    of_lines bad first (whole_lines text) begins.0 (rw (← same) passes)

-- what each line of a text passes, each line of a front of it does
pub all_front : (test : List ℕ → Bool) (text more : List ℕ) → list_all test (whole_lines (text ++ more)) ≡ true → list_all test (whole_lines text) ≡ true
all_front test text more passes =
    let begins : Begins (whole_lines (text ++ more)) (whole_lines text) = lines_begin text more in
    let same : whole_lines (text ++ more) ≡ whole_lines text ++ begins.0 = begins.1 in
    (and_parts (list_all test (whole_lines text)) (list_all test begins.0)
    (sym (list_all-append test (whole_lines text) begins.0) ∙ ap (list_all test) (sym same) ∙ passes)).0
