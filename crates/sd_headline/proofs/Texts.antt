-- The whole lines of printed texts, and the words of a line.
use Rattle.std.specs.Prelude.{◌≡◌, ◌≢◌, ℕ, true, false, not, List, [], ◌∷◌, ◌++◌, length, drop, map, flat_map, nat_eq, nat_le, nat_lt, eqb, refl}
use Rattle.std.specs.List.{list_all, join_with_byte}
use Rattle.std.proofs.Common.{arith, sym, ap, ◌∙◌, append_assoc}
use Rattle.std.proofs.lemmas.Bool.{and_parts, and_from, not_from_false, ne_eqb, ltb-true, leb-true, le-leb}
use Rattle.std.proofs.lemmas.List.{append-nil}
use Rattle.std.proofs.lemmas.List.Folds.{list_all-append}
use Rattle.sd_num.specs.Texts.{text_of}
use Rattle.sd_sched.specs.Lines.{fields, first_field}
use Rattle.sd_sched.specs.Reading.{fields_behind}
use Rattle.sd_sched.proofs.Cuts.{fields_step}
use Rattle.sd_sched.proofs.Joined.{has_no_space, fields-joined}
use Rattle.sd_headline.specs.Words.{is_plain, is_one_line}
use Rattle.sd_headline.specs.Headlines.{whole_lines}

-- Whole lines

-- the text is just these lines, each with its newline
pub record AreLines (text : List ℕ) (ls : List (List ℕ)) : Type 0 where
  pub before : (more : List ℕ) → whole_lines (text ++ more) ≡ ls ++ whole_lines more

pub no_lines : AreLines [] []
no_lines = record { before = λ more. refl }

pub lines_behind : {a b : List ℕ} {xs ys : List (List ℕ)} → AreLines a xs → AreLines b ys → AreLines (a ++ b) (xs ++ ys)
lines_behind {a = a} {b = b} {xs = xs} {ys = ys} one two =
    record {
      before = λ more. ap whole_lines (append_assoc a b more) ∙ one.before (b ++ more) ∙ ap (λ ls. xs ++ ls) (two.before more)
          ∙ sym (append_assoc xs ys (whole_lines more));
    }

pub lines_are : {text : List ℕ} {ls : List (List ℕ)} → AreLines text ls → whole_lines text ≡ ls
lines_are {text = text} {ls = ls} are = ap whole_lines (sym (append-nil text)) ∙ are.before [] ∙ append-nil ls

no_newline : (byte : ℕ) → nat_le 32 byte ≡ true → nat_eq byte 10 ≡ false
no_newline byte high = let other : byte ≢ 10 = omega (arith, leb-true 32 byte high) in ne_eqb byte 10 other

cut_at_newline : (line more : List ℕ) → is_one_line line ≡ true → whole_lines (line ++ 10 ∷ more) ≡ line ∷ whole_lines more
cut_at_newline [] more one = refl
cut_at_newline (byte ∷ line) more one =
    let parts = and_parts (nat_le 32 byte) (is_one_line line) one in
    rw (no_newline byte parts.0, cut_at_newline line more parts.1) refl

pub one_line : (line : List ℕ) → is_one_line line ≡ true → AreLines (line ++ 10 ∷ []) (line ∷ [])
one_line line one = record { before = λ more. ap whole_lines (append_assoc line (10 ∷ []) more) ∙ cut_at_newline line more one }

-- Words

pub plain_is_one_line : (word : List ℕ) → is_plain word ≡ true → is_one_line word ≡ true
plain_is_one_line [] plain = refl
plain_is_one_line (byte ∷ word) plain =
    let parts = and_parts (nat_lt 32 byte) (is_plain word) plain in
    and_from (nat_le 32 byte) (is_one_line word) (le-leb 32 byte (omega (arith, ltb-true 32 byte parts.0))) (plain_is_one_line word parts.1)

no_space : (byte : ℕ) → nat_lt 32 byte ≡ true → nat_eq byte 32 ≡ false
no_space byte high = let other : byte ≢ 32 = omega (arith, ltb-true 32 byte high) in ne_eqb byte 32 other

plain_has_no_space : (word : List ℕ) → is_plain word ≡ true → has_no_space word ≡ true
plain_has_no_space [] plain = refl
plain_has_no_space (byte ∷ word) plain =
    let parts = and_parts (nat_lt 32 byte) (is_plain word) plain in
    and_from (not (eqb byte 32)) (has_no_space word) (not_from_false (eqb byte 32) (no_space byte parts.0)) (plain_has_no_space word parts.1)

all_have_no_space : (words : List (List ℕ)) → list_all is_plain words ≡ true → list_all has_no_space words ≡ true
all_have_no_space [] plain = refl
all_have_no_space (word ∷ words) plain =
    let parts = and_parts (is_plain word) (list_all is_plain words) plain in
    and_from (has_no_space word) (list_all has_no_space words) (plain_has_no_space word parts.0) (all_have_no_space words parts.1)

-- the words of a line are its fields
pub words_are_fields : (first : List ℕ) (others : List (List ℕ)) → list_all is_plain (first ∷ others) ≡ true
    → fields (join_with_byte 32 (first ∷ others)) ≡ first ∷ others
words_are_fields first others plain = fields-joined first others (all_have_no_space (first ∷ others) plain)

first_before_space : (word rest : List ℕ) → is_plain word ≡ true → first_field (word ++ 32 ∷ rest) ≡ word
first_before_space [] rest plain = refl
first_before_space (byte ∷ word) rest plain =
    let parts = and_parts (nat_lt 32 byte) (is_plain word) plain in
    rw (no_space byte parts.0, first_before_space word rest parts.1) refl

-- the first field of a line that has a space after its first word
pub first_is_field : (word rest : List ℕ) → is_plain word ≡ true → (behind : List (List ℕ)) × (fields (word ++ 32 ∷ rest) ≡ word ∷ behind)
first_is_field word rest plain =
    let line = word ++ 32 ∷ rest in
    (_, fields_step line ∙ ap (λ field. field ∷ fields_behind (drop (length (first_field line)) line)) (first_before_space word rest plain))

-- words of one line are a line
pub joined_one_line : (words : List (List ℕ)) → list_all is_one_line words ≡ true → is_one_line (join_with_byte 32 words) ≡ true
joined_one_line [] one = refl
joined_one_line (word ∷ []) one = (and_parts (is_one_line word) true one).0
joined_one_line (word ∷ next ∷ others) one =
    let parts = and_parts (is_one_line word) (list_all is_one_line (next ∷ others)) one in
    list_all-append (nat_le 32) word (32 ∷ join_with_byte 32 (next ∷ others))
    ∙ and_from (is_one_line word) (is_one_line (join_with_byte 32 (next ∷ others))) parts.0 (joined_one_line (next ∷ others) parts.1)

pub plain_one_line : (words : List (List ℕ)) → list_all is_plain words ≡ true → list_all is_one_line words ≡ true
plain_one_line [] plain = refl
plain_one_line (word ∷ words) plain =
    let parts = and_parts (is_plain word) (list_all is_plain words) plain in
    and_from (is_one_line word) (list_all is_one_line words) (plain_is_one_line word parts.0) (plain_one_line words parts.1)

-- a printed line of words
pub text_is_line : (words : List (List ℕ)) → list_all is_one_line words ≡ true → AreLines (text_of words) (join_with_byte 32 words ∷ [])
text_is_line words one = one_line (join_with_byte 32 words) (joined_one_line words one)

-- printed lines, one after the other
pub texts_are_lines : {A : Type 0} (words : A → List (List ℕ)) → ((x : A) → list_all is_one_line (words x) ≡ true) → (xs : List A)
    → AreLines (flat_map (λ x. text_of (words x)) xs) (map (λ x. join_with_byte 32 (words x)) xs)
texts_are_lines words one [] = no_lines
texts_are_lines words one (x ∷ xs) = lines_behind (text_is_line (words x) (one x)) (texts_are_lines words one xs)
