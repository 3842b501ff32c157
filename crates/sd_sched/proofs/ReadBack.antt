-- The line of an event, read again, is the event.
use Rattle.std.proofs.Common.{◌≡◌, ℕ, ◌^◌, ◌<◌, Bool, true, false, ◌&&◌, nat_le, List, [], ◌∷◌, Some, Ok, map, refl, ap, ◌∙◌, suc, ◌+◌, ◌-◌, length, nat_eq, arith, eq-eqb, leb-true}
use Rattle.std.specs.Prelude.{codes}
use Rattle.std.specs.Fmt.{decimal}
use Rattle.std.specs.List.{list_all, join_with_byte}
use Rattle.std.proofs.lemmas.Bool.{and_parts, and_from}
use Rattle.std.proofs.lemmas.List.{length-map}
use Rattle.sd_num.specs.Decimals.{number}
use Rattle.sd_sched.specs.Lines.{Word, word, start_word, tick_word, recv_word, lose_word, fail_word, fix_word, ask_word, stage_word, give_word, commit_word, seal_word, join_word, mend_word, end_word, is_kind, limit, field_number, field_numbers, has_unknown_kind, event_of_word, event_of_fields, event_of_line}
use Rattle.sd_sched.specs.Spelled.{line_of_event, is_within}
use Rattle.sd_sched.specs.declared.words.Field.{Field}
use Rattle.sd_sched.specs.declared.words.Field.TheVariants.{Amount, Which, Kind}
use Rattle.sd_sched.specs.declared.Event.{Event}
use Rattle.sd_sched.specs.declared.Event.TheVariants.{Start, Tick, Recv, Lose, FailDevice, FailLink, Fix, Ask, Stage, Give, Commit, Seal, Join, MendDevice, MendLink, End}
use Rattle.sd_sched.proofs.Decimals.{decimal_digits, number-decimal}
use Rattle.sd_sched.proofs.Joined.{has_no_space, fields-joined, digits_no_space}

-- the number of a field is within its limit
abbrev is_number_of : Field → ℕ → Bool
is_number_of Amount n = nat_le n (limit Amount)
is_number_of Which n = nat_le n (limit Which)
is_number_of Kind n = false

-- as many numbers as fields, each within its limit
abbrev are_numbers_of : List Field → List ℕ → Bool
are_numbers_of [] [] = true
are_numbers_of [] (n ∷ ns) = false
are_numbers_of (field ∷ shape) [] = false
are_numbers_of (field ∷ shape) (n ∷ ns) = is_number_of field n && are_numbers_of shape ns

-- such a number fits a `u64`
small_number : (field : Field) (n : ℕ) → is_number_of field n ≡ true → n < 2 ^ 64
small_number Amount n within = omega (arith, leb-true n (2 ^ 60) within)
small_number Which n within = omega (arith, leb-true n (2 ^ 32 - 1) within)
small_number Kind n within = absurd (cc)

-- its text is read as it
field_number-decimal : (field : Field) (n : ℕ) → is_number_of field n ≡ true → field_number field (decimal n) ≡ Some n
field_number-decimal Amount n within = rw (number-decimal n (small_number Amount n within), within) refl
field_number-decimal Which n within = rw (number-decimal n (small_number Which n within), within) refl
field_number-decimal Kind n within = absurd (cc)

-- texts of numbers are read as those numbers
field_numbers-decimal : (place : ℕ) (shape : List Field) (ns : List ℕ) → are_numbers_of shape ns ≡ true → field_numbers place shape (map decimal ns) ≡ Ok ns
field_numbers-decimal place [] [] within = refl
field_numbers-decimal place [] (n ∷ ns) within = absurd (cc)
field_numbers-decimal place (field ∷ shape) [] within = absurd (cc)
field_numbers-decimal place (field ∷ shape) (n ∷ ns) within =
    let parts = and_parts (is_number_of field n) (are_numbers_of shape ns) within in
    rw (field_number-decimal field n parts.0, field_numbers-decimal (place + 1) shape ns parts.1) refl

-- there are as many texts as fields
same_length : (shape : List Field) (ns : List ℕ) → are_numbers_of shape ns ≡ true → nat_eq (length (map decimal ns)) (length shape) ≡ true
same_length shape ns within = eq-eqb (length (map decimal ns)) (length shape) (length-map ns decimal ∙ go shape ns within)
  where
    go : (shape : List Field) (ns : List ℕ) → are_numbers_of shape ns ≡ true → length ns ≡ length shape
    go [] [] within = refl
    go [] (n ∷ ns) within = absurd (cc)
    go (field ∷ shape) [] within = absurd (cc)
    go (field ∷ shape) (n ∷ ns) within = ap suc (go shape ns (and_parts (is_number_of field n) (are_numbers_of shape ns) within).1)

-- and none of them has to say device or link
no_kind : (shape : List Field) (ns : List ℕ) → are_numbers_of shape ns ≡ true → has_unknown_kind shape (map decimal ns) ≡ false
no_kind [] [] within = refl
no_kind [] (n ∷ ns) within = refl
no_kind (field ∷ shape) [] within = refl
no_kind (Amount ∷ shape) (n ∷ ns) within = no_kind shape ns (and_parts (is_number_of Amount n) (are_numbers_of shape ns) within).1
no_kind (Which ∷ shape) (n ∷ ns) within = no_kind shape ns (and_parts (is_number_of Which n) (are_numbers_of shape ns) within).1
no_kind (Kind ∷ shape) (n ∷ ns) within = absurd (cc)

-- the text of a number has no space
number_no_space : (field : Field) (n : ℕ) → is_number_of field n ≡ true → has_no_space (decimal n) ≡ true
number_no_space field n within = digits_no_space (decimal n) (decimal_digits n (small_number field n within))

-- nor have the texts of all
numbers_no_space : (shape : List Field) (ns : List ℕ) → are_numbers_of shape ns ≡ true → list_all has_no_space (map decimal ns) ≡ true
numbers_no_space shape [] within = refl
numbers_no_space [] (n ∷ ns) within = absurd (cc)
numbers_no_space (field ∷ shape) (n ∷ ns) within =
    let parts = and_parts (is_number_of field n) (are_numbers_of shape ns) within in
    and_from (has_no_space (decimal n)) (list_all has_no_space (map decimal ns)) (number_no_space field n parts.0) (numbers_no_space shape ns parts.1)

-- a word and its numbers, printed and read
plain_back : (w : Word) (ns : List ℕ) → has_no_space w.spelled ≡ true → ((texts : List (List ℕ)) → event_of_fields (w.spelled ∷ texts) ≡ event_of_word texts w)
    → are_numbers_of w.shape ns ≡ true → event_of_line (join_with_byte 32 (w.spelled ∷ map decimal ns)) ≡ Ok (w.event ns)
unfolding event_of_line
plain_back w ns clean known within =
    ap event_of_fields
    (fields-joined w.spelled (map decimal ns)
    (and_from (has_no_space w.spelled) (list_all has_no_space (map decimal ns)) clean (numbers_no_space w.shape ns within)))
    ∙ known (map decimal ns)
    ∙ rw (same_length w.shape ns within, no_kind w.shape ns within, field_numbers-decimal 1 w.shape ns within) refl

-- a word, a kind and its number, printed and read
kind_back : (spelled kind : List ℕ) (k : ℕ) (event : List ℕ → Event) (reference number : ℕ) → has_no_space spelled ≡ true → has_no_space kind ≡ true
    → is_kind kind ≡ true → field_number Kind kind ≡ Some k
    → ((texts : List (List ℕ)) → event_of_fields (spelled ∷ texts) ≡ event_of_word texts (word spelled (Amount ∷ Kind ∷ Which ∷ []) event))
    → (is_number_of Which number && is_number_of Amount reference) ≡ true
    → event_of_line (join_with_byte 32 (spelled ∷ decimal reference ∷ kind ∷ decimal number ∷ [])) ≡ Ok (event (reference ∷ k ∷ number ∷ []))
unfolding event_of_line
kind_back spelled kind k event reference number clean kind_clean says is known within =
    let parts = and_parts (is_number_of Which number) (is_number_of Amount reference) within in
    let all_clean : list_all has_no_space (spelled ∷ decimal reference ∷ kind ∷ decimal number ∷ []) ≡ true =
    rw (clean, number_no_space Amount reference parts.1, kind_clean, number_no_space Which number parts.0) refl in
    ap event_of_fields (fields-joined spelled (decimal reference ∷ kind ∷ decimal number ∷ []) all_clean)
    ∙ known (decimal reference ∷ kind ∷ decimal number ∷ [])
    ∙ rw (says, field_number-decimal Amount reference parts.1, is, field_number-decimal Which number parts.0) refl

-- the device is judged before the reference, which is printed before it
reference_first : (device reference others : Bool) → (device && (reference && others)) ≡ true → (reference && (device && others)) ≡ true
reference_first true true others within = within
reference_first true false others within = absurd (cc)
reference_first false reference others within = absurd (cc)

-- with a last test that says nothing
with_true : (test : Bool) → test ≡ true → (test && true) ≡ true
with_true true within = refl
with_true false within = absurd (cc)

-- the same where nothing follows
two_swapped : (device reference : Bool) → (device && reference) ≡ true → (reference && (device && true)) ≡ true
two_swapped true true within = refl
two_swapped true false within = absurd (cc)
two_swapped false reference within = absurd (cc)

-- each event within the limits, printed and read
pub line_back : (e : Event) → is_within e ≡ true → event_of_line (line_of_event e) ≡ Ok e
unfolding event_of_line line_of_event
line_back (Start reference device counter clock eps) within =
    plain_back start_word (reference ∷ device ∷ counter ∷ clock ∷ eps ∷ []) refl (λ texts. refl)
    (reference_first (nat_le device (limit Which)) (nat_le reference (limit Amount))
    (list_all (λ n. nat_le n (limit Amount)) (counter ∷ clock ∷ eps ∷ [])) within)
line_back (Tick reference device counter) within =
    plain_back tick_word (reference ∷ device ∷ counter ∷ []) refl (λ texts. refl)
    (reference_first (nat_le device (limit Which)) (nat_le reference (limit Amount)) (list_all (λ n. nat_le n (limit Amount)) (counter ∷ [])) within)
line_back (Recv reference device counter message) within =
    plain_back recv_word (reference ∷ device ∷ counter ∷ message ∷ []) refl (λ texts. refl)
    (reference_first (nat_le device (limit Which)) (nat_le reference (limit Amount)) (list_all (λ n. nat_le n (limit Amount)) (counter ∷ message ∷ [])) within)
line_back (Lose reference message) within = plain_back lose_word (reference ∷ message ∷ []) refl (λ texts. refl) within
line_back (FailDevice reference device) within =
    kind_back fail_word.spelled (codes "device") 0 fail_word.event reference device refl refl refl refl (λ texts. refl) within
line_back (FailLink reference link) within =
    kind_back fail_word.spelled (codes "link") 1 fail_word.event reference link refl refl refl refl (λ texts. refl) within
line_back (Fix reference device counter clock eps) within =
    plain_back fix_word (reference ∷ device ∷ counter ∷ clock ∷ eps ∷ []) refl (λ texts. refl)
    (reference_first (nat_le device (limit Which)) (nat_le reference (limit Amount))
    (list_all (λ n. nat_le n (limit Amount)) (counter ∷ clock ∷ eps ∷ [])) within)
line_back (Ask reference device counter) within =
    plain_back ask_word (reference ∷ device ∷ counter ∷ []) refl (λ texts. refl)
    (reference_first (nat_le device (limit Which)) (nat_le reference (limit Amount)) (list_all (λ n. nat_le n (limit Amount)) (counter ∷ [])) within)
line_back (Stage reference) within = plain_back stage_word (reference ∷ []) refl (λ texts. refl) (with_true (nat_le reference (limit Amount)) within)
line_back (Give reference device) within =
    plain_back give_word (reference ∷ device ∷ []) refl (λ texts. refl) (two_swapped (nat_le device (limit Which)) (nat_le reference (limit Amount)) within)
line_back (Commit reference device counter) within =
    plain_back commit_word (reference ∷ device ∷ counter ∷ []) refl (λ texts. refl)
    (reference_first (nat_le device (limit Which)) (nat_le reference (limit Amount)) (list_all (λ n. nat_le n (limit Amount)) (counter ∷ [])) within)
line_back (Seal reference device) within =
    plain_back seal_word (reference ∷ device ∷ []) refl (λ texts. refl) (two_swapped (nat_le device (limit Which)) (nat_le reference (limit Amount)) within)
line_back (Join reference device counter clock eps) within =
    plain_back join_word (reference ∷ device ∷ counter ∷ clock ∷ eps ∷ []) refl (λ texts. refl)
    (reference_first (nat_le device (limit Which)) (nat_le reference (limit Amount))
    (list_all (λ n. nat_le n (limit Amount)) (counter ∷ clock ∷ eps ∷ [])) within)
line_back (MendDevice reference device) within =
    kind_back mend_word.spelled (codes "device") 0 mend_word.event reference device refl refl refl refl (λ texts. refl) within
line_back (MendLink reference link) within =
    kind_back mend_word.spelled (codes "link") 1 mend_word.event reference link refl refl refl refl (λ texts. refl) within
line_back (End reference) within = plain_back end_word (reference ∷ []) refl (λ texts. refl) (with_true (nat_le reference (limit Amount)) within)
