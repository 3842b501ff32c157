-- Numbers where they stand in longer bytes, and the fields that they are.
use Rattle.std.proofs.Common.{◌≡◌, ◌≢◌, ◌∙◌, ℕ, zero, suc, ◌+◌, ◌-◌, ◌*◌, ◌^◌, ◌<◌, ◌≤◌, true, not, ◌&&◌, List, [], ◌∷◌, ◌++◌, length, get_or, take, drop, slice_range, Some, Ok, refl, sym, ap, arith, add-one, length-take}
use Rattle.std.specs.Prelude.{nat_eq, nat_le, nat_lt}
use Rattle.std.specs.List.{list_all, position, position_or_len}
use Rattle.std.specs.Str.Parse.{digits_value, AllDigits as AllTens}
use Rattle.std.specs.Float.Numeral.{digits_len}
use Rattle.std.proofs.lemmas.Bool.{and_parts, and_from, not-true, ltb-true, leb-true, lt-ltb, le-leb, eqb-true, eq-eqb, ne_eqb}
use Rattle.std.proofs.lemmas.List.{append-nil}
use Rattle.std.proofs.lemmas.List.Folds.{list_all-append}
use Rattle.std.proofs.lemmas.Str.Parse.{digits_value_short}
use Rattle.core.proofs.dec2flt.Rows.{AllDigits-digits_len}
use Rattle.sd_num.specs.Decimals.{is_digit, leads_with_zero, number, value}
use Rattle.sd_num.proofs.Shared.{range_split}
use Rattle.sd_sched.specs.Lines.{fields, field_number, limit}
use Rattle.sd_sched.specs.Reading.{fields_behind, numbers_from}
use Rattle.sd_sched.specs.InPlace.{HasNumber, HasFields, safe_digits, is_at, is_one_line}
use Rattle.sd_sched.specs.declared.words.Field.{Field}
use Rattle.sd_sched.specs.declared.words.Field.TheVariants.{Amount, Which, Kind}
use Rattle.sd_sched.proofs.Decimals.{AllDigits, own, number_of_all}
use Rattle.sd_sched.proofs.Joined.{has_no_space, fields_one, fields_more, digits_no_space}

-- digits that end at a place are a number, where none leads with a zero
pub has_number : (most : ℕ) (bytes : List ℕ) (from count v : ℕ) → from + count ≤ length bytes → count ≤ most → count ≤ 15
    → digits_len (drop from bytes) ≡ count → digits_value 10 (take count (drop from bytes)) ≡ v
    → (nat_lt 0 (length (slice_range bytes from (from + count))) && not (leads_with_zero (slice_range bytes from (from + count)))) ≡ true
    → HasNumber most bytes from (from + count) v
has_number most bytes from count v inside few short ends is written =
    let text = take count (drop from bytes) in
    let back : from + count - from ≡ count = omega arith in
    let plain = rw back at written in
    let tens : AllTens 10 text = AllDigits-digits_len (drop from bytes) count (omega (arith, ends)) in
    let digits : AllDigits text = own.from text tens in
    let parts = and_parts (nat_lt 0 (length text)) (not (leads_with_zero text)) plain in
    let some : 0 < length text = ltb-true 0 (length text) parts.0 in
    let long = length-take count (drop from bytes) in
    let below : value text < 10 ^ most = digits_value_short own text most digits (omega (arith, long)) in
    let small : value text < 10 ^ 15 = digits_value_short own text 15 digits (omega (arith, long)) in
    let same : v ≡ value text = sym is ∙ sym (own.same text tens) in
    let read : number text ≡ Ok v =
    number_of_all text digits some (not-true (leads_with_zero text) parts.1) (omega (arith, small)) ∙ ap Ok (sym same) in
    record {
      ordered = omega (arith, long, some);
      few = omega arith;
      digits = rw back digits;
      number_is = rw back read;
      below = omega (arith, same, below);
    }

-- a byte at a place, and those after it
at_splits : (bytes : List ℕ) (place byte : ℕ) → is_at bytes place byte ≡ true → drop place bytes ≡ byte ∷ drop (suc place) bytes
at_splits [] place byte is = cc
at_splits (b ∷ bs) zero byte is = let same : b ≡ byte = eqb-true b byte is in rw same refl
at_splits (b ∷ bs) (suc place) byte is = at_splits bs place byte is

at_inside : (bytes : List ℕ) (place byte : ℕ) → is_at bytes place byte ≡ true → place < length bytes
at_inside [] place byte is = cc
at_inside (b ∷ bs) zero byte is = omega arith
at_inside (b ∷ bs) (suc place) byte is = let later = at_inside bs place byte is in omega (arith, later)

slice_at : (bytes : List ℕ) (place byte end : ℕ) → is_at bytes place byte ≡ true → place < end
    → slice_range bytes place end ≡ byte ∷ slice_range bytes (place + 1) end
slice_at bytes place byte end is before =
    let more : end - place ≡ suc (end - suc place) = omega arith in
    rw (more, at_splits bytes place byte is, add-one place) refl

-- the byte that stands at a place
pub at_place : (bytes : List ℕ) (place byte : ℕ) → place < length bytes → get_or bytes place 0 ≡ byte → is_at bytes place byte ≡ true
at_place [] place byte inside is = absurd (omega arith)
at_place (b ∷ bs) zero byte inside is = eq-eqb b byte is
at_place (b ∷ bs) (suc place) byte inside is = at_place bs place byte (omega arith) is

-- the number of a field
number_of_field : (field : Field) (bytes : List ℕ) (from end n : ℕ) → HasNumber (safe_digits field) bytes from end n
    → field_number field (slice_range bytes from end) ≡ Some n
number_of_field Amount bytes from end n has = rw (has.number_is, le-leb n (limit Amount) (omega (arith, has.below))) refl
number_of_field Which bytes from end n has = rw (has.number_is, le-leb n (limit Which) (omega (arith, has.below))) refl
number_of_field Kind bytes from end n has = absurd (omega (arith, has.ordered, has.few))

-- fields go on to the end of their line
pub fields_ordered : (shape : List Field) (bytes : List ℕ) (place len : ℕ) (ns : List ℕ) → HasFields shape bytes place len ns → place ≤ len
fields_ordered [] bytes place len [] has = omega (arith, has.0)
fields_ordered [] bytes place len (n ∷ ns) has = absurd has
fields_ordered (field ∷ shape) bytes place len [] has = absurd has
fields_ordered (field ∷ shape) bytes place len (n ∷ ns) has =
    let later = fields_ordered shape bytes has.1.0 len ns has.1.1.1 in omega (arith, has.1.1.0.ordered, later)

-- each of them has a space and few digits
pub fields_short : (shape : List Field) (bytes : List ℕ) (place len : ℕ) (ns : List ℕ) → HasFields shape bytes place len ns
    → len ≤ place + 16 * length shape
fields_short [] bytes place len [] has = omega (arith, has.0)
fields_short [] bytes place len (n ∷ ns) has = absurd has
fields_short (field ∷ shape) bytes place len [] has = absurd has
fields_short (field ∷ shape) bytes place len (n ∷ ns) has =
    let later = fields_short shape bytes has.1.0 len ns has.1.1.1 in
    let few : safe_digits field ≤ 15 = at_most field in
    omega (arith, has.1.1.0.few, few, later)
  where
    at_most : (field : Field) → safe_digits field ≤ 15
    at_most Amount = omega arith
    at_most Which = omega arith
    at_most Kind = omega arith

-- the bytes of fields: a space, the digits of the first, and what follows it
slice_first : (shape : List Field) (bytes : List ℕ) (place end len : ℕ) (ns : List ℕ) → is_at bytes place 32 ≡ true → place + 1 < end
    → HasFields shape bytes end len ns
    → slice_range bytes place len ≡ 32 ∷ slice_range bytes (place + 1) end ++ slice_range bytes end len
slice_first shape bytes place end len ns space before behind =
    let ordered = fields_ordered shape bytes end len ns behind in
    slice_at bytes place 32 len space (omega (arith, ordered))
    ∙ ap (λ (bs : List ℕ). 32 ∷ bs) (range_split bytes (place + 1) end len (omega arith) ordered)

-- what has no space is the first field before what follows it
pub fields_first : (shape : List Field) (bytes text : List ℕ) (end len : ℕ) (ns : List ℕ) → has_no_space text ≡ true
    → HasFields shape bytes end len ns → fields (text ++ slice_range bytes end len) ≡ text ∷ fields_behind (slice_range bytes end len)
fields_first [] bytes text end len [] clean has =
    let none : len - end ≡ 0 = omega (arith, has.0) in
    rw (none, append-nil text) (fields_one text clean)
fields_first [] bytes text end len (n ∷ ns) clean has = absurd has
fields_first (field ∷ shape) bytes text end len [] clean has = absurd has
fields_first (field ∷ shape) bytes text end len (n ∷ ns) clean has =
    let ordered = fields_ordered shape bytes has.1.0 len ns has.1.1.1 in
    rw (slice_at bytes end 32 len has.0 (omega (arith, has.1.1.0.ordered, ordered)))
    (fields_more text (slice_range bytes (end + 1) len) clean)

-- they have these numbers
pub numbers_in : (place : ℕ) (shape : List Field) (bytes : List ℕ) (from len : ℕ) (ns : List ℕ) → HasFields shape bytes from len ns
    → numbers_from place shape (fields_behind (slice_range bytes from len)) ≡ Ok ns
numbers_in place [] bytes from len [] has = let none : len - from ≡ 0 = omega (arith, has.0) in rw none refl
numbers_in place [] bytes from len (n ∷ ns) has = absurd has
numbers_in place (field ∷ shape) bytes from len [] has = absurd has
numbers_in place (field ∷ shape) bytes from len (n ∷ ns) has =
    let end = has.1.0 in
    let first = has.1.1.0 in
    let behind = has.1.1.1 in
    rw (
      slice_first shape bytes from end len ns has.0 first.ordered behind,
      fields_first shape bytes (slice_range bytes (from + 1) end) end len ns (digits_no_space (slice_range bytes (from + 1) end) first.digits) behind,
      number_of_field field bytes (from + 1) end n first,
      numbers_in (place + 1) shape bytes end len ns behind,
    ) refl

digits_one_line : (bytes : List ℕ) → AllDigits bytes → is_one_line bytes ≡ true
digits_one_line [] all = refl
digits_one_line (byte ∷ bytes) all =
    let parts = and_parts (is_digit byte) (list_all is_digit bytes) all in
    and_from (not (nat_eq byte 10)) (is_one_line bytes) (digit_no_newline byte parts.0) (digits_one_line bytes parts.1)
  where
    digit_no_newline : (byte : ℕ) → is_digit byte ≡ true → not (nat_eq byte 10) ≡ true
    digit_no_newline byte digit =
        let range : (nat_le 48 byte ≡ true) × (nat_le byte 57 ≡ true) = and_parts (nat_le 48 byte) (nat_le byte 57) digit in
        let other : byte ≢ 10 = omega (arith, leb-true 48 byte range.0) in
        ap not (ne_eqb byte 10 other)

-- fields have no newline
pub fields_one_line : (shape : List Field) (bytes : List ℕ) (place len : ℕ) (ns : List ℕ) → HasFields shape bytes place len ns
    → is_one_line (slice_range bytes place len) ≡ true
fields_one_line [] bytes place len [] has = let none : len - place ≡ 0 = omega (arith, has.0) in rw none refl
fields_one_line [] bytes place len (n ∷ ns) has = absurd has
fields_one_line (field ∷ shape) bytes place len [] has = absurd has
fields_one_line (field ∷ shape) bytes place len (n ∷ ns) has =
    let end = has.1.0 in
    let first = has.1.1.0 in
    let behind = has.1.1.1 in
    rw (
      slice_first shape bytes place end len ns has.0 first.ordered behind,
      list_all-append (λ byte. not (nat_eq byte 10)) (slice_range bytes (place + 1) end) (slice_range bytes end len),
      digits_one_line (slice_range bytes (place + 1) end) first.digits,
      fields_one_line shape bytes end len ns behind,
    ) refl

-- a newline follows them
pub newline_behind : (shape : List Field) (bytes : List ℕ) (place len : ℕ) (ns : List ℕ) → HasFields shape bytes place len ns
    → is_at bytes len 10 ≡ true
newline_behind [] bytes place len [] has = rw (← has.0) has.1
newline_behind [] bytes place len (n ∷ ns) has = absurd has
newline_behind (field ∷ shape) bytes place len [] has = absurd has
newline_behind (field ∷ shape) bytes place len (n ∷ ns) has = newline_behind shape bytes has.1.0 len ns has.1.1.1

-- the first newline of bytes
pub newline_at : (bytes : List ℕ) (len : ℕ) → is_one_line (take len bytes) ≡ true → is_at bytes len 10 ≡ true
    → position (λ byte. nat_eq byte 10) bytes ≡ Some len
newline_at bytes len line newline =
    rw (counted bytes len line newline, lt-ltb len (length bytes) (at_inside bytes len 10 newline)) refl
  where
    counted : (bytes : List ℕ) (len : ℕ) → is_one_line (take len bytes) ≡ true → is_at bytes len 10 ≡ true
        → position_or_len (λ byte. nat_eq byte 10) bytes ≡ len
    counted [] len line newline = cc
    counted (byte ∷ bytes) zero line newline = rw newline refl
    counted (byte ∷ bytes) (suc len) line newline =
        let parts = and_parts (not (nat_eq byte 10)) (is_one_line (take len bytes)) line in
        rw (parts.0, counted bytes len parts.1 newline) (omega arith)
