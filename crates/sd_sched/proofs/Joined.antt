-- Fields that are joined by spaces are cut into the same fields.
use Rattle.std.proofs.Common.{◌≡◌, ◌≢◌, ℕ, Bool, true, false, not, eqb, List, [], ◌∷◌, ◌++◌, refl, ap, ◌∙◌, arith, ne_eqb}
use Rattle.std.proofs.lemmas.Bool.{and_parts, not-true, and_from, leb-true}
use Rattle.std.specs.Prelude.{nat_le}
use Rattle.std.specs.List.{list_all, join_with_byte}
use Rattle.sd_num.specs.Decimals.{is_digit}
use Rattle.sd_sched.specs.Lines.{fields}
use Rattle.sd_sched.proofs.Decimals.{AllDigits}

-- none of the bytes is a space
abbrev pub has_no_space : List ℕ → Bool
has_no_space bytes = list_all (λ byte. not (eqb byte 32)) bytes

-- a field without spaces is the only one
pub fields_one : (field : List ℕ) → has_no_space field ≡ true → fields field ≡ field ∷ []
fields_one [] clean = refl
fields_one (byte ∷ field) clean =
    let parts = and_parts (not (eqb byte 32)) (has_no_space field) clean in
    rw (not-true (eqb byte 32) parts.0, fields_one field parts.1) refl

-- a space ends it
pub fields_more : (field rest : List ℕ) → has_no_space field ≡ true → fields (field ++ 32 ∷ rest) ≡ field ∷ fields rest
fields_more [] rest clean = refl
fields_more (byte ∷ field) rest clean =
    let parts = and_parts (not (eqb byte 32)) (has_no_space field) clean in
    rw (not-true (eqb byte 32) parts.0, fields_more field rest parts.1) refl

-- joined fields are cut where they were joined
pub fields-joined : (first : List ℕ) (others : List (List ℕ)) → list_all has_no_space (first ∷ others) ≡ true
    → fields (join_with_byte 32 (first ∷ others)) ≡ first ∷ others
fields-joined first [] clean = fields_one first (and_parts (has_no_space first) true clean).0
fields-joined first (second ∷ others) clean =
    let parts = and_parts (has_no_space first) (list_all has_no_space (second ∷ others)) clean in
    fields_more first (join_with_byte 32 (second ∷ others)) parts.0 ∙ ap (λ (fs : List (List ℕ)). first ∷ fs) (fields-joined second others parts.1)

-- a digit is no space
pub no_space_digit : (byte : ℕ) → is_digit byte ≡ true → eqb byte 32 ≡ false
no_space_digit byte digit =
    let range : (nat_le 48 byte ≡ true) × (nat_le byte 57 ≡ true) = and_parts (nat_le 48 byte) (nat_le byte 57) digit in
    let other : byte ≢ 32 = omega (arith, leb-true 48 byte range.0) in
    ne_eqb byte 32 other

digit_no_space : (byte : ℕ) → is_digit byte ≡ true → not (eqb byte 32) ≡ true
digit_no_space byte digit = ap not (no_space_digit byte digit)

-- digits have no space among them
pub digits_no_space : (bytes : List ℕ) → AllDigits bytes → has_no_space bytes ≡ true
digits_no_space [] all = refl
digits_no_space (byte ∷ bytes) all =
    let parts = and_parts (is_digit byte) (list_all is_digit bytes) all in
    and_from (not (eqb byte 32)) (has_no_space bytes) (digit_no_space byte parts.0) (digits_no_space bytes parts.1)
