-- What stands before the first space is the first field, by which a line is known or unknown.
use Rattle.std.proofs.Common.{◌≡◌, ℕ, ◌+◌, Bool, true, false, cond, not, eqb, List, [], ◌∷◌, length, take, drop, Some, None, Err, refl, sym, ap, ◌∙◌, one-add, take_all, ltb-false}
use Rattle.std.specs.Prelude.{nat_lt}
use Rattle.std.specs.List.{position, position_or_len}
use Rattle.sd_sched.specs.Lines.{first_field, event_of_fields, event_of_line}
use Rattle.sd_sched.specs.Spelled.{is_word}
use Rattle.sd_sched.specs.Reading.{fields_behind}
use Rattle.sd_sched.specs.declared.LineFault.TheVariants.{UnknownWord}
use Rattle.sd_sched.proofs.Cuts.{fields_step}
use Rattle.sd_sched.proofs.ByWord.{no_word}

-- the bytes before the first space
before_space : (bytes : List ℕ) → take (position_or_len (λ byte. eqb byte 32) bytes) bytes ≡ first_field bytes
before_space [] = refl
before_space (byte ∷ bytes) = go (eqb byte 32) (before_space bytes)
  where
    go : (space : Bool) → take (position_or_len (λ b. eqb b 32) bytes) bytes ≡ first_field bytes
        → take (cond (not space) (1 + position_or_len (λ b. eqb b 32) bytes) 0) (byte ∷ bytes) ≡ cond space [] (byte ∷ first_field bytes)
    go true later = refl
    go false later = rw one-add (ap (λ (bs : List ℕ). byte ∷ bs) later)

-- where there is a space
pub first_to_space : (bytes : List ℕ) (end : ℕ) → position (λ byte. eqb byte 32) bytes ≡ Some end → take end bytes ≡ first_field bytes
first_to_space bytes end found = go (nat_lt (position_or_len (λ byte. eqb byte 32) bytes) (length bytes)) found
  where
    go : (inside : Bool) → cond inside (Some (position_or_len (λ byte. eqb byte 32) bytes)) None ≡ Some end → take end bytes ≡ first_field bytes
    go true found = let same : position_or_len (λ byte. eqb byte 32) bytes ≡ end = cc in rw (← same) (before_space bytes)
    go false found = absurd (cc)

-- where there is none
pub first_is_all : (bytes : List ℕ) → position (λ byte. eqb byte 32) bytes ≡ None → bytes ≡ first_field bytes
first_is_all bytes none =
    sym (take_all (position_or_len (λ byte. eqb byte 32) bytes) bytes
    (ltb-false _ (length bytes) (go (nat_lt (position_or_len (λ byte. eqb byte 32) bytes) (length bytes)) none))) ∙ before_space bytes
  where
    go : (inside : Bool) → cond inside (Some (position_or_len (λ byte. eqb byte 32) bytes)) None ≡ None → inside ≡ false
    go true none = absurd (cc)
    go false none = refl

-- a line whose first field is no word of the schedule
pub unknown_first : (bytes : List ℕ) → is_word (first_field bytes) ≡ false → event_of_line bytes ≡ Err UnknownWord
unfolding event_of_line
unknown_first bytes none = ap event_of_fields (fields_step bytes) ∙ no_word (first_field bytes) (fields_behind (drop (length (first_field bytes)) bytes)) none
