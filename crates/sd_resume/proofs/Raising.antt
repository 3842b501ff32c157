-- The numbers of the second, raised.
use Rattle.std.specs.Prelude.{◌≡◌, ◌≢◌, ℕ, zero, suc, ◌+◌, refl}
use Rattle.std.proofs.Common.{arith, ap, sym, ◌∙◌}
use Rattle.sd_device.specs.declared.msg.Stamp.{Stamp}
use Rattle.sd_device.specs.msg.Stamps.{stamp}
use Rattle.sd_resume.specs.law.Shifts.{Shift, raised_epoch, raised_round, raised_stamp}

pub epoch_none : (shift : Shift) (epoch : ℕ) → epoch ≡ 0 → raised_epoch shift epoch ≡ 0
epoch_none shift zero none = refl
epoch_none shift (suc epoch) none = absurd (never epoch none)
  where
    never : (n : ℕ) → suc n ≡ 0 → ⊥
    never n is = omega (arith, is)

pub epoch_some : (shift : Shift) (epoch : ℕ) → epoch ≢ 0 → raised_epoch shift epoch ≡ epoch + shift.plans
epoch_some shift zero some = absurd (some refl)
epoch_some shift (suc epoch) some = refl

-- a round of term 0, and of a later term
pub first_round : (shift : Shift) (term round : ℕ) → term ≡ 0 → (raised_round shift term round).round ≡ round + shift.round
first_round shift zero round first = refl
first_round shift (suc term) round first = absurd (never term first)
  where
    never : (n : ℕ) → suc n ≡ 0 → ⊥
    never n is = omega (arith, is)

pub later_round : (shift : Shift) (term round : ℕ) → term ≢ 0 → (raised_round shift term round).round ≡ round
later_round shift zero round later = absurd (later refl)
later_round shift (suc term) round later = refl

-- a stamp whose term and round are the raised ones, and the other way round
pub stamp_is : (shift : Shift) (one other : Stamp) → one.term ≡ other.term + shift.term → one.round ≡ (raised_stamp shift other).round
    → one ≡ raised_stamp shift other
stamp_is shift one other term round =
    ap (λ n. stamp n one.round) (term ∙ sym (terms other.term other.round)) ∙ ap (λ n. stamp (raised_stamp shift other).term n) round
  where
    terms : (t r : ℕ) → (raised_round shift t r).term ≡ t + shift.term
    terms zero r = omega arith
    terms (suc t) r = refl

pub stamp_parts : (shift : Shift) (one other : Stamp) → one ≡ raised_stamp shift other
    → (one.term ≡ other.term + shift.term) × (one.round ≡ (raised_stamp shift other).round)
stamp_parts shift one other same = (ap (λ (s : Stamp). s.term) same ∙ terms other.term other.round, ap (λ (s : Stamp). s.round) same)
  where
    terms : (t r : ℕ) → (raised_round shift t r).term ≡ t + shift.term
    terms zero r = omega arith
    terms (suc t) r = refl
