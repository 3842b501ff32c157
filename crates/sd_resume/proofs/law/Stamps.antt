-- Raised numbers keep their order: which of two stamps is newer, and whether two plans are the same.
use Rattle.std.specs.Prelude.{◌≡◌, ℕ, zero, suc, ◌+◌, Bool, ◌&&◌, ◌||◌, nat_eq, nat_lt, refl}
use Rattle.std.proofs.Common.{arith, sym, ◌∙◌, ap}
use Rattle.std.proofs.lemmas.Bool.Decides.{nat_tests}
use Rattle.sd_device.specs.declared.msg.Stamp.{Stamp}
use Rattle.sd_device.specs.msg.Stamps.{stamp, is_newer}
use Rattle.sd_resume.specs.law.Shifts.{Shift, raised_epoch, raised_round, raised_stamp}

-- Plans

pub same_epoch : (shift : Shift) (a b : ℕ) → nat_eq (raised_epoch shift a) (raised_epoch shift b) ≡ nat_eq a b
same_epoch shift zero zero = refl
same_epoch shift zero (suc b) = go b shift.plans
  where
    go : (b k : ℕ) → nat_eq zero (suc b + k) ≡ nat_eq zero (suc b)
    go b k = grind (arith, nat_tests)
same_epoch shift (suc a) zero = go a shift.plans
  where
    go : (a k : ℕ) → nat_eq (suc a + k) zero ≡ nat_eq (suc a) zero
    go a k = grind (arith, nat_tests)
same_epoch shift (suc a) (suc b) = go a b shift.plans
  where
    go : (a b k : ℕ) → nat_eq (suc a + k) (suc b + k) ≡ nat_eq (suc a) (suc b)
    go a b k = grind (arith, nat_tests)

-- a plan that there is has the number that is less by the plans left out
pub raised_plan : (shift : Shift) (epoch : ℕ) → raised_epoch shift (epoch + 1) ≡ epoch + 1 + shift.plans
raised_plan shift epoch = go (epoch + 1) epoch (omega arith)
  where
    go : (n epoch : ℕ) → n ≡ epoch + 1 → raised_epoch shift n ≡ n + shift.plans
    go zero epoch same = absurd (none epoch same)
      where
        none : (epoch : ℕ) → 0 ≡ epoch + 1 → ⊥
        none epoch same = omega (arith, same)
    go (suc n) epoch same = refl

-- Stamps

abbrev newer_by : (ta ra tb rb : ℕ) → Bool
newer_by ta ra tb rb = nat_lt tb ta || (nat_eq ta tb && nat_lt rb ra)

newer_rounds : (shift : Shift) (ta ra tb rb : ℕ) → is_newer (raised_round shift ta ra) (raised_round shift tb rb) ≡ newer_by ta ra tb rb
newer_rounds shift zero ra zero rb = go shift.term shift.round ra rb
  where
    go : (t r ra rb : ℕ) → (nat_lt t t || (nat_eq t t && nat_lt (rb + r) (ra + r))) ≡ (nat_lt 0 0 || (nat_eq 0 0 && nat_lt rb ra))
    go t r ra rb = grind (arith, nat_tests)
newer_rounds shift zero ra (suc tb) rb = go shift.term shift.round ra tb rb
  where
    go : (t r ra tb rb : ℕ) → (nat_lt (suc tb + t) t || (nat_eq t (suc tb + t) && nat_lt rb (ra + r))) ≡ (nat_lt (suc tb) 0 || (nat_eq 0 (suc tb) && nat_lt rb ra))
    go t r ra tb rb = grind (arith, nat_tests)
newer_rounds shift (suc ta) ra zero rb = go shift.term shift.round ta ra rb
  where
    go : (t r ta ra rb : ℕ) → (nat_lt t (suc ta + t) || (nat_eq (suc ta + t) t && nat_lt (rb + r) ra)) ≡ (nat_lt 0 (suc ta) || (nat_eq (suc ta) 0 && nat_lt rb ra))
    go t r ta ra rb = grind (arith, nat_tests)
newer_rounds shift (suc ta) ra (suc tb) rb = go shift.term ta ra tb rb
  where
    go : (t ta ra tb rb : ℕ) → (nat_lt (suc tb + t) (suc ta + t) || (nat_eq (suc ta + t) (suc tb + t) && nat_lt rb ra)) ≡ (nat_lt (suc tb) (suc ta) || (nat_eq (suc ta) (suc tb) && nat_lt rb ra))
    go t ta ra tb rb = grind (arith, nat_tests)

pub same_newer : (shift : Shift) (a b : Stamp) → is_newer (raised_stamp shift a) (raised_stamp shift b) ≡ is_newer a b
same_newer shift a b = newer_rounds shift a.term a.round b.term b.round

-- the next round
next_by : (shift : Shift) (term round : ℕ)
    → stamp (raised_round shift term round).term ((raised_round shift term round).round + 1) ≡ raised_round shift term (round + 1)
next_by shift zero round = ap (stamp shift.term) (omega arith)
next_by shift (suc term) round = refl

pub next_round : (shift : Shift) (a : Stamp) → stamp (raised_stamp shift a).term ((raised_stamp shift a).round + 1) ≡ raised_stamp shift (stamp a.term (a.round + 1))
next_round shift a = next_by shift a.term a.round

-- the next term
term_by : (shift : Shift) (term before round : ℕ) → term ≡ before + 1 → stamp (before + 1 + shift.term) round ≡ raised_round shift term round
term_by shift zero before round same = absurd (none before same)
  where
    none : (before : ℕ) → 0 ≡ before + 1 → ⊥
    none before same = omega (arith, same)
term_by shift (suc term) before round same = ap (λ t. stamp (t + shift.term) round) (sym same)

pub raised_term : (shift : Shift) (term round : ℕ) → (raised_round shift term round).term ≡ term + shift.term
raised_term shift zero round = omega arith
raised_term shift (suc term) round = refl

pub next_term : (shift : Shift) (a : Stamp) (round : ℕ) → stamp ((raised_stamp shift a).term + 1) round ≡ raised_stamp shift (stamp (a.term + 1) round)
next_term shift a round =
    ap (λ t. stamp t round) (further (raised_stamp shift a).term a.term shift.term (raised_term shift a.term a.round))
    ∙ term_by shift (a.term + 1) a.term round refl
  where
    further : (raised term by : ℕ) → raised ≡ term + by → raised + 1 ≡ term + 1 + by
    further raised term by same = omega (arith, same)
