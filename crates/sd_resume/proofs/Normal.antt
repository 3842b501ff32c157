-- What a rebase lowers is raised again: it is the normal form.
use Rattle.std.specs.Prelude.{◌≡◌, ℕ, ◌+◌, ◌-◌, ◌*◌, ◌/◌, ◌≤◌, Bool, true, false, min, max, refl, if◌then◌else◌}
use Rattle.std.proofs.Common.{arith}
use Rattle.sd_device.specs.declared.registers.Registers.{Registers}
use Rattle.sd_device.specs.Rules.{is_acting_mode, floor_in}
use Rattle.sd_device.specs.Rebases.{waits_in, normal_at, least_in, lowered, lowering, rebased}
use Rattle.sd_resume.specs.Devices.{raised_by}

first_again : (a b c : ℕ) → a - min (min a b) c + min (min a b) c ≡ a
first_again a b c = omega arith

second_again : (a b c : ℕ) → b - min (min a b) c + min (min a b) c ≡ b
second_again a b c = omega arith

third_again : (a b c : ℕ) → c - min (min a b) c + min (min a b) c ≡ c
third_again a b c = omega arith

registers_same : (r : Registers) (last last' sent sent' at at' : ℕ) → last ≡ last' → sent ≡ sent' → at ≡ at'
    → ◌≡◌ {A = Registers} (record r { last = last; sent = sent; estimate = record { clock = r.estimate.clock; base = r.estimate.base; at = at } })
    (record r { last = last'; sent = sent'; estimate = record { clock = r.estimate.clock; base = r.estimate.base; at = at' } })
registers_same r last last' sent sent' at at' a b c = rw (a, b, c) refl

-- of any registers
raised_again : (r : Registers) → raised_by (least_in r) (lowered (least_in r) r) ≡ r
raised_again r =
    registers_same r _ _ _ _ _ _ (first_again r.last r.sent r.estimate.at) (second_again r.last r.sent r.estimate.at)
    (third_again r.last r.sent r.estimate.at)

pub normal_again : (r : Registers) (now : ℕ) → raised_by (lowering r now) (rebased r now) ≡ normal_at r now
normal_again r now = raised_again (normal_at r now)

-- The counters of the normal form are no later than now.

pub record IsSmall (r : Registers) (by now : ℕ) : Type 0 where
  pub last : r.last + by ≤ now
  pub sent : r.sent + by ≤ now
  pub at : r.estimate.at + by ≤ now

either : (b : Bool) (kept now : ℕ) → kept ≤ now → (if b then kept else now) ≤ now
either true kept now le = le
either false kept now le = omega arith

again : (a by now : ℕ) → by ≤ a → a ≤ now → a - by + by ≤ now
again a by now small le = omega (arith, small, le)

pub rebased_is_small : (r : Registers) (now : ℕ) → floor_in r ≤ now → IsSmall (rebased r now) (lowering r now) now
rebased_is_small r now floor =
    record {
      last = again (normal_at r now).last (lowering r now) now (least_first (normal_at r now).last (normal_at r now).sent (normal_at r now).estimate.at)
          (either (waits_in r) r.last now (first r.last r.sent r.estimate.at floor));
      sent = again (normal_at r now).sent (lowering r now) now (least_second (normal_at r now).last (normal_at r now).sent (normal_at r now).estimate.at)
          (either (is_acting_mode r.mode) r.sent now (second r.last r.sent r.estimate.at floor));
      at = again (normal_at r now).estimate.at (lowering r now) now
          (least_third (normal_at r now).last (normal_at r now).sent (normal_at r now).estimate.at)
          (moved r.estimate.at now (third r.last r.sent r.estimate.at floor));
    }
  where
    first : (a b c : ℕ) → max (max a b) c ≤ now → a ≤ now
    first a b c le = omega (arith, le)

    second : (a b c : ℕ) → max (max a b) c ≤ now → b ≤ now
    second a b c le = omega (arith, le)

    third : (a b c : ℕ) → max (max a b) c ≤ now → c ≤ now
    third a b c le = omega (arith, le)

    moved : (at n : ℕ) → at ≤ n → at + 1000000 * ((n - at) / 1000000) ≤ n
    moved at n le = omega (arith, le)

    least_first : (a b c : ℕ) → min (min a b) c ≤ a
    least_first a b c = omega arith

    least_second : (a b c : ℕ) → min (min a b) c ≤ b
    least_second a b c = omega arith

    least_third : (a b c : ℕ) → min (min a b) c ≤ c
    least_third a b c = omega arith
