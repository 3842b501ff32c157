-- The advance lemma: an estimate that is moved on by a time over which its uncertainty grew by whole picoseconds reports the same ever after.
use Rattle.std.specs.Prelude.{◌≡◌, ℕ, ◌+◌, ◌-◌, ◌*◌, ◌/◌, ◌≤◌}
use Rattle.std.proofs.Common.{refl, arith}
use Rattle.sd_num.specs.Numbers.{grow}
use Rattle.sd_num.specs.declared.Rates.{Rates}
use Rattle.sd_num.specs.declared.clock.Estimate.{Estimate}
use Rattle.sd_num.specs.declared.clock.Report.{Report}
use Rattle.sd_num.specs.clock.Estimates.{report_of}
use Rattle.sd_num.specs.clock.Advances.{moved_on, microseconds_to, advanced}

-- the growth over both parts of a time is that over the first, which is whole, and that over the second
grow_on : (ppm first second growth : ℕ) → ppm * first ≡ 1000000 * growth → grow ppm (first + second) ≡ growth + grow ppm second
grow_on ppm first second growth whole =
    let parts : ppm * (first + second) ≡ ppm * first + ppm * second = grind arith in
    rounded (ppm * (first + second)) (ppm * first) (ppm * second) growth parts whole
  where
    rounded : (all p q g : ℕ) → all ≡ p + q → p ≡ 1000000 * g → (all + 999999) / 1000000 ≡ g + (q + 999999) / 1000000
    rounded all p q g parts whole = omega (arith, parts, whole)

report_same : (clock other_clock eps other_eps : ℕ) → clock ≡ other_clock → eps ≡ other_eps
    → ◌≡◌ {A = Report} (record { clock = clock; eps = eps }) (record { clock = other_clock; eps = other_eps })
report_same clock other_clock eps other_eps a b = rw (a, b) refl

pub advance_reports : (rates : Rates) (estimate : Estimate) (elapsed growth counter : ℕ) → rates.ppm * elapsed ≡ 1000000 * growth
    → estimate.at + elapsed ≤ counter → report_of rates (moved_on estimate elapsed growth) counter ≡ report_of rates estimate counter
advance_reports rates estimate elapsed growth counter whole due =
    let rest : ℕ = counter - (estimate.at + elapsed) in
    let split : counter - estimate.at ≡ elapsed + rest = omega (arith, due) in
    let grown : grow rates.ppm (counter - estimate.at) ≡ growth + grow rates.ppm rest =
    rw split (grow_on rates.ppm elapsed rest growth whole) in
    report_same (estimate.clock + elapsed + rest) (estimate.clock + (counter - estimate.at))
    (estimate.base + growth + rates.grain + grow rates.ppm rest) (estimate.base + rates.grain + grow rates.ppm (counter - estimate.at))
    (omega (arith, split))
    (eps estimate.base growth rates.grain (grow rates.ppm rest) (grow rates.ppm (counter - estimate.at)) grown)
  where
    eps : (b g grain later all : ℕ) → all ≡ g + later → b + g + grain + later ≡ b + grain + all
    eps b g grain later all grown = omega (arith, grown)

-- whole microseconds are such a time
pub advanced_reports : (rates : Rates) (estimate : Estimate) (now counter : ℕ) → estimate.at ≤ now → now ≤ counter
    → report_of rates (advanced rates estimate now) counter ≡ report_of rates estimate counter
advanced_reports rates estimate now counter set later =
    advance_reports rates estimate (1000000 * microseconds_to estimate now) (rates.ppm * microseconds_to estimate now) counter
    (grind arith) (within now estimate.at counter set later)
  where
    within : (now at counter : ℕ) → at ≤ now → now ≤ counter → at + 1000000 * ((now - at) / 1000000) ≤ counter
    within now at counter set later = omega (arith, set, later)
