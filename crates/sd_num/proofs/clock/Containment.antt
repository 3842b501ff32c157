-- An interval that holds the reference time goes on holding it: as a counter goes on that keeps its rates, and over a link that keeps its bounds.
use Rattle.std.specs.Prelude.{ℕ, ◌+◌, ◌-◌, ◌/◌, ◌≤◌, IsTrue, nat_le}
use Rattle.std.proofs.Common.{arith}
use Rattle.std.proofs.lemmas.Bool.{le-leb, and_from}
use Rattle.sd_num.specs.Numbers.{grow, low, up, distance, keeps_rate, correction}
use Rattle.sd_num.specs.declared.Rates.{Rates}
use Rattle.sd_num.proofs.Drift.{at_most_up, at_least_low}
use Rattle.sd_num.specs.declared.clock.Estimate.{Estimate}
use Rattle.sd_num.specs.declared.clock.Report.{Report}
use Rattle.sd_num.specs.clock.Estimates.{corrected, report_of, contains}

-- by numbers: the clock t is at most b off r0; from then on the counter goes on by e and the reference by s, at most w apart
goes_on : (t b r0 s e w : ℕ) → distance t r0 ≤ b → s ≤ e + w → e ≤ s + w → distance (t + e) (r0 + s) ≤ b + w
goes_on t b r0 s e w near fast slow = omega (arith, near, fast, slow)

apart : (e g q s : ℕ) → e - q - g ≤ s → e ≤ s + (g + q)
apart e g q s slow = omega (arith, slow)

regroup : (e g q s : ℕ) → s ≤ e + q + g → s ≤ e + (g + q)
regroup e g q s fast = omega (arith, fast)

-- the report at a later counter is as near the reference as it says
pub report_is_near : (rates : Rates) (estimate : Estimate) (r0 r counter : ℕ) → distance estimate.clock r0 ≤ estimate.base → r0 ≤ r
    → IsTrue (keeps_rate rates (counter - estimate.at) (r - r0)) → distance (report_of rates estimate counter).clock r ≤ (report_of rates estimate counter).eps
report_is_near rates estimate r0 r counter near later keeps =
    let fast : r - r0 ≤ up rates (counter - estimate.at) = at_most_up rates (counter - estimate.at) (r - r0) keeps in
    let slow : low rates (counter - estimate.at) ≤ r - r0 = at_least_low rates (counter - estimate.at) (r - r0) keeps in
    let sum : distance (estimate.clock + (counter - estimate.at)) (r0 + (r - r0)) ≤ estimate.base + (rates.grain + grow rates.ppm (counter - estimate.at)) =
    goes_on estimate.clock estimate.base r0 (r - r0) (counter - estimate.at) (rates.grain + grow rates.ppm (counter - estimate.at)) near
    (regroup (counter - estimate.at) rates.grain (grow rates.ppm (counter - estimate.at)) (r - r0) fast)
    (apart (counter - estimate.at) rates.grain (grow rates.ppm (counter - estimate.at)) (r - r0) slow) in
    finish estimate.clock (counter - estimate.at) r0 r estimate.base rates.grain (grow rates.ppm (counter - estimate.at)) later sum
  where
    finish : (t e r0 r b g q : ℕ) → r0 ≤ r → distance (t + e) (r0 + (r - r0)) ≤ b + (g + q) → distance (t + e) r ≤ b + g + q
    finish t e r0 r b g q later sum = omega (arith, later, sum)

-- the estimate after a message of an age within the bounds is as near the reference as it says
corrected_numbers : (t b r0 r min max : ℕ) → distance t r0 ≤ b → r0 ≤ r → min ≤ r - r0 → r - r0 ≤ max
    → distance (t + (min + max) / 2) r ≤ b + (max - (min + max) / 2)
corrected_numbers t b r0 r min max near later old young = omega (arith, near, later, old, young)

pub corrected_is_near : (sent : Report) (min max r0 r counter : ℕ) → distance sent.clock r0 ≤ sent.eps → r0 ≤ r → min ≤ r - r0 → r - r0 ≤ max
    → distance (corrected sent (correction min max) counter).clock r ≤ (corrected sent (correction min max) counter).base
corrected_is_near sent min max r0 r counter near later old young = corrected_numbers sent.clock sent.eps r0 r min max near later old young

below_sum : (t r b : ℕ) → distance t r ≤ b → (t ≤ r + b) × (r ≤ t + b)
below_sum t r b near = (omega (arith, near), omega (arith, near))

-- so its interval has the reference in it
pub near_is_contained : (report : Report) (r : ℕ) → distance report.clock r ≤ report.eps → IsTrue (contains report r)
near_is_contained report r near =
    let sides : (report.clock ≤ r + report.eps) × (r ≤ report.clock + report.eps) = below_sum report.clock r report.eps near in
    and_from (nat_le report.clock (r + report.eps)) (nat_le r (report.clock + report.eps)) (le-leb report.clock (r + report.eps) sides.0)
    (le-leb r (report.clock + report.eps) sides.1)
