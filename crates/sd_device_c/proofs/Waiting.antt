-- The wait of a port.
use Rattle.std.specs.Prelude.{◌≡◌, ℕ, ◌+◌, ◌-◌, ◌*◌, ◌/◌, ◌≤◌, ◌<◌, ◌↔◌}
use Rattle.std.proofs.Common.{arith}
use Rattle.std.proofs.Math.Nat.{mul-sub, mul-le-mul_right, mul_comm, add-mul, one-mul, le_trans, lt_of_mul-lt-mul_right}
use Rattle.std.proofs.lemmas.Grind.{div_ceil_times}
use Rattle.std.specs.Int.{div_ceil}
use Rattle.sd_num.specs.declared.Rates.{Rates}
use Rattle.sd_num.specs.Numbers.{grow}
use Rattle.sd_device_c.specs.Ports.{IsWait}

-- a multiple that is below the next one
of_next : (q x d a : ℕ) → q * d < a + d → a ≤ x * d → 0 < d → q ≤ x
of_next q x d a below small d_pos =
    let next : q * d < (x + 1) * d = omega (arith, below, small, add-mul x 1 d, one-mul d) in
    let less : q < x + 1 = lt_of_mul-lt-mul_right d next in
    omega (arith, less)

-- the quotient, rounded up, is the least whose multiple is no less
ceil_least : (a d x : ℕ) → 0 < d → (div_ceil a d ≤ x) ↔ (a ≤ x * d)
ceil_least a d x d_pos =
    let bounds = div_ceil_times a d d_pos in (
      λ small. le_trans bounds.0 (mul-le-mul_right d small),
      λ small. of_next (div_ceil a d) x d a bounds.1 small d_pos,
    )

-- what grows is the rest of the advance
parts : (ppm x : ℕ) → ppm ≤ 1000000 → x * (1000000 - ppm) + ppm * x ≡ 1000000 * x
parts ppm x small =
    let part : ppm * x ≤ 1000000 * x = mul-le-mul_right x small in
    omega (arith, part, mul-sub x 1000000 ppm, mul_comm x ppm, mul_comm x 1000000)

-- a growth that leaves at least this much
leaves : (least x p : ℕ) → 1 ≤ least → (least ≤ x - (p + 999999) / 1000000) ↔ (least * 1000000 + p ≤ 1000000 * x)
leaves least x p some = (λ left. omega (arith, left, some), λ left. omega (arith, left, some))

-- the same, less a grain
passes : (time grain x g : ℕ) → (time < x - g - grain) ↔ (time + grain + 1 ≤ x - g)
passes time grain x g = (λ h. omega (arith, h), λ h. omega (arith, h))

pub waits : (rates : Rates) (time : ℕ) → rates.ppm ≤ 100000
    → IsWait rates time (div_ceil ((time + rates.grain + 1) * 1000000) (1000000 - rates.ppm))
waits rates time small advance =
    let least = time + rates.grain + 1 in
    let rate = 1000000 - rates.ppm in
    let ceil = ceil_least (least * 1000000) rate advance (omega (arith, small)) in
    let whole = parts rates.ppm advance (omega (arith, small)) in
    let left = leaves least advance (rates.ppm * advance) (omega arith) in
    let pass = passes time rates.grain advance (grow rates.ppm advance) in (
      λ h. pass.1 (left.1 (omega (arith, ceil.0 h, whole))),
      λ h. ceil.1 (omega (arith, left.0 (pass.0 h), whole)),
    )
