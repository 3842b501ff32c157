-- The oldest age by one division.
use Rattle.std.specs.Prelude.{◌≡◌, ℕ, ◌+◌, ◌-◌, ◌*◌, ◌/◌, ◌^◌, ◌≤◌, ◌<◌}
use Rattle.std.proofs.Common.{arith, ap, sym, ◌∙◌}
use Rattle.std.proofs.Math.Nat.{mul_comm, mul-add, mul-div-le, mul-le-mul_right}
use Rattle.std.proofs.lemmas.Nat.{le-div}
use Rattle.sd_num.specs.declared.Rates.{Rates}
use Rattle.sd_plan.specs.topo.Limits.{IsRates}
use Rattle.sd_drill.specs.ages.Ages.{IsOldest, ageing}

-- a million times x is ppm times x and what is left
parts : (ppm left x : ℕ) → left + ppm ≡ 1000000 → x * left + ppm * x ≡ 1000000 * x
parts ppm left x whole = ap (λ n. x * left + n) (mul_comm ppm x) ∙ sym (mul-add x left ppm) ∙ ap (λ n. x * n) whole ∙ mul_comm x 1000000

-- an advance whose part fits
fits : (x s grain grown rest : ℕ) → rest + grown ≡ 1000000 * x → rest ≤ 1000000 * (s + grain + 1) - 1 → x - (grown + 999999) / 1000000 - grain ≤ s
fits x s grain grown rest whole most = omega (arith, whole, most)

-- and the other way round
fitted : (x s grain grown rest : ℕ) → rest + grown ≡ 1000000 * x → x - (grown + 999999) / 1000000 - grain ≤ s → rest ≤ 1000000 * (s + grain + 1) - 1
fitted x s grain grown rest whole least = omega (arith, whole, least)

left_over : (ppm : ℕ) → ppm ≤ 100000 → 1000000 - ppm + ppm ≡ 1000000
left_over ppm small = omega (arith, small)

-- the greatest whole part is the oldest age
pub oldest_is : (rates : Rates) (s : ℕ) → IsRates rates → IsOldest rates s ((1000000 * (s + rates.grain + 1) - 1) / (1000000 - rates.ppm))
oldest_is rates s is =
    let left = 1000000 - rates.ppm in
    let most = 1000000 * (s + rates.grain + 1) - 1 in
    let whole : left + rates.ppm ≡ 1000000 = left_over rates.ppm is.0 in
    let some : 0 < left = omega (arith, is.0) in
    let reached : most / left * left ≤ most = omega (arith, mul-div-le most left, mul_comm left (most / left)) in
    record {
      within = fits (most / left) s rates.grain (rates.ppm * (most / left)) (most / left * left) (parts rates.ppm left (most / left) whole) reached;
      greatest = λ y least. le-div y most left some (fitted y s rates.grain (rates.ppm * y) (y * left) (parts rates.ppm left y whole) least);
    }

-- nothing is older than twice the time and a grain
halved : (most left q : ℕ) → 900000 ≤ left → q * left ≤ most → q * 900000 ≤ most
halved most left q large whole = omega (arith, whole, mul-le-mul_right q large, mul_comm q left, mul_comm q 900000)

pub oldest_bound : (rates : Rates) (s : ℕ) → IsRates rates → (1000000 * (s + rates.grain + 1) - 1) / (1000000 - rates.ppm) ≤ 2 * s + 2 ^ 42
oldest_bound rates s is =
    let left = 1000000 - rates.ppm in
    let most = 1000000 * (s + rates.grain + 1) - 1 in
    let large : 900000 ≤ left = omega (arith, is.0) in
    let reached : most / left * left ≤ most = omega (arith, mul-div-le most left, mul_comm left (most / left)) in
    let tenth : most / left * 900000 ≤ most = halved most left (most / left) large reached in
    omega (arith, tenth, is.1)

-- an estimate at most doubles
pub ageing_bound : (rates : Rates) (x : ℕ) → IsRates rates → ageing rates x ≤ x + 2 ^ 41
ageing_bound rates x is =
    let product : rates.ppm * x ≤ 100000 * x = mul-le-mul_right x is.0 in
    omega (arith, product, is.1)
