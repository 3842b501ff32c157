-- What two honest readings of one counter say of reference time: at least Low of what the counter showed, and at most Up of it. Arithmetic alone.
use Rattle.std.specs.Prelude.{◌≡◌, ℕ, ◌+◌, ◌-◌, ◌*◌, ◌/◌, ◌<◌, ◌≤◌, IsTrue}
use Rattle.std.proofs.Common.{arith}
use Rattle.std.proofs.Math.Nat.{mul-le-mul_right, mul-le-mul_left}
use Rattle.sd_num.specs.Numbers.{grow, low, up, keeps_rate}
use Rattle.sd_num.specs.declared.Rates.{Rates}
use Rattle.sd_num.proofs.Drift.{at_most_up, at_least_low}
use Rattle.sd_num.proofs.Shared.{ceiling_rises}

slower : (a b k : ℕ) → b ≤ 1000000 * k → (a + b + 999999) / 1000000 ≤ (a + 999999) / 1000000 + k
slower a b k le = omega (arith, le)

product_of_sum : (p x k : ℕ) → p * (x + k) ≡ p * x + p * k
product_of_sum p x k = omega arith

-- an uncertainty grows by no more than the counter advances
grow_more : (ppm x k : ℕ) → ppm ≤ 1000000 → grow ppm (x + k) ≤ grow ppm x + k
grow_more ppm x k le =
    let product : ppm * k ≤ 1000000 * k = mul-le-mul_right k le in
    rw (product_of_sum ppm x k) (slower (ppm * x) (ppm * k) k product)

pub grow_rises : (ppm x e : ℕ) → x ≤ e → grow ppm x ≤ grow ppm e
grow_rises ppm x e le = ceiling_rises (ppm * x) (ppm * e) (mul-le-mul_left ppm le)

low_numbers : (x k gx gxk g : ℕ) → gxk ≤ gx + k → x - gx - g ≤ x + k - gxk - g
low_numbers x k gx gxk g le = omega (arith, le)

split_sum : (x e : ℕ) → x ≤ e → x + (e - x) ≡ e
split_sum x e le = omega (arith, le)

-- Low does not fall, where the rate is at most one whole
pub low_rises : (rates : Rates) (x e : ℕ) → rates.ppm ≤ 1000000 → x ≤ e → low rates x ≤ low rates e
low_rises rates x e ppm le =
    rw (split_sum x e le) at (low_numbers x (e - x) (grow rates.ppm x) (grow rates.ppm (x + (e - x))) rates.grain (grow_more rates.ppm x (e - x) ppm))

-- Up rises strictly
pub up_rises : (rates : Rates) (x e : ℕ) → x < e → up rates x < up rates e
up_rises rates x e lt = let g : grow rates.ppm x ≤ grow rates.ppm e = grow_rises rates.ppm x e (omega (arith, lt)) in omega (arith, lt, g)

-- timer low: where the counter advanced by X or more, at least Low(X) passed
pub timer_low : (rates : Rates) (x e s : ℕ) → rates.ppm ≤ 1000000 → IsTrue (keeps_rate rates e s) → x ≤ e → low rates x ≤ s
timer_low rates x e s ppm keeps le =
    let rises : low rates x ≤ low rates e = low_rises rates x e ppm le in
    let least : low rates e ≤ s = at_least_low rates e s keeps in
    omega (arith, rises, least)

-- where it advanced by less than X, less than Up(X) passed
pub timer_short : (rates : Rates) (x e s : ℕ) → IsTrue (keeps_rate rates e s) → e < x → s < up rates x
timer_short rates x e s keeps lt =
    let rises : up rates e < up rates x = up_rises rates e x lt in
    let most : s ≤ up rates e = at_most_up rates e s keeps in
    omega (arith, rises, most)
