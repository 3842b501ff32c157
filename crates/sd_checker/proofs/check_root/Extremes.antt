-- The least and the greatest reference time, a device at a time.
use Rattle.std.proofs.Common.{◌≡◌, ℕ, ◌+◌, ◌*◌, ◌/◌, ◌^◌, ◌<◌, ◌≤◌, List, [], ◌∷◌, ◌++◌, length, map, take, get_or, min, max, refl, sym, ap, ◌∙◌, arith}
use Rattle.std.proofs.lemmas.List.{map_more, length-map, length-take-le}
use Rattle.std.proofs.Math.Nat.{mul-le-mul_right}
use Rattle.sd_num.specs.Lists.{least, greatest}
use Rattle.sd_num.specs.Numbers.{low, up}
use Rattle.sd_plan.specs.topo.Network.{Network, rates_of, no_rates}
use Rattle.sd_plan.specs.topo.Limits.{IsNetwork, IsRates}
use Rattle.sd_plan.specs.topo.Places.{no_device}
use Rattle.sd_plan.proofs.topo.Laws.{found_at, rates_law}

-- one more number
least_push : (x y : ℕ) (xs : List ℕ) → least (x ∷ (xs ++ y ∷ [])) ≡ min (least (x ∷ xs)) y
least_push x y [] = refl
least_push x y (z ∷ zs) = ap (min x) (least_push z y zs) ∙ omega arith

least_end : (y : ℕ) (xs : List ℕ) → 1 ≤ length xs → least (xs ++ y ∷ []) ≡ min (least xs) y
least_end y [] some = absurd (omega arith)
least_end y (x ∷ xs) some = least_push x y xs

greatest_push : (y : ℕ) (xs : List ℕ) → greatest (xs ++ y ∷ []) ≡ max (greatest xs) y
greatest_push y [] = omega arith
greatest_push y (x ∷ xs) = ap (max x) (greatest_push y xs) ∙ omega arith

-- the reference times of the first devices
abbrev pub lows : Network → ℕ → ℕ → List ℕ
lows net x k = map (λ device. low device.rates x) (take k net.devices)

abbrev pub ups : Network → ℕ → ℕ → List ℕ
ups net x k = map (λ device. up device.rates x) (take k net.devices)

counted : (net : Network) (x k : ℕ) → k < length net.devices → 1 ≤ k → 1 ≤ length (lows net x k)
counted net x k within some = omega (arith, length-map (take k net.devices) (λ device. low device.rates x), length-take-le k net.devices (omega arith))

pub least_more : (net : Network) (x k : ℕ) → 1 ≤ k → k < length net.devices → least (lows net x (k + 1)) ≡ min (least (lows net x k)) (low (rates_of net k) x)
least_more net x k some within =
    ap least (map_more (λ device. low device.rates x) net.devices k no_device within)
    ∙ least_end (low (get_or net.devices k no_device).rates x) (lows net x k) (counted net x k within some)
    ∙ ap (λ r. min (least (lows net x k)) (low r x)) (sym (found_at net.devices k no_device no_rates (λ device. device.rates) within))

pub greatest_more : (net : Network) (x k : ℕ) → k < length net.devices → greatest (ups net x (k + 1)) ≡ max (greatest (ups net x k)) (up (rates_of net k) x)
greatest_more net x k within =
    ap greatest (map_more (λ device. up device.rates x) net.devices k no_device within)
    ∙ greatest_push (up (get_or net.devices k no_device).rates x) (ups net x k)
    ∙ ap (λ r. max (greatest (ups net x k)) (up r x)) (sym (found_at net.devices k no_device no_rates (λ device. device.rates) within))

grown : (ppm x : ℕ) → ppm * x ≤ 1000000 * x → (ppm * x + 999999) / 1000000 ≤ x + 1
grown ppm x less = omega (arith, less)

-- the greatest reference time is less than twice the counter time and what a grain may be
pub up_bound : (net : Network) (x k : ℕ) → IsNetwork net → k < length net.devices → up (rates_of net k) x ≤ 2 * x + 2 ^ 40
up_bound net x k law within =
    let rates : IsRates (rates_of net k) = rates_law net k law within in
    let product : (rates_of net k).ppm * x ≤ 1000000 * x = mul-le-mul_right x (omega (arith, rates.0)) in
    omega (arith, grown (rates_of net k).ppm x product, rates.1)
