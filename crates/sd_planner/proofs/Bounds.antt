-- How great the waits can be.
use Rattle.std.proofs.Common.{◌≡◌, ℕ, suc, ◌+◌, ◌*◌, ◌^◌, ◌≤◌, List, [], ◌∷◌, length, map, flat_map, slice_get, Some, refl, arith}
use Rattle.std.proofs.Math.Nat.{mul-le-mul_right}
use Rattle.sd_num.specs.Lists.{greatest}
use Rattle.sd_num.specs.Numbers.{up, grow}
use Rattle.sd_plan.specs.topo.Network.{Network, Device, Link, greatest_up, greatest_delay}
use Rattle.sd_plan.specs.topo.Limits.{IsNetwork, IsRates, IsLink}
use Rattle.sd_checker.specs.check_root.Timing.{round_gap, silence}

grown : (ppm x : ℕ) → ppm * x ≤ 1000000 * x → grow ppm x ≤ x + 1
grown ppm x less = omega (arith, less)

ups_bound : (devices : List Device) (x : ℕ) → ((k : ℕ) (v : Device) → slice_get devices k ≡ Some v → IsRates v.rates)
    → greatest (map (λ device. up device.rates x) devices) ≤ 2 * x + 2 ^ 40
ups_bound [] x each = omega arith
ups_bound (v ∷ vs) x each =
    let rates : IsRates v.rates = each 0 v refl in
    let product : v.rates.ppm * x ≤ 1000000 * x = mul-le-mul_right x (omega (arith, rates.0)) in
    let rest = ups_bound vs x (λ k u at. each (suc k) u at) in
    omega (arith, grown v.rates.ppm x product, rates.1, rest)

delays_bound : (links : List Link) (n : ℕ) → ((k : ℕ) (v : Link) → slice_get links k ≡ Some v → IsLink n v.entry)
    → greatest (flat_map (λ link. link.entry.max ∷ link.entry.back_max ∷ []) links) ≤ 10 ^ 12
delays_bound [] n each = omega arith
delays_bound (v ∷ vs) n each =
    let law : IsLink n v.entry = each 0 v refl in
    let rest = delays_bound vs n (λ k u at. each (suc k) u at) in
    omega (arith, law.bounds.1, law.back_bounds.1, rest)

by_numbers : (lost gap four delay tick : ℕ) → lost ≤ 102 * gap → four ≤ 260 * delay → gap ≤ 2 * 10 ^ 12 + 2 ^ 40 + 10 ^ 12 → delay ≤ 10 ^ 12 → tick ≤ 10 ^ 12
    → lost + four + tick ≤ 2 ^ 50
by_numbers lost gap four delay tick one two three four_bound five = omega (arith, one, two, three, four_bound, five)

-- the silence and a tick
pub silence_bound : (net : Network) → IsNetwork net → silence net + net.params.tick ≤ 2 ^ 50
silence_bound net law =
    let ups : greatest_up net net.params.period ≤ 2 * net.params.period + 2 ^ 40 = ups_bound net.devices net.params.period law.each_device in
    let gap : round_gap net ≤ 2 * 10 ^ 12 + 2 ^ 40 + 10 ^ 12 = omega (arith, ups, law.period.1, law.tick.1) in
    by_numbers ((net.params.loss + 2) * round_gap net) (round_gap net) (4 * (net.params.depth + 1) * greatest_delay net) (greatest_delay net) net.params.tick
    (mul-le-mul_right (round_gap net) (omega (arith, law.loss))) (mul-le-mul_right (greatest_delay net) (omega (arith, law.depth.1))) gap
    (delays_bound net.links (length net.devices) law.each_link) law.tick.1
