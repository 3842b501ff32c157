-- What any device of a network keeps: Low of the network is at most the Low of each of its devices, and Up at least its Up. By induction on the list of
-- devices. And no rate is above one whole.
use Rattle.std.specs.Prelude.{◌≡◌, ℕ, zero, suc, ◌<◌, ◌≤◌, List, [], ◌∷◌, length, map, slice_get, Option, Some, None, refl}
use Rattle.std.proofs.Common.{arith, sym, ap, subst}
use Rattle.sd_num.specs.Lists.{map_or, at_place, least, greatest}
use Rattle.sd_num.specs.Numbers.{low, up}
use Rattle.sd_plan.specs.topo.Network.{Network, Device, rates_of, no_rates, least_low, greatest_up}
use Rattle.sd_plan.specs.topo.Limits.{IsNetwork}
use Rattle.sd_history.proofs.Given.{some_is}

least_below : {A : Type 0} (f : A → ℕ) (xs : List A) (i : ℕ) (x : A) → slice_get xs i ≡ Some x → least (map f xs) ≤ f x
least_below f [] i x same = cc
least_below f (y ∷ []) zero x same = let is : f y ≡ f x = ap f (some_is same) in omega (arith, is)
least_below f (y ∷ []) (suc i) x same = cc
least_below f (y ∷ z ∷ zs) zero x same = let is : f y ≡ f x = ap f (some_is same) in omega (arith, is)
least_below f (y ∷ z ∷ zs) (suc i) x same = let rest : least (map f (z ∷ zs)) ≤ f x = least_below f (z ∷ zs) i x same in omega (arith, rest)

greatest_above : {A : Type 0} (f : A → ℕ) (xs : List A) (i : ℕ) (x : A) → slice_get xs i ≡ Some x → f x ≤ greatest (map f xs)
greatest_above f [] i x same = cc
greatest_above f (y ∷ ys) zero x same = let is : f y ≡ f x = ap f (some_is same) in omega (arith, is)
greatest_above f (y ∷ ys) (suc i) x same = let rest : f x ≤ greatest (map f ys) = greatest_above f ys i x same in omega (arith, rest)

-- a number below the length is a place
pub there : {A : Type 0} (xs : List A) (i : ℕ) → i < length xs → (x : A) × (slice_get xs i ≡ Some x)
there [] i lt = absurd (omega (arith, lt))
there (x ∷ xs) zero lt = (x, refl)
there (x ∷ xs) (suc i) lt = there xs i (omega (arith, lt))

placed : {A B : Type 0} (xs : List A) (i : ℕ) (x : A) (default : B) (f : A → B) → slice_get xs i ≡ Some x → at_place xs i default f ≡ f x
placed xs i x default f same = ap (λ o. map_or o default f) same

-- Low of the network is no more than that of the device
pub least_is_low : (net : Network) (d x : ℕ) → d < length net.devices → least_low net x ≤ low (rates_of net d) x
least_is_low net d x lt =
    let device : (y : Device) × (slice_get net.devices d ≡ Some y) = there net.devices d lt in
    subst (λ rates. least_low net x ≤ low rates x) (sym (placed net.devices d device.0 no_rates (λ y. y.rates) device.1))
    (least_below (λ y. low y.rates x) net.devices d device.0 device.1)

-- Up of the device is no more than that of the network
pub up_is_within : (net : Network) (d x : ℕ) → d < length net.devices → up (rates_of net d) x ≤ greatest_up net x
up_is_within net d x lt =
    let device : (y : Device) × (slice_get net.devices d ≡ Some y) = there net.devices d lt in
    subst (λ rates. up rates x ≤ greatest_up net x) (sym (placed net.devices d device.0 no_rates (λ y. y.rates) device.1))
    (greatest_above (λ y. up y.rates x) net.devices d device.0 device.1)

-- no device's rate is above one whole
pub rate_is_low : (net : Network) (d : ℕ) → IsNetwork net → (rates_of net d).ppm ≤ 1000000
rate_is_low net d is = by_place (slice_get net.devices d) refl
  where
    by_place : (o : Option Device) → slice_get net.devices d ≡ o → (map_or o no_rates (λ y. y.rates)).ppm ≤ 1000000
    by_place None same = omega arith
    by_place (Some y) same = let within : y.rates.ppm ≤ 100000 = (is.each_device d y same).0 in omega (arith, within)
