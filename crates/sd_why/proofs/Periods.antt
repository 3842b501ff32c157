-- The least time of a period, a device at a time.
use Rattle.std.proofs.Common.{◌≡◌, ℕ, zero, suc, ◌<◌, ◌≤◌, List, [], ◌∷◌, length, map, Some, refl, sym, ap, ◌∙◌, subst, arith, slice_get}
use Rattle.std.proofs.lemmas.List.{length-map}
use Rattle.std.proofs.lemmas.Option.{same_Some, slice_get-get_or, slice_get-map, slice_get_within}
use Rattle.std.specs.Prelude.{option_map}
use Rattle.sd_num.specs.Lists.{least}
use Rattle.sd_num.specs.Numbers.{low}
use Rattle.sd_plan.specs.topo.Network.{Device, Network, least_low, no_rates, rates_of}
use Rattle.sd_plan.specs.topo.Limits.{IsNetwork}
use Rattle.sd_plan.specs.topo.Places.{no_device}
use Rattle.sd_plan.proofs.topo.Laws.{found_at}

-- the least is at most each
least_at_most : (xs : List ℕ) (i x : ℕ) → slice_get xs i ≡ Some x → least xs ≤ x
least_at_most [] i x at = cc
least_at_most (y ∷ []) zero x at = (let same = same_Some y x at in omega arith)
least_at_most (y ∷ []) (suc i) x at = cc
least_at_most (y ∷ z ∷ zs) zero x at = (let same = same_Some y x at in omega arith)
least_at_most (y ∷ z ∷ zs) (suc i) x at = (let rest = least_at_most (z ∷ zs) i x at in omega (arith, rest))

-- where all are above a bound, so is the least
least_above : (bound : ℕ) (xs : List ℕ) → 1 ≤ length xs → ((i x : ℕ) → slice_get xs i ≡ Some x → bound < x) → bound < least xs
least_above bound [] some each = absurd (omega arith)
least_above bound (y ∷ []) some each = each 0 y refl
least_above bound (y ∷ z ∷ zs) some each =
    let first = each 0 y refl in
    let rest = least_above bound (z ∷ zs) (omega arith) (λ i x at. each (suc i) x at) in
    omega (arith, first, rest)

module _ (net : Network) (x : ℕ) where
  abbrev lows : List ℕ
  lows = map (λ device. low device.rates x) net.devices

  low_at : (d : ℕ) → d < length net.devices → slice_get lows d ≡ Some (low (rates_of net d) x)
  low_at d within =
      slice_get-map (λ (device : Device). low device.rates x) net.devices d
      ∙ ap (option_map (λ (device : Device). low device.rates x)) (slice_get-get_or net.devices d no_device within)
      ∙ ap (λ r. Some (low r x)) (sym (found_at net.devices d no_device no_rates (λ device. device.rates) within))

  -- no device needs less than the least time
  pub low_least : (d : ℕ) → d < length net.devices → least_low net x ≤ low (rates_of net d) x
  low_least d within = least_at_most lows d (low (rates_of net d) x) (low_at d within)

  -- where each needs more than a bound, the least time is more
  pub lows_above : (bound : ℕ) → IsNetwork net → ((d : ℕ) → d < length net.devices → bound < low (rates_of net d) x) → bound < least_low net x
  lows_above bound law each =
      least_above bound lows (omega (arith, law.devices, length-map net.devices (λ (device : Device). low device.rates x))) (λ d y at.
      let within : d < length net.devices = omega (arith, slice_get_within lows d y at, length-map net.devices (λ (device : Device). low device.rates x)) in
      let same = same_Some (low (rates_of net d) x) y (sym (low_at d within) ∙ at) in
      subst (λ n. bound < n) same (each d within))
