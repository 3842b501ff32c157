-- The least wait of one counter and of all.
use Rattle.std.proofs.Common.{◌≡◌, ℕ, zero, suc, ◌+◌, ◌-◌, ◌*◌, ◌/◌, ◌^◌, ◌<◌, ◌≤◌, List, [], ◌∷◌, length, map, max, get_or, slice_get, Some, refl, sym, ap, subst, arith, inl, inr}
use Rattle.std.proofs.lemmas.Bool.{cases_lt}
use Rattle.std.proofs.lemmas.Option.{same_Some, slice_get_within, slice_get-get_or}
use Rattle.std.proofs.lemmas.Nat.{le-div, div_below}
use Rattle.std.proofs.Math.Nat.{mul-le-mul_right, mul-le-mul_left}
use Rattle.sd_num.specs.Lists.{least, map_or}
use Rattle.sd_num.specs.Numbers.{low, grow}
use Rattle.sd_num.specs.declared.Rates.{Rates}
use Rattle.sd_plan.specs.topo.Network.{Network, Device, rates_of, no_rates}
use Rattle.sd_plan.specs.topo.Limits.{IsNetwork, IsRates}
use Rattle.sd_plan.specs.topo.Places.{no_device}
use Rattle.sd_planner.specs.Greedy.{IsLeastWait}

-- a number divided and rounded up
abbrev pub up_by : ℕ → ℕ → ℕ
up_by needed left = (needed + (left - 1)) / left

-- is enough
enough_by : (needed left : ℕ) → 1 ≤ left → needed ≤ up_by needed left * left
enough_by needed left some = elim (cases_lt (up_by needed left * left) needed) [
  | inl less ↦
      (let r = up_by needed left in
      let grown : (r + 1) * left ≡ r * left + left = grind arith in
      let more : r + 1 ≤ r = le-div (r + 1) (needed + (left - 1)) left some (omega (arith, less, grown)) in
      absurd (omega arith))
  | inr there ↦ there
]

-- and no more than enough
no_more : (needed left x : ℕ) → 1 ≤ left → needed ≤ x * left → up_by needed left ≤ x
no_more needed left x some there =
    let grown : (x + 1) * left ≡ x * left + left = grind arith in
    let less : up_by needed left < x + 1 = div_below (needed + (left - 1)) left (x + 1) some (omega (arith, there, grown)) in
    omega (arith, less)

-- what grows
grow_least : (ppm x : ℕ) → ppm * x ≤ grow ppm x * 1000000
grow_least ppm x = omega arith

grow_most : (ppm x : ℕ) → grow ppm x * 1000000 ≤ ppm * x + 999999
grow_most ppm x = omega arith

parts : (ppm x : ℕ) → ppm ≤ 100000 → x * (1000000 - ppm) + ppm * x ≡ x * 1000000
parts ppm x law = grind arith

by_numbers : (long grain x p l g : ℕ) → (long + grain) * 1000000 ≤ l → l + p ≡ x * 1000000 → g * 1000000 ≤ p + 999999 → long ≤ x - g - grain
by_numbers long grain x p l g one split most = omega (arith, one, split, most)

back : (long grain x p l g : ℕ) → 1 ≤ long → long ≤ x - g - grain → l + p ≡ x * 1000000 → p ≤ g * 1000000 → (long + grain) * 1000000 ≤ l
back long grain x p l g some there split fewest = omega (arith, some, there, split, fewest)

pub wait_enough : (rates : Rates) (long x : ℕ) → IsRates rates → up_by ((long + rates.grain) * 1000000) (1000000 - rates.ppm) ≤ x → long ≤ low rates x
wait_enough rates long x law wait =
    let left = 1000000 - rates.ppm in
    let needed = (long + rates.grain) * 1000000 in
    let one : needed ≤ up_by needed left * left = enough_by needed left (omega (arith, law.0)) in
    let times : up_by needed left * left ≤ x * left = mul-le-mul_right left wait in
    let split : x * left + rates.ppm * x ≡ x * 1000000 = parts rates.ppm x law.0 in
    by_numbers long rates.grain x (rates.ppm * x) (x * left) (grow rates.ppm x) (omega (arith, one, times)) split (grow_most rates.ppm x)

pub wait_least : (rates : Rates) (long x : ℕ) → IsRates rates → 1 ≤ long → long ≤ low rates x → up_by ((long + rates.grain) * 1000000) (1000000 - rates.ppm) ≤ x
wait_least rates long x law some there =
    let left = 1000000 - rates.ppm in
    let split : x * left + rates.ppm * x ≡ x * 1000000 = parts rates.ppm x law.0 in
    no_more ((long + rates.grain) * 1000000) left x (omega (arith, law.0))
    (back long rates.grain x (rates.ppm * x) (x * left) (grow rates.ppm x) some there split (grow_least rates.ppm x))

pub wait_bound : (rates : Rates) (long : ℕ) → IsRates rates → up_by ((long + rates.grain) * 1000000) (1000000 - rates.ppm) ≤ 2 * (long + 2 ^ 40)
wait_bound rates long law =
    let left = 1000000 - rates.ppm in
    let twice : 2 * (long + 2 ^ 40) * 900000 ≤ 2 * (long + 2 ^ 40) * left = mul-le-mul_left (2 * (long + 2 ^ 40)) (omega (arith, law.0)) in
    no_more ((long + rates.grain) * 1000000) left (2 * (long + 2 ^ 40)) (omega (arith, law.0)) (omega (arith, twice, law.1))

-- all devices together
pub low_of_all : (devices : List Device) (long x : ℕ) → 1 ≤ length devices → ((k : ℕ) (v : Device) → slice_get devices k ≡ Some v → long ≤ low v.rates x)
    → long ≤ least (map (λ device. low device.rates x) devices)
low_of_all [] long x some each = absurd (omega arith)
low_of_all (v ∷ []) long x some each = each 0 v refl
low_of_all (v ∷ w ∷ ws) long x some each = omega (arith, each 0 v refl, low_of_all (w ∷ ws) long x (omega arith) (λ k u at. each (suc k) u at))

pub all_of_low : (devices : List Device) (long x : ℕ) → long ≤ least (map (λ device. low device.rates x) devices) → (k : ℕ) (v : Device)
    → slice_get devices k ≡ Some v → long ≤ low v.rates x
all_of_low [] long x there k v at = cc
all_of_low (v ∷ []) long x there zero u at = subst (λ (w : Device). long ≤ low w.rates x) (same_Some v u at) there
all_of_low (v ∷ []) long x there (suc k) u at = cc
all_of_low (v ∷ w ∷ ws) long x there zero u at = subst (λ (y : Device). long ≤ low y.rates x) (same_Some v u at) (omega (arith, there))
all_of_low (v ∷ w ∷ ws) long x there (suc k) u at = all_of_low (w ∷ ws) long x (omega (arith, there)) k u at

-- the least wait of the first devices
pub record IsLeastOf (net : Network) (long count wait : ℕ) : Type 0 where
  pub enough : (x : ℕ) → wait ≤ x → (k : ℕ) → k < count → long ≤ low (rates_of net k) x
  pub least : (x : ℕ) → ((k : ℕ) → k < count → long ≤ low (rates_of net k) x) → wait ≤ x
  pub bound : wait ≤ 2 * (long + 2 ^ 40)

pub least_more : (net : Network) (long count wait more : ℕ) → IsLeastOf net long count wait → ((x : ℕ) → more ≤ x → long ≤ low (rates_of net count) x)
    → ((x : ℕ) → long ≤ low (rates_of net count) x → more ≤ x)
    → more ≤ 2 * (long + 2 ^ 40) → IsLeastOf net long (count + 1) (max wait more)
least_more net long count wait more so_far enough fewest bound =
    record {
      enough = λ x there k within. elim (cases_lt k count) [
        | inl before ↦ so_far.enough x (omega (arith, there)) k before
        | inr last ↦ (let same : count ≡ k = omega arith in subst (λ j. long ≤ low (rates_of net j) x) same (enough x (omega (arith, there))))
      ];
      least = λ x each. (let one = so_far.least x (λ k within. each k (omega arith)) in let two = fewest x (each count (omega arith)) in
          omega (arith, one, two));
      bound = omega (arith, so_far.bound, bound);
    }

pub least_is : (net : Network) (long wait : ℕ) → IsNetwork net → IsLeastOf net long (length net.devices) wait → IsLeastWait net long wait
least_is net long wait law all =
    record {
      enough =
          low_of_all net.devices long wait law.devices.0
          (λ k v at. subst (λ (r : Rates). long ≤ low r wait) (ap (λ o. map_or o no_rates (λ device. device.rates)) at)
          (all.enough wait (omega arith) k (slice_get_within net.devices k v at)));
      least = λ y there. all.least y (λ k within.
          (let d = get_or net.devices k no_device in
          let at : slice_get net.devices k ≡ Some d = slice_get-get_or net.devices k no_device within in
          subst (λ (r : Rates). long ≤ low r y) (sym (ap (λ o. map_or o no_rates (λ device. device.rates)) at)) (all_of_low net.devices long y there k d at)));
    }
