-- Less drift, narrower delays and fewer losses: each of these numbers of a topology falls, and what passes at least rises.
use Rattle.std.specs.Prelude.{◌≡◌, ℕ, ◌+◌, ◌*◌, ◌/◌, ◌≤◌, List, [], ◌∷◌, map, flat_map}
use Rattle.std.specs.List.{AllZip}
use Rattle.std.proofs.Common.{arith, ap}
use Rattle.std.proofs.lemmas.Nat.{mul-le}
use Rattle.sd_num.specs.Lists.{least, greatest}
use Rattle.sd_num.specs.Numbers.{grow, low, up}
use Rattle.sd_num.specs.declared.Rates.{Rates}
use Rattle.sd_plan.specs.topo.Network.{Network, Link, least_low, greatest_up, greatest_delay}
use Rattle.sd_checker.specs.check_root.Timing.{round_gap, silence}
use Rattle.sd_num.proofs.Shared.{ceiling_rises}
use Rattle.sd_bound.specs.slack.Tighter.{AreTighterRates, IsTighterDevice, IsTighterLink, IsTighter}

pub grow_falls : (p q x y : ℕ) → p ≤ q → x ≤ y → grow p x ≤ grow q y
grow_falls p q x y slower shorter = ceiling_rises (p * x) (q * y) (mul-le p x q y slower shorter)

module _ (before after : Rates) (tighter : AreTighterRates before after) (x : ℕ) where
  grown : grow after.ppm x ≤ grow before.ppm x
  grown = grow_falls after.ppm before.ppm x x tighter.ppm (omega arith)

  pub low_rises : low before x ≤ low after x
  low_rises = omega (arith, grown, tighter.grain)

  pub up_falls : up after x ≤ up before x
  up_falls = omega (arith, grown, tighter.grain)

-- Lists, element by element

least_rises : {A : Type 0} (R : A → A → Type 0) (f : A → ℕ) → ((x y : A) → R x y → f x ≤ f y) → (xs ys : List A) → AllZip R xs ys
    → least (map f xs) ≤ least (map f ys)
least_rises R f each [] [] zip = omega arith
least_rises R f each [] (y ∷ ys) zip = absurd zip
least_rises R f each (x ∷ xs) [] zip = absurd zip
least_rises R f each (x ∷ []) (y ∷ []) zip = each x y zip.0
least_rises R f each (x ∷ []) (y ∷ v ∷ vs) zip = absurd zip.1
least_rises R f each (x ∷ u ∷ us) (y ∷ []) zip = absurd zip.1
least_rises R f each (x ∷ u ∷ us) (y ∷ v ∷ vs) zip =
    let first : f x ≤ f y = each x y zip.0 in
    let rest : least (map f (u ∷ us)) ≤ least (map f (v ∷ vs)) = least_rises R f each (u ∷ us) (v ∷ vs) zip.1 in
    omega (arith, first, rest)

greatest_falls : {A : Type 0} (R : A → A → Type 0) (f : A → ℕ) → ((x y : A) → R x y → f y ≤ f x) → (xs ys : List A) → AllZip R xs ys
    → greatest (map f ys) ≤ greatest (map f xs)
greatest_falls R f each [] [] zip = omega arith
greatest_falls R f each [] (y ∷ ys) zip = absurd zip
greatest_falls R f each (x ∷ xs) [] zip = absurd zip
greatest_falls R f each (x ∷ xs) (y ∷ ys) zip =
    let first : f y ≤ f x = each x y zip.0 in
    let rest : greatest (map f ys) ≤ greatest (map f xs) = greatest_falls R f each xs ys zip.1 in
    omega (arith, first, rest)

delays_fall : (xs ys : List Link) → AllZip IsTighterLink xs ys
    → greatest (flat_map (λ link. link.entry.max ∷ link.entry.back_max ∷ []) ys) ≤ greatest (flat_map (λ link. link.entry.max ∷ link.entry.back_max ∷ []) xs)
delays_fall [] [] zip = omega arith
delays_fall [] (y ∷ ys) zip = absurd zip
delays_fall (x ∷ xs) [] zip = absurd zip
delays_fall (x ∷ xs) (y ∷ ys) zip =
    let there : y.entry.max ≤ x.entry.max = zip.0.entry.delay.1 in
    let back : y.entry.back_max ≤ x.entry.back_max = zip.0.entry.back_delay.1 in
    omega (arith, there, back, delays_fall xs ys zip.1)

product_falls : (a b m n : ℕ) → a ≤ m → b ≤ n → (a + 2) * b ≤ (m + 2) * n
product_falls a b m n first second = mul-le (a + 2) b (m + 2) n (omega (arith, first)) second

-- The numbers of two topologies

module _ (before after : Network) (tighter : IsTighter before after) where
  pub least_low_rises : (x : ℕ) → least_low before x ≤ least_low after x
  least_low_rises x =
      least_rises IsTighterDevice (λ device. low device.rates x) (λ u v both. low_rises u.rates v.rates both.rates x) before.devices after.devices
      tighter.devices

  pub greatest_up_falls : (x : ℕ) → greatest_up after x ≤ greatest_up before x
  greatest_up_falls x =
      greatest_falls IsTighterDevice (λ device. up device.rates x) (λ u v both. up_falls u.rates v.rates both.rates x) before.devices after.devices
      tighter.devices

  pub greatest_delay_falls : greatest_delay after ≤ greatest_delay before
  greatest_delay_falls = delays_fall before.links after.links tighter.links

  pub times_depth_fall : (k : ℕ) → k * (after.params.depth + 1) * greatest_delay after ≤ k * (before.params.depth + 1) * greatest_delay before
  times_depth_fall k =
      mul-le (k * (after.params.depth + 1)) (greatest_delay after) (k * (before.params.depth + 1)) (greatest_delay before)
      (mul-le k (after.params.depth + 1) k (before.params.depth + 1) (omega arith) (omega (arith, tighter.depth))) greatest_delay_falls

  round_gap_falls : round_gap after ≤ round_gap before
  round_gap_falls =
      let same : greatest_up after after.params.period ≡ greatest_up after before.params.period = ap (greatest_up after) tighter.period in
      omega (arith, same, greatest_up_falls before.params.period, tighter.tick)

  pub silence_falls : silence after ≤ silence before
  silence_falls =
      let rounds : (after.params.loss + 2) * round_gap after ≤ (before.params.loss + 2) * round_gap before =
      product_falls after.params.loss (round_gap after) before.params.loss (round_gap before) tighter.loss round_gap_falls in
      sum ((after.params.loss + 2) * round_gap after) (4 * (after.params.depth + 1) * greatest_delay after) ((before.params.loss + 2) * round_gap before)
      (4 * (before.params.depth + 1) * greatest_delay before) rounds (times_depth_fall 4)
    where
      sum : (a b c d : ℕ) → a ≤ c → b ≤ d → a + b ≤ c + d
      sum a b c d first second = omega (arith, first, second)
