-- The oldest age: there is one with less slack, and neither it nor what grows in it is more.
use Rattle.std.specs.Prelude.{◌≡◌, ℕ, zero, suc, ◌+◌, ◌-◌, ◌*◌, ◌/◌, ◌<◌, ◌≤◌, ◌⊎◌}
use Rattle.std.proofs.Common.{arith, subst, inl, inr}
use Rattle.std.proofs.lemmas.Bool.{cases_lt}
use Rattle.std.proofs.lemmas.Nat.{mul-le}
use Rattle.sd_num.specs.Numbers.{grow, low}
use Rattle.sd_num.specs.declared.Rates.{Rates}
use Rattle.sd_plan.specs.topo.Limits.{IsRates}
use Rattle.sd_drill.specs.ages.Ages.{IsOldest, ageing}
use Rattle.sd_bound.specs.slack.Tighter.{AreTighterRates}
use Rattle.sd_bound.proofs.slack.Numbers.{grow_falls, low_rises}

-- some age is the oldest, where none is above a bound
oldest_below : (rates : Rates) (s bound : ℕ) → ((y : ℕ) → low rates y ≤ s → y ≤ bound) → (x : ℕ) × IsOldest rates s x
oldest_below rates s zero most = (0, record { within = omega arith; greatest = most })
oldest_below rates s (suc n) most = by (λ less. oldest_below rates s n less) (cases_lt s (low rates (suc n)))
  where
    by : (((y : ℕ) → low rates y ≤ s → y ≤ n) → (x : ℕ) × IsOldest rates s x) → (s < low rates (suc n)) ⊎ (low rates (suc n) ≤ s)
        → (x : ℕ) × IsOldest rates s x
    by rest (inr within) = (suc n, record { within = within; greatest = most })
    by rest (inl above) = rest (λ y young. less y young (cases_lt n y))
      where
        less : (y : ℕ) → low rates y ≤ s → (n < y) ⊎ (y ≤ n) → y ≤ n
        less y young (inr few) = few
        less y young (inl many) =
            let few : y ≤ suc n = most y young in
            let same : y ≡ suc n = omega (arith, few, many) in
            let also : low rates (suc n) ≤ s = subst (λ (x : ℕ). low rates x ≤ s) same young in
            absurd (omega (arith, above, also))

-- a counter shows at most twice the time and the grain, and some
few : (x s grain grown : ℕ) → grown ≤ 100000 * x → x - (grown + 999999) / 1000000 - grain ≤ s → x ≤ 2 * (s + grain + 1)
few x s grain grown slow young = omega (arith, slow, young)

-- within the limits of rates some age is the oldest
pub some_oldest : (rates : Rates) (s : ℕ) → IsRates rates → (x : ℕ) × IsOldest rates s x
some_oldest rates s is =
    oldest_below rates s (2 * (s + rates.grain + 1))
    (λ y young. few y s rates.grain (rates.ppm * y) (mul-le rates.ppm y 100000 y is.0 (omega arith)) young)

module _ (before after : Rates) (tighter : AreTighterRates before after) where
  pub ageing_falls : (x y : ℕ) → y ≤ x → ageing after y ≤ ageing before x
  ageing_falls x y younger =
      let grown : grow after.ppm y ≤ grow before.ppm x = grow_falls after.ppm before.ppm y x tighter.ppm younger in
      omega (arith, grown, tighter.grain)

  module _ (s t x : ℕ) (shorter : t ≤ s) (oldest : IsOldest before s x) where
    -- no age is above the oldest before
    within_oldest : (y : ℕ) → low after y ≤ t → y ≤ x
    within_oldest y young = oldest.greatest y less
      where
        less : low before y ≤ s
        less = let rises : low before y ≤ low after y = low_rises before after tighter y in omega (arith, rises, young, shorter)

    pub oldest_after : (y : ℕ) × IsOldest after t y
    oldest_after = oldest_below after t x within_oldest

  pub younger_falls : (s t x y : ℕ) → t ≤ s → IsOldest before s x → IsOldest after t y → y ≤ x
  younger_falls s t x y shorter was is = within_oldest s t x shorter was y is.within
