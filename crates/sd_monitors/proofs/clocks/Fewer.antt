-- Where the least offsets of some readings are at most those of others, a later reading that keeps the rates with each of the first keeps them with each
-- of the others.
use Rattle.std.proofs.Common.{◌≡◌, ℕ, ◌+◌, ◌-◌, ◌*◌, ◌^◌, ◌≤◌, ◌<◌, true, ◌&&◌, List, [], ◌∷◌, min, nat_le, ◌⊎◌, inl, inr, refl, arith}
use Rattle.std.proofs.Math.Nat.{mul-sub, mul-le-mul_left}
use Rattle.std.proofs.lemmas.Bool.{and_parts, and_from, leb-true, le-leb}
use Rattle.std.proofs.lemmas.Nat.{mul-le}
use Rattle.sd_num.specs.declared.Rates.{Rates}
use Rattle.sd_num.specs.Numbers.{distance, keeps_rate}
use Rattle.sd_monitors.specs.clocks.Readings.{keeps_rates_with, is_after_each, left_of, lead_at, lag_at, least_offsets}

-- Two readings, x of which is the later one: x may be of any size

-- the counter goes no further ahead of the reference than the rates allow
abbrev keeps_lead : Rates → ℕ × ℕ → ℕ × ℕ → Type 0
keeps_lead rates x r = 1000000 * (x.1 - r.1) ≤ 1000000 * (x.0 - r.0) + (rates.ppm * (x.1 - r.1) + rates.grain * 1000000)

-- and falls no further behind it
abbrev keeps_lag : Rates → ℕ × ℕ → ℕ × ℕ → Type 0
keeps_lag rates x r = 1000000 * (x.0 - r.0) ≤ 1000000 * (x.1 - r.1) + (rates.ppm * (x.1 - r.1) + rates.grain * 1000000)

-- the rule for the two is both
parts_of_rule : (rates : Rates) (x r : ℕ × ℕ) → keeps_rate rates (x.1 - r.1) (x.0 - r.0) ≡ true → keeps_lead rates x r × keeps_lag rates x r
parts_of_rule rates x r rule =
    let near = leb-true (distance (x.1 - r.1) (x.0 - r.0) * 1000000) (rates.ppm * (x.1 - r.1) + rates.grain * 1000000) rule in
    (omega arith, omega arith)

rule_from : (rates : Rates) (x r : ℕ × ℕ) → keeps_lead rates x r → keeps_lag rates x r → keeps_rate rates (x.1 - r.1) (x.0 - r.0) ≡ true
rule_from rates x r lead lag = le-leb (distance (x.1 - r.1) (x.0 - r.0) * 1000000) (rates.ppm * (x.1 - r.1) + rates.grain * 1000000) (omega (arith, lead, lag))

-- the reading fits its words, and is no later than x
record IsPast (x r : ℕ × ℕ) : Type 0 where
  time_fits : r.0 < 2 ^ 64
  counter_fits : r.1 < 2 ^ 64
  time : r.0 ≤ x.0
  counter : r.1 ≤ x.1

-- each product of ppm and a difference, as a difference of products
record Products (ppm : ℕ) (x r : ℕ × ℕ) : Type 0 where
  left : ppm * left_of r.1 + ppm * r.1 ≡ ppm * (2 ^ 64 - 1)
  passed : ppm * (x.1 - r.1) + ppm * r.1 ≡ ppm * x.1

products : (ppm : ℕ) (x r : ℕ × ℕ) → IsPast x r → Products ppm x r
products ppm x r past =
    let fits = past.counter_fits in
    let most : ppm * r.1 ≤ ppm * (2 ^ 64 - 1) = mul-le-mul_left ppm (omega (arith, fits)) in
    let before : ppm * r.1 ≤ ppm * x.1 = mul-le-mul_left ppm past.counter in
    let left = mul-sub ppm (2 ^ 64 - 1) r.1 in
    let passed = mul-sub ppm x.1 r.1 in
    record { left = omega arith; passed = omega arith }

-- what keeps within the lead of a reading keeps within a greater one
lead_of_greater : (rates : Rates) (x r y : ℕ × ℕ) → IsPast x r → IsPast x y → lead_at rates.ppm r ≤ lead_at rates.ppm y
    → keeps_lead rates x r → keeps_lead rates x y
lead_of_greater rates x r y past past_y less keeps =
    let first = products rates.ppm x r past in
    let second = products rates.ppm x y past_y in
    omega arith

-- and so of the lag
lag_of_greater : (rates : Rates) (x r y : ℕ × ℕ) → IsPast x r → IsPast x y → lag_at rates.ppm r ≤ lag_at rates.ppm y
    → keeps_lag rates x r → keeps_lag rates x y
lag_of_greater rates x r y past past_y less keeps =
    let first = products rates.ppm x r past in
    let second = products rates.ppm x y past_y in
    omega arith

-- Some readings

-- what the lesser of two is at most is at least one of them
min_either : (a b c : ℕ) → min a b ≤ c → (a ≤ c) ⊎ (b ≤ c)
min_either a b c less = grind (arith, less)

-- each of the readings up to the last one fits its words, and is no later than x
past_last : (last x : ℕ × ℕ) → last.0 < 2 ^ 64 → last.1 < 2 ^ 64 → last.0 ≤ x.0 → last.1 ≤ x.1 → (r : ℕ × ℕ)
    → (nat_le r.0 last.0 && nat_le r.1 last.1) ≡ true → IsPast x r
past_last last x time_fits counter_fits time counter r before =
    let parts = and_parts (nat_le r.0 last.0) (nat_le r.1 last.1) before in
    let at = leb-true r.0 last.0 parts.0 in
    let shows = leb-true r.1 last.1 parts.1 in
    record { time_fits = omega arith; counter_fits = omega arith; time = omega arith; counter = omega arith }

module _ (rates : Rates) (last x : ℕ × ℕ) (ppm_fits : rates.ppm < 2 ^ 32) (time_fits : last.0 < 2 ^ 64) (counter_fits : last.1 < 2 ^ 64)
    (time : last.0 ≤ x.0) (counter : last.1 ≤ x.1) where
  past : (r : ℕ × ℕ) → (nat_le r.0 last.0 && nat_le r.1 last.1) ≡ true → IsPast x r
  past = past_last last x time_fits counter_fits time counter

  module _ (y : ℕ × ℕ) (past_y : IsPast x y) where
    -- so the offsets of y are below those that no reading has
    slack : rates.ppm * left_of y.1 ≤ 2 ^ 32 * 2 ^ 64
    slack = mul-le rates.ppm (left_of y.1) (2 ^ 32) (2 ^ 64) (omega (arith, ppm_fits)) (omega arith)

    -- where the least lead of some readings is at most that of y, x keeps within the lead of y
    lead_on : (readings : List (ℕ × ℕ)) → is_after_each readings last ≡ true → keeps_rates_with rates readings x ≡ true
        → (least_offsets rates.ppm readings).lead ≤ lead_at rates.ppm y → keeps_lead rates x y
    lead_on [] after keeps less =
        let fits = past_y.time_fits in
        let counts = past_y.counter_fits in
        let most = slack in
        absurd (omega arith)
    lead_on (r ∷ rs) after keeps less =
        let placed = and_parts (nat_le r.0 last.0 && nat_le r.1 last.1) (is_after_each rs last) after in
        let kept = and_parts (keeps_rate rates (x.1 - r.1) (x.0 - r.0)) (keeps_rates_with rates rs x) keeps in
        elim (min_either (least_offsets rates.ppm rs).lead (lead_at rates.ppm r) (lead_at rates.ppm y) less) [
          | inl before ↦ lead_on rs placed.1 kept.1 before
          | inr here ↦ lead_of_greater rates x r y (past r placed.0) past_y here (parts_of_rule rates x r kept.0).0
        ]

    -- and so of the lag
    lag_on : (readings : List (ℕ × ℕ)) → is_after_each readings last ≡ true → keeps_rates_with rates readings x ≡ true
        → (least_offsets rates.ppm readings).lag ≤ lag_at rates.ppm y → keeps_lag rates x y
    lag_on [] after keeps less =
        let fits = past_y.time_fits in
        let counts = past_y.counter_fits in
        let most = slack in
        absurd (omega arith)
    lag_on (r ∷ rs) after keeps less =
        let placed = and_parts (nat_le r.0 last.0 && nat_le r.1 last.1) (is_after_each rs last) after in
        let kept = and_parts (keeps_rate rates (x.1 - r.1) (x.0 - r.0)) (keeps_rates_with rates rs x) keeps in
        elim (min_either (least_offsets rates.ppm rs).lag (lag_at rates.ppm r) (lag_at rates.ppm y) less) [
          | inl before ↦ lag_on rs placed.1 kept.1 before
          | inr here ↦ lag_of_greater rates x r y (past r placed.0) past_y here (parts_of_rule rates x r kept.0).1
        ]

  -- The readings are up to a last one, whose numbers fit their words, and x is no earlier than that one.
  pub keeps_with_more : (one other : List (ℕ × ℕ)) → is_after_each one last ≡ true → is_after_each other last ≡ true
      → (least_offsets rates.ppm one).lead ≤ (least_offsets rates.ppm other).lead → (least_offsets rates.ppm one).lag ≤ (least_offsets rates.ppm other).lag
      → keeps_rates_with rates one x ≡ true → keeps_rates_with rates other x ≡ true
  keeps_with_more one [] after after_other lead lag keeps = refl
  keeps_with_more one (r ∷ rs) after after_other lead lag keeps =
      let placed = and_parts (nat_le r.0 last.0 && nat_le r.1 last.1) (is_after_each rs last) after_other in
      and_from (keeps_rate rates (x.1 - r.1) (x.0 - r.0)) (keeps_rates_with rates rs x)
      (rule_from rates x r (lead_on r (past r placed.0) one after keeps (omega (arith, lead)))
      (lag_on r (past r placed.0) one after keeps (omega (arith, lag))))
      (keeps_with_more one rs after placed.1 (omega (arith, lead)) (omega (arith, lag)) keeps)
