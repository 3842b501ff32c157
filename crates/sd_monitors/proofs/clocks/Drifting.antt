-- A reading keeps the rates with each reading of a life exactly where its offsets are within the grain of the least of the life.
use Rattle.std.proofs.Common.{◌≡◌, ℕ, ◌+◌, ◌-◌, ◌*◌, ◌^◌, ◌≤◌, ◌<◌, Bool, true, ◌&&◌, List, [], ◌∷◌, min, nat_le, ap, ◌∙◌, arith}
use Rattle.std.proofs.Math.Nat.{mul-sub, mul-le-mul_left}
use Rattle.std.proofs.lemmas.Bool.{and_parts, and_from, leb-true, le-leb}
use Rattle.std.proofs.lemmas.Nat.{mul-le}
use Rattle.std.proofs.lemmas.Bool.Decides.{same_from_decides}
use Rattle.sd_num.specs.declared.Rates.{Rates}
use Rattle.sd_num.specs.Numbers.{distance, keeps_rate}
use Rattle.sd_monitors.specs.declared.clocks.offsets.Offsets.{Offsets}
use Rattle.sd_monitors.specs.clocks.Readings.{keeps_rates_with, is_after_each, left_of, lead_at, lag_at, offsets_at, no_offsets, lesser, are_within, least_offsets}

-- Two readings, x of which is the later one

-- the reading is no later than the other
abbrev is_before : ℕ × ℕ → ℕ × ℕ → Bool
is_before r x = nat_le r.0 x.0 && nat_le r.1 x.1

-- the rule for the two
abbrev keeps : Rates → ℕ × ℕ → ℕ × ℕ → Bool
keeps rates x r = keeps_rate rates (x.1 - r.1) (x.0 - r.0)

-- by how much the offsets rise from the one to the other: c and t are the counter and the reference of x, cr and tr those of r
rises : (ppm c t cr tr : ℕ) → c < 2 ^ 64 → t < 2 ^ 64 → cr ≤ c → tr ≤ t
    → (lead_at ppm (t, c) + (1000000 * (t - tr) + ppm * (c - cr)) ≡ lead_at ppm (tr, cr) + 1000000 * (c - cr))
    × (lag_at ppm (t, c) + (1000000 * (c - cr) + ppm * (c - cr)) ≡ lag_at ppm (tr, cr) + 1000000 * (t - tr))
rises ppm c t cr tr c_fits t_fits counter reference =
    let all : ppm * c ≤ ppm * (2 ^ 64 - 1) = mul-le-mul_left ppm (omega (arith, c_fits)) in
    let past : ppm * cr ≤ ppm * c = mul-le-mul_left ppm counter in
    let left = mul-sub ppm (2 ^ 64 - 1) c in
    let left_before = mul-sub ppm (2 ^ 64 - 1) cr in
    let passed = mul-sub ppm c cr in
    (omega arith, omega arith)

-- the rule for them is that neither offset rose by more than the grain
rule_of_two : (rates : Rates) (x r : ℕ × ℕ) → x.0 < 2 ^ 64 → x.1 < 2 ^ 64 → is_before r x ≡ true
    → are_within rates.grain (offsets_at rates.ppm r) (offsets_at rates.ppm x) ≡ keeps rates x r
rule_of_two rates x r t_fits c_fits before =
    let parts = and_parts (nat_le r.0 x.0) (nat_le r.1 x.1) before in
    let rise = rises rates.ppm x.1 x.0 r.1 r.0 c_fits t_fits (leb-true r.1 x.1 parts.1) (leb-true r.0 x.0 parts.0) in
    let lead = nat_le (lead_at rates.ppm x - lead_at rates.ppm r) (rates.grain * 1000000) in
    let lag = nat_le (lag_at rates.ppm x - lag_at rates.ppm r) (rates.grain * 1000000) in
    same_from_decides (lead && lag) (keeps rates x r) (
      λ both. (let each = and_parts lead lag both in
          let first = leb-true (lead_at rates.ppm x - lead_at rates.ppm r) (rates.grain * 1000000) each.0 in
          let second = leb-true (lag_at rates.ppm x - lag_at rates.ppm r) (rates.grain * 1000000) each.1 in
          le-leb (distance (x.1 - r.1) (x.0 - r.0) * 1000000) (rates.ppm * (x.1 - r.1) + rates.grain * 1000000) (omega arith)),
      λ rule. (let near = leb-true (distance (x.1 - r.1) (x.0 - r.0) * 1000000) (rates.ppm * (x.1 - r.1) + rates.grain * 1000000) rule in
          and_from lead lag (le-leb (lead_at rates.ppm x - lead_at rates.ppm r) (rates.grain * 1000000) (omega arith))
          (le-leb (lag_at rates.ppm x - lag_at rates.ppm r) (rates.grain * 1000000) (omega arith))),
    )
    (λ rule. rule, λ rule. rule)

-- A life

-- y is beyond the lesser of two by no more than g exactly where it is beyond both by no more
beyond_lesser : (g a b y : ℕ) → nat_le (y - min a b) g ≡ (nat_le (y - a) g && nat_le (y - b) g)
beyond_lesser g a b y = grind arith

within_lesser : (grain : ℕ) (a b y : Offsets) → are_within grain (lesser a b) y ≡ (are_within grain b y && are_within grain a y)
within_lesser grain a b y =
    let lead = beyond_lesser (grain * 1000000) a.lead b.lead y.lead in
    let lag = beyond_lesser (grain * 1000000) a.lag b.lag y.lag in
    grind arith

-- with no reading before it each reading is within
within_none : (grain ppm : ℕ) (x : ℕ × ℕ) → ppm < 2 ^ 32 → x.0 < 2 ^ 64 → x.1 < 2 ^ 64 → are_within grain no_offsets (offsets_at ppm x) ≡ true
within_none grain ppm x ppm_fits t_fits c_fits =
    let slack : ppm * left_of x.1 ≤ 2 ^ 32 * 2 ^ 64 = mul-le ppm (left_of x.1) (2 ^ 32) (2 ^ 64) (omega (arith, ppm_fits)) (omega arith) in
    and_from (nat_le (lead_at ppm x - (2 ^ 128 - 1)) (grain * 1000000)) (nat_le (lag_at ppm x - (2 ^ 128 - 1)) (grain * 1000000))
    (le-leb (lead_at ppm x - (2 ^ 128 - 1)) (grain * 1000000) (omega arith)) (le-leb (lag_at ppm x - (2 ^ 128 - 1)) (grain * 1000000) (omega arith))

-- so the test of the least offsets is the rule for each reading
pub rule_of_life : (rates : Rates) (x : ℕ × ℕ) → rates.ppm < 2 ^ 32 → x.0 < 2 ^ 64 → x.1 < 2 ^ 64 → (readings : List (ℕ × ℕ)) → is_after_each readings x ≡ true
    → are_within rates.grain (least_offsets rates.ppm readings) (offsets_at rates.ppm x) ≡ keeps_rates_with rates readings x
rule_of_life rates x ppm_fits t_fits c_fits [] after = within_none rates.grain rates.ppm x ppm_fits t_fits c_fits
rule_of_life rates x ppm_fits t_fits c_fits (r ∷ rs) after =
    let parts = and_parts (is_before r x) (is_after_each rs x) after in
    within_lesser rates.grain (least_offsets rates.ppm rs) (offsets_at rates.ppm r) (offsets_at rates.ppm x)
    ∙ ap (λ (t : Bool). t && are_within rates.grain (least_offsets rates.ppm rs) (offsets_at rates.ppm x)) (rule_of_two rates x r t_fits c_fits parts.0)
    ∙ ap (λ (t : Bool). keeps rates x r && t) (rule_of_life rates x ppm_fits t_fits c_fits rs parts.1)

-- as the code has it, of offsets that are those of the reading
pub rule_at : (rates : Rates) (x : ℕ × ℕ) (y : Offsets) → rates.ppm < 2 ^ 32 → x.0 < 2 ^ 64 → x.1 < 2 ^ 64 → y ≡ offsets_at rates.ppm x
    → (readings : List (ℕ × ℕ))
    → is_after_each readings x ≡ true → are_within rates.grain (least_offsets rates.ppm readings) y ≡ keeps_rates_with rates readings x
rule_at rates x y ppm_fits t_fits c_fits same readings after =
    ap (are_within rates.grain (least_offsets rates.ppm readings)) same ∙ rule_of_life rates x ppm_fits t_fits c_fits readings after
