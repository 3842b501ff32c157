-- Waits that are long enough stay so with less slack.
use Rattle.std.specs.Prelude.{◌≡◌, ℕ, ◌+◌, ◌*◌, ◌≤◌, ◌<◌, Bool, true, false, cond, List, [], ◌∷◌, find, nat_le, nat_lt, Some, None}
use Rattle.std.specs.List.{AllZip}
use Rattle.std.proofs.Common.{arith, refl, ap, ◌∙◌}
use Rattle.std.proofs.lemmas.Bool.{ltb-false, leb-false, le-ltb, lt-leb}
use Rattle.sd_plan.specs.topo.Network.{Network, least_low, greatest_up, greatest_delay}
use Rattle.sd_plan.specs.declared.Plan.{Plan}
use Rattle.sd_checker.specs.check_root.Timing.{silence, inequalities, is_broken, timing_breach}
use Rattle.sd_bound.specs.slack.Tighter.{IsTighter}
use Rattle.sd_bound.proofs.slack.Numbers.{least_low_rises, greatest_up_falls, times_depth_fall, silence_falls}

-- where none passes the test, and each that fails goes on to fail, none passes it afterwards
none_found : {A : Type 0} (p : A → Bool) (xs ys : List A) → AllZip (λ x y. p x ≡ false → p y ≡ false) xs ys → find p xs ≡ None → find p ys ≡ None
none_found p [] [] zip none = refl
none_found p [] (y ∷ ys) zip none = absurd zip
none_found p (x ∷ xs) [] zip none = absurd zip
none_found p (x ∷ xs) (y ∷ ys) zip none = by (λ others. none_found p xs ys zip.1 others) (p x) refl none
  where
    by : (find p xs ≡ None → find p ys ≡ None) → (t : Bool) → p x ≡ t → cond t (Some x) (find p xs) ≡ None → find p (y ∷ ys) ≡ None
    by rest true is none' = cc
    by rest false is none' = ap (λ t. cond t (Some y) (find p ys)) (zip.0 is) ∙ rest none'

-- an inequality holds on where its left side rises and its right side falls
strict : (a b c d : ℕ) → a ≤ c → d ≤ b → nat_le a b ≡ false → nat_le c d ≡ false
strict a b c d left right holds = let less : b < a = leb-false a b holds in lt-leb c d (omega (arith, left, right, less))

weak : (a b c d : ℕ) → a ≤ c → d ≤ b → nat_lt a b ≡ false → nat_lt c d ≡ false
weak a b c d left right holds = let most : b ≤ a = ltb-false a b holds in le-ltb c d (omega (arith, left, right, most))

module _ (before after : Network) (tighter : IsTighter before after) (plan : Plan) where
  quiet_falls : silence after + after.params.tick ≤ silence before + before.params.tick
  quiet_falls = omega (arith, silence_falls before after tighter, tighter.tick)

  period_low : least_low before before.params.period ≤ least_low after after.params.period
  period_low =
      let same : least_low after after.params.period ≡ least_low after before.params.period = ap (least_low after) tighter.period in
      omega (arith, same, least_low_rises before after tighter before.params.period)

  first : least_low before plan.wait_first ≤ least_low after plan.wait_first
  first = least_low_rises before after tighter plan.wait_first

  second : least_low before plan.wait_second ≤ least_low after plan.wait_second
  second = least_low_rises before after tighter plan.wait_second

  long : least_low before plan.wait ≤ least_low after plan.wait
  long = least_low_rises before after tighter plan.wait

  first_up : greatest_up after plan.wait_first ≤ greatest_up before plan.wait_first
  first_up = greatest_up_falls before after tighter plan.wait_first

  second_up : greatest_up after plan.wait_second ≤ greatest_up before plan.wait_second
  second_up = greatest_up_falls before after tighter plan.wait_second

  flight_falls : 2 * (after.params.depth + 1) * greatest_delay after + after.params.tick
      ≤ 2 * (before.params.depth + 1) * greatest_delay before + before.params.tick
  flight_falls =
      sum (2 * (after.params.depth + 1) * greatest_delay after) after.params.tick (2 * (before.params.depth + 1) * greatest_delay before) before.params.tick
      (times_depth_fall before after tighter 2) tighter.tick
    where
      sum : (a b c d : ℕ) → a ≤ c → b ≤ d → a + b ≤ c + d
      sum a b c d first' second' = omega (arith, first', second')

  double : (a b : ℕ) → a ≤ b → 2 * a ≤ 2 * b
  double a b le = omega (arith, le)

  fourth : (a b c d e f : ℕ) → a ≤ d → b ≤ e → c ≤ f → a + b + 6 * c ≤ d + e + 6 * f
  fourth a b c d e f p q r = omega (arith, p, q, r)

  fifth : (a b c d e f : ℕ) → a ≤ d → b ≤ e → c ≤ f → 2 * a + b + 2 * c ≤ 2 * d + e + 2 * f
  fifth a b c d e f p q r = omega (arith, p, q, r)

  pub timing_kept : timing_breach before plan ≡ None → timing_breach after plan ≡ None
  timing_kept none =
      let sums = double (silence after + after.params.tick) (silence before + before.params.tick) quiet_falls in
      let fourths =
      fourth (greatest_up after plan.wait_first) (greatest_up after plan.wait_second) (silence after + after.params.tick) (greatest_up before plan.wait_first)
      (greatest_up before plan.wait_second) (silence before + before.params.tick) first_up second_up quiet_falls in
      let fifths =
      fifth (greatest_up after plan.wait_first) (greatest_up after plan.wait_second) (silence after + after.params.tick) (greatest_up before plan.wait_first)
      (greatest_up before plan.wait_second) (silence before + before.params.tick) first_up second_up quiet_falls in
      none_found is_broken (inequalities before plan) (inequalities after plan) (
        strict _ _ _ _ period_low flight_falls,
        (weak _ _ _ _ first sums, (weak _ _ _ _ second sums, (weak _ _ _ _ long fourths, (weak _ _ _ _ long fifths, tt)))),
      ) none
