-- In each honest run of an exchange that has a span both delays lie in it, and one that goes backwards or is impossible has no honest run.
use Rattle.std.specs.Prelude.{◌≡◌, ℕ, ◌+◌, ◌-◌, ◌/◌, ◌^◌, ◌≤◌, ◌<◌, Bool, true, false, ◌||◌, nat_lt, min, Ok, Err, refl, if◌then◌else◌}
use Rattle.std.proofs.Common.{arith, subst, inl, inr}
use Rattle.std.proofs.lemmas.Bool.{ltb-true, or_cases}
use Rattle.sd_num.specs.Numbers.{low, up, distance}
use Rattle.sd_num.specs.declared.Rates.{Rates}
use Rattle.sd_num.proofs.Drift.{at_most_up, at_least_low}
use Rattle.sd_commands.specs.declared.exchanges.Exchange.{Exchange}
use Rattle.sd_commands.specs.declared.exchanges.Span.{Span}
use Rattle.sd_commands.specs.declared.exchanges.ExchangeFault.TheVariants.{Backwards, Impossible, TooLarge}
use Rattle.sd_commands.specs.exchanges.Spans.{span_bounds, most_whole, least_inside, IsHonestRun, Covers, NoneIsHonest}
use Rattle.sd_commands.specs.exchanges.Laws.{SpanCovers}

-- the bounds by numbers alone: the whole takes from l1 to u1, the inside from l2 to u2
lower : (r1 r2 r3 r4 l1 u2 asym : ℕ) → r1 ≤ r2 → r2 ≤ r3 → r3 ≤ r4 → l1 ≤ r4 - r1 → r3 - r2 ≤ u2 → distance (r2 - r1) (r4 - r3) ≤ asym
    → ((l1 - u2 - asym + 1) / 2 ≤ r2 - r1) × ((l1 - u2 - asym + 1) / 2 ≤ r4 - r3)
lower r1 r2 r3 r4 l1 u2 asym a b c whole inside near = (omega (arith, a, b, c, whole, inside, near), omega (arith, a, b, c, whole, inside, near))

upper : (r1 r2 r3 r4 u1 l2 asym : ℕ) → r1 ≤ r2 → r2 ≤ r3 → r3 ≤ r4 → r4 - r1 ≤ u1 → l2 ≤ r3 - r2 → distance (r2 - r1) (r4 - r3) ≤ asym
    → (r2 - r1 ≤ min (u1 - l2) ((u1 - l2 + asym) / 2)) × (r4 - r3 ≤ min (u1 - l2) ((u1 - l2 + asym) / 2))
upper r1 r2 r3 r4 u1 l2 asym a b c whole inside near = (omega (arith, a, b, c, whole, inside, near), omega (arith, a, b, c, whole, inside, near))

covers_bounds : (first second : Rates) (x : Exchange) → Covers first second x (span_bounds first second x)
covers_bounds first second x r1 r2 r3 r4 run =
    let lows = lower r1 r2 r3 r4 (low first (x.t4 - x.t1)) (up second (x.t3 - x.t2)) x.asym run.order.0 run.order.1 run.order.2
    (at_least_low first (x.t4 - x.t1) (r4 - r1) run.first_keeps) (at_most_up second (x.t3 - x.t2) (r3 - r2) run.second_keeps) run.symmetric in
    let ups = upper r1 r2 r3 r4 (up first (x.t4 - x.t1)) (low second (x.t3 - x.t2)) x.asym run.order.0 run.order.1 run.order.2
    (at_most_up first (x.t4 - x.t1) (r4 - r1) run.first_keeps) (at_least_low second (x.t3 - x.t2) (r3 - r2) run.second_keeps) run.symmetric in
    (lows.0, ups.0, lows.1, ups.1)

-- which of the four answers it is
chosen : (a b c : Bool) (bounds span : Span)
    → (if a then Err Backwards else if b then Err Impossible else if c then Err TooLarge else Ok bounds) ≡ Ok span → bounds ≡ span
chosen true b c bounds span same = cc
chosen false true c bounds span same = cc
chosen false false true bounds span same = cc
chosen false false false bounds span same = cc

pub span_covers : SpanCovers
span_covers first second x span same =
    subst (Covers first second x)
    (chosen (nat_lt x.t4 x.t1 || nat_lt x.t3 x.t2) (nat_lt (most_whole first second x) (least_inside first second x))
    (nat_lt (10 ^ 12) (span_bounds first second x).max) (span_bounds first second x) span same) (covers_bounds first second x)

backwards : (a b c : Bool) (bounds : Span)
    → (if a then Err Backwards else if b then Err Impossible else if c then Err TooLarge else Ok bounds) ≡ Err Backwards → a ≡ true
backwards true b c bounds same = refl
backwards false true c bounds same = cc
backwards false false true bounds same = cc
backwards false false false bounds same = cc

impossible : (a b c : Bool) (bounds : Span)
    → (if a then Err Backwards else if b then Err Impossible else if c then Err TooLarge else Ok bounds) ≡ Err Impossible → b ≡ true
impossible true b c bounds same = cc
impossible false true c bounds same = refl
impossible false false true bounds same = cc
impossible false false false bounds same = cc

runs_forward : (first second : Rates) (x : Exchange) (r1 r2 r3 r4 : ℕ) → IsHonestRun first second x r1 r2 r3 r4 → (nat_lt x.t4 x.t1 || nat_lt x.t3 x.t2) ≡ true
    → ⊥
runs_forward first second x r1 r2 r3 r4 run back =
    elim (or_cases (nat_lt x.t4 x.t1) (nat_lt x.t3 x.t2) back) [
      | inl whole ↦ omega (arith, run.forward, ltb-true x.t4 x.t1 whole)
      | inr inside ↦ omega (arith, run.forward, ltb-true x.t3 x.t2 inside)
    ]

inside_whole : (r1 r2 r3 r4 u1 l2 : ℕ) → r1 ≤ r2 → r2 ≤ r3 → r3 ≤ r4 → r4 - r1 ≤ u1 → l2 ≤ r3 - r2 → u1 < l2 → ⊥
inside_whole r1 r2 r3 r4 u1 l2 a b c whole inside less = omega (arith, a, b, c, whole, inside, less)

holds_inside : (first second : Rates) (x : Exchange) (r1 r2 r3 r4 : ℕ) → IsHonestRun first second x r1 r2 r3 r4
    → nat_lt (most_whole first second x) (least_inside first second x) ≡ true → ⊥
holds_inside first second x r1 r2 r3 r4 run less =
    inside_whole r1 r2 r3 r4 (up first (x.t4 - x.t1)) (low second (x.t3 - x.t2)) run.order.0 run.order.1 run.order.2
    (at_most_up first (x.t4 - x.t1) (r4 - r1) run.first_keeps) (at_least_low second (x.t3 - x.t2) (r3 - r2) run.second_keeps)
    (ltb-true (most_whole first second x) (least_inside first second x) less)

pub none_is_honest : NoneIsHonest
none_is_honest first second x r1 r2 r3 r4 (inl same) run =
    runs_forward first second x r1 r2 r3 r4 run
    (backwards (nat_lt x.t4 x.t1 || nat_lt x.t3 x.t2) (nat_lt (most_whole first second x) (least_inside first second x))
    (nat_lt (10 ^ 12) (span_bounds first second x).max) (span_bounds first second x) same)
none_is_honest first second x r1 r2 r3 r4 (inr same) run =
    holds_inside first second x r1 r2 r3 r4 run
    (impossible (nat_lt x.t4 x.t1 || nat_lt x.t3 x.t2) (nat_lt (most_whole first second x) (least_inside first second x))
    (nat_lt (10 ^ 12) (span_bounds first second x).max) (span_bounds first second x) same)
