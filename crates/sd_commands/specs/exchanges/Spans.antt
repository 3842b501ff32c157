-- Two-way exchanges: the span that both delays lie in, and the honest runs that could have recorded the exchange.
use Rattle.std.specs.Prelude.{◌≡◌, ◌⊎◌, ℕ, ◌+◌, ◌-◌, ◌/◌, ◌^◌, ◌≤◌, Bool, ◌&&◌, List, ◌∷◌, length, map, min, nat_le, nat_lt, Option, Some, None, Result, Ok, Err, IsTrue, if◌then◌else◌, [], ◌||◌}
use Rattle.sd_num.specs.Numbers.{low, up, distance, keeps_rate}
use Rattle.sd_num.specs.Lists.{least, greatest}
use Rattle.sd_num.specs.declared.Rates.{Rates}
use Rattle.sd_plan.specs.declared.topo.LinkEntry.{LinkEntry}
use Rattle.sd_commands.specs.declared.exchanges.Exchange.{Exchange}
use Rattle.sd_commands.specs.declared.exchanges.Span.{Span}
use Rattle.sd_commands.specs.declared.exchanges.ExchangeFault.{ExchangeFault}
use Rattle.sd_commands.specs.declared.exchanges.ExchangeFault.TheVariants.{Backwards, Impossible, TooLarge}

-- the beginner, at its rates, sees the whole exchange, and the other one, at its rates, the time between receiving and replying
module _ (first second : Rates) (x : Exchange) where
  -- the greatest reference time that the exchange leaves for both delays: it is less this second number, which may be the greater
  abbrev pub most_whole : ℕ
  most_whole = up first (x.t4 - x.t1)

  -- the least reference time between receiving and replying
  abbrev pub least_inside : ℕ
  least_inside = low second (x.t3 - x.t2)

  -- what the first leaves over the second, 0 where the second is the greater
  abbrev pub most : ℕ
  most = most_whole - least_inside

  -- the least reference time that it leaves for both delays
  abbrev pub least_both : ℕ
  least_both = low first (x.t4 - x.t1) - up second (x.t3 - x.t2)

  -- half of it, rounded up, where the delays may differ by asym; and the greatest delay
  abbrev pub span_bounds : Span
  span_bounds = record { min = (least_both - x.asym + 1) / 2; max = min most ((most + x.asym) / 2) }

  -- the span of the exchange, or why it has none
  abbrev pub span_of : Result Span ExchangeFault
  span_of =
      if nat_lt x.t4 x.t1 || nat_lt x.t3 x.t2 then Err Backwards
      else if nat_lt most_whole least_inside then Err Impossible
      else if nat_lt (10 ^ 12) span_bounds.max then Err TooLarge
      else Ok span_bounds

  -- reference times of the four readings at which both counters keep their rates and the delays differ by at most asym
  pub record IsHonestRun (r1 r2 r3 r4 : ℕ) : Type 0 where
    pub order : (r1 ≤ r2) × (r2 ≤ r3) × (r3 ≤ r4)
    pub forward : (x.t1 ≤ x.t4) × (x.t2 ≤ x.t3)
    pub first_keeps : IsTrue (keeps_rate first (x.t4 - x.t1) (r4 - r1))
    pub second_keeps : IsTrue (keeps_rate second (x.t3 - x.t2) (r3 - r2))
    pub symmetric : distance (r2 - r1) (r4 - r3) ≤ x.asym

  -- in each honest run both delays lie in the span
  abbrev pub Covers : Span → Type 0
  Covers span = (r1 r2 r3 r4 : ℕ) → IsHonestRun r1 r2 r3 r4 → (span.min ≤ r2 - r1) × (r2 - r1 ≤ span.max) × (span.min ≤ r4 - r3) × (r4 - r3 ≤ span.max)

-- the least min and the greatest max of spans, and how many there are
abbrev pub joint_span : List Span → Option (Span × ℕ)
joint_span [] = None
joint_span (s ∷ spans) =
    Some (record { min = least (s.min ∷ map (λ t. t.min) spans); max = greatest (s.max ∷ map (λ t. t.max) spans) }, length spans + 1)

-- the span lies within the topology's bounds of both directions of the link
abbrev pub is_inside : LinkEntry → Span → Bool
is_inside link span = nat_le link.min span.min && nat_le span.max link.max && nat_le link.back_min span.min && nat_le span.max link.back_max

-- an exchange that goes backwards, or is impossible, has no honest run
abbrev pub NoneIsHonest : Type 0
NoneIsHonest =
    (first second : Rates) (x : Exchange) (r1 r2 r3 r4 : ℕ) → (span_of first second x ≡ Err Backwards) ⊎ (span_of first second x ≡ Err Impossible)
    → ¬ IsHonestRun first second x r1 r2 r3 r4

-- the delay meets the bounds of both directions of the link
abbrev pub IsWithinBounds : LinkEntry → ℕ → Type 0
IsWithinBounds link delay = (link.min ≤ delay) × (delay ≤ link.max) × (link.back_min ≤ delay) × (delay ≤ link.back_max)
