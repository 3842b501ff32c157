-- The sums: r an event, hd and hb what the device and the backup root heard last, m its move, u its takeover, g and gr the failures of its path and of the
-- root, r0 the
-- first event; A + H * D comes on top of each.
use Rattle.std.specs.Prelude.{ℕ, ◌+◌, ◌*◌, ◌-◌, ◌<◌, ◌≤◌, max}
use Rattle.std.proofs.Common.{arith}
use Rattle.sd_safety.specs.invariant.Bounds.{IsTimedBy}

module _ (k h d p q l1 f1 l2 f2 lw : ℕ) (t : IsTimedBy k h d p q l1 f1 l2 f2 lw) where
  -- with a straggler, and while the root lives
  alive : 2 * f1 + 4 * q + (3 * k + 4) * p + 5 * h * d < lw
  alive = omega (arith, t.gap, t.second_order, t.second_long, t.wait_longer)

  -- without a straggler
  without_straggler : f1 + f2 + 4 * q + (3 * k + 4) * p + (6 * h + 1) * d < lw
  without_straggler = omega (arith, t.gap, t.wait_long)

  with_straggler : 2 * f1 + f2 + 3 * q + (2 * k + 3) * p + 3 * h * d < lw
  with_straggler = omega (arith, t.gap, t.wait_longer)

  pub whole_sum : (r hd : ℕ) → r - hd ≤ (k + 1) * p + p + h * d → r + ((k + 1) * p + h * d) < hd + lw
  whole_sum r hd one = omega (arith, one, alive)

  pub begun_sum : (r r0 hd : ℕ) → r ≤ r0 + q → r0 ≤ hd → r + ((k + 1) * p + h * d) < hd + lw
  begun_sum r r0 hd one two = omega (arith, one, two, alive)

  pub primary_sum : (r hb g hd : ℕ) → r - hb ≤ f1 + q → hb ≤ g + h * d + f1 + q → g ≤ hd + ((k + 1) * p + p + h * d) → r + ((k + 1) * p + h * d) < hd + lw
  primary_sum r hb g hd one two three = omega (arith, one, two, three, alive)

  pub fed_sum : (r m g hd : ℕ) → r ≤ max hd m + ((k + 1) * p + 2 * h * d) + 2 * q → m ≤ g + h * d + 2 * (f1 + q) → g ≤ hd + ((k + 1) * p + p + h * d)
      → r + ((k + 1) * p + h * d) < hd + lw
  fed_sum r m g hd one two three = omega (arith, one, two, three, alive)

  pub taken_sum : (u m g gr hd : ℕ) → u ≤ max m (gr + (h + 1) * d) + f2 + q → m ≤ g + h * d + f1 + q → g ≤ hd + ((k + 1) * p + p + h * d)
      → gr ≤ hd + (((k + 1) * p + p + h * d) + h * d + f1 + q + ((k + 1) * p + 2 * h * d) + 2 * q) → u + ((k + 1) * p + h * d) < hd + lw
  taken_sum u m g gr hd one two three four = omega (arith, one, two, three, four, without_straggler)

  pub straggler_taken_sum : (u m g gr hd : ℕ) → u ≤ max m (gr + (h + 1) * d) + f2 + q → gr + (h + 1) * d ≤ m → m ≤ g + h * d + 2 * (f1 + q)
      → g ≤ hd + ((k + 1) * p + p + h * d) → u + ((k + 1) * p + h * d) < hd + lw
  straggler_taken_sum u m g gr hd one two three four = omega (arith, one, two, three, four, with_straggler)

  pub spared_sum : (r hd : ℕ) → r + ((k + 1) * p + h * d) < hd + lw → r - hd < lw
  spared_sum r hd one = omega (arith, one)

  -- after a commit at c: it heard since, or enters by c + A + H * D, or is fed since the takeover
  pub heard_sum : (r c hd : ℕ) → r ≤ c + ((k + 1) * p + h * d) → c ≤ hd → r - hd < lw
  heard_sum r c hd one two = omega (arith, one, two, alive)

  pub early_sum : (r c r0 hd : ℕ) → r ≤ c + ((k + 1) * p + h * d) → c ≤ r0 + q → r0 ≤ hd → r - hd < lw
  early_sum r c r0 hd one two three = omega (arith, one, two, three, alive)

  pub enters_sum : (r c was hd : ℕ) → r ≤ c + ((k + 1) * p + h * d) → c + ((k + 1) * p + h * d) < was + lw → was ≤ hd → r - hd < lw
  enters_sum r c was hd one two three = omega (arith, one, two, three)

  pub led_sum : (r u r0 was hd : ℕ) → r ≤ max (max u hd) (r0 + q) + ((k + 1) * p + h * d) → u + ((k + 1) * p + h * d) < was + lw → was ≤ hd → r0 ≤ hd
      → r - hd < lw
  led_sum r u r0 was hd one two three four = omega (arith, one, two, three, four, alive)
