-- The inequalities that the bounds on silences come down to, for all natural numbers: each side is spread out into products of K and P and of
-- H and D, and the rest is linear. Written small: k, h, d, p, q are K, H, D, P, Q; l1, f1, l2, f2 the least and greatest times of the first and
-- the second wait, lw and up those of the wait of other devices. V is silence_of k h d p + q.
use Rattle.std.specs.Prelude.{ℕ, ◌+◌, ◌*◌, ◌≤◌, ◌<◌, max}
use Rattle.std.proofs.Common.{arith}
use Rattle.sd_safety.specs.invariant.Bounds.{silence_of, IsTimedBy}

-- a silence while the root lives and the path is whole
pub a1 : (k h d p : ℕ) → (k + 2) * p + h * d ≤ silence_of k h d p
a1 k h d p = omega arith

-- a silence of the backup root on its backup
pub a2 : (k h d p : ℕ) → (k + 2) * p + (h + 1) * d ≤ silence_of k h d p
a2 k h d p = omega arith

-- a silence of a linked device
pub two_ways_in_silence : (k h d p : ℕ) → (k + 1) * p + 2 * (h + 1) * d ≤ silence_of k h d p
two_ways_in_silence k h d p = omega arith

module _ {k h d p q l1 f1 l2 f2 lw : ℕ} (timed : IsTimedBy k h d p q l1 f1 l2 f2 lw) where
  -- a silence of W, and twice that, is too short for the backup root to move or to take over
  pub a4_first : silence_of k h d p < l1
  a4_first = omega (arith, timed.gap, timed.first_long)

  pub a4_second : silence_of k h d p < l2
  a4_second = omega (arith, timed.gap, timed.second_long)

  -- where an ordinary device of the backup root's path moves, the backup root is silent for longer than it would be on its primary
  pub a5 : f1 + q + max (h * d) q < lw
  a5 = omega (arith, timed.gap, timed.wait_long)

  -- the devices on the root's side
  pub a11 : f1 + f2 + 2 * q + (k + 2) * p + (2 * h + 1) * d < f1 + f2 + 6 * (silence_of k h d p + q)
  a11 = omega (arith, timed.gap)

  -- The sums of the lemmas on silences are below the least time of the wait.

  pub beside_the_root : f1 + f2 + 2 * q + (k + 2) * p + (2 * h + 1) * d < lw
  beside_the_root = omega (arith, a11, timed.wait_long)

  pub silence_is_short : silence_of k h d p < lw
  silence_is_short = omega (arith, timed.gap, timed.first_long, timed.first_order, timed.wait_long)
