-- The numbers of a network and a plan that bound silences: how long rounds take, how far apart they lie, and how long a device waits.
use Rattle.std.specs.Prelude.{ℕ, ◌+◌, ◌*◌, ◌≤◌}
use Rattle.sd_plan.specs.topo.Network.{Network, least_low, greatest_up, greatest_delay}
use Rattle.sd_plan.specs.declared.Plan.{Plan}
use Rattle.sd_checker.specs.check_root.Timing.{round_gap, silence}

-- the greatest number of hops of a path (H), of rounds lost in a row (K), the greatest delay of a hop (D), and how far apart ticks lie (Q)
abbrev pub depth : Network → ℕ
depth net = net.params.depth

-- the greatest number of rounds lost in a row (K)
abbrev pub losses : Network → ℕ
losses net = net.params.loss

-- the greatest delay of a hop (D)
abbrev pub delay : Network → ℕ
delay net = greatest_delay net

-- the greatest time between two ticks (Q)
abbrev pub tick_gap : Network → ℕ
tick_gap net = net.params.tick

-- P is round_gap, the greatest time between two emissions, and W is silence

-- within this time after a round is emitted the K + 1 next ones are (A)
abbrev pub rounds_gap : Network → ℕ
rounds_gap net = (losses net + 1) * round_gap net

-- silence and a tick (V)
abbrev pub noticed : Network → ℕ
noticed net = silence net + tick_gap net

-- the greatest and the least reference time of each wait
abbrev pub first_up : Network → Plan → ℕ
first_up net plan = greatest_up net plan.wait_first

-- the least reference time of the first wait
abbrev pub first_low : Network → Plan → ℕ
first_low net plan = least_low net plan.wait_first

-- the greatest reference time of the second wait
abbrev pub second_up : Network → Plan → ℕ
second_up net plan = greatest_up net plan.wait_second

-- the least reference time of the second wait
abbrev pub second_low : Network → Plan → ℕ
second_low net plan = least_low net plan.wait_second

-- the greatest reference time of the wait of other devices
abbrev pub wait_up : Network → Plan → ℕ
wait_up net plan = greatest_up net plan.wait

-- the least reference time of the wait of other devices
abbrev pub wait_low : Network → Plan → ℕ
wait_low net plan = least_low net plan.wait

-- The same as plain numbers, for arithmetic alone.

-- W of K, H, D and P
abbrev pub silence_of : ℕ → ℕ → ℕ → ℕ → ℕ
silence_of k h d p = (k + 2) * p + 4 * (h + 1) * d

-- what timing says of the numbers: K, H, D, P, Q, the least and greatest times of the first and second wait (l1, f1, l2, f2), and the
-- least time of the wait of other devices (lw)
pub record IsTimedBy (k h d p q l1 f1 l2 f2 lw : ℕ) : Type 0 where
  pub tick : 1 ≤ q
  pub gap : q + 1 ≤ p
  pub first_order : l1 ≤ f1
  pub second_order : l2 ≤ f2
  pub first_long : 2 * (silence_of k h d p + q) ≤ l1
  pub second_long : 2 * (silence_of k h d p + q) ≤ l2
  pub wait_long : f1 + f2 + 6 * (silence_of k h d p + q) ≤ lw
  pub wait_longer : 2 * f1 + f2 + 2 * (silence_of k h d p + q) ≤ lw
