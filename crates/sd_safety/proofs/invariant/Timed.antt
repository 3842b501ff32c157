-- A guarded plan meets the inequalities of Arithmetic, with the numbers of its network; and the waits of each device lie within them.
use Rattle.std.specs.Prelude.{◌≡◌, ℕ, ◌+◌, ◌*◌, ◌≤◌, ◌<◌, List, [], ◌∷◌, map, None}
use Rattle.std.proofs.Common.{arith}
use Rattle.std.proofs.lemmas.Bool.{ltb-false, leb-false}
use Rattle.sd_num.specs.Lists.{least, greatest}
use Rattle.sd_num.specs.Numbers.{low, up}
use Rattle.sd_plan.specs.topo.Network.{Network, Device, least_low, greatest_up, greatest_delay}
use Rattle.sd_plan.specs.declared.Plan.{Plan}
use Rattle.sd_checker.specs.check_root.Timing.{round_gap, silence, inequalities, is_broken, timing_breach}
use Rattle.sd_history.proofs.Among.{first, later}
use Rattle.sd_history.proofs.Shared.{none_passes}
use Rattle.sd_safety.specs.invariant.Bounds.{IsTimedBy, depth, losses, delay, tick_gap, first_low, first_up, second_low, second_up, wait_low}

-- the five inequalities
pub record IsTimed (net : Network) (plan : Plan) : Type 0 where
  pub period : 2 * (net.params.depth + 1) * greatest_delay net + net.params.tick < least_low net net.params.period
  pub first : 2 * (silence net + net.params.tick) ≤ least_low net plan.wait_first
  pub second : 2 * (silence net + net.params.tick) ≤ least_low net plan.wait_second
  pub wait : greatest_up net plan.wait_first + greatest_up net plan.wait_second + 6 * (silence net + net.params.tick) ≤ least_low net plan.wait
  pub longer : 2 * greatest_up net plan.wait_first + greatest_up net plan.wait_second + 2 * (silence net + net.params.tick) ≤ least_low net plan.wait

pub timed : (net : Network) (plan : Plan) → timing_breach net plan ≡ None → IsTimed net plan
timed net plan none =
    record {
      period = leb-false (least_low net net.params.period) (2 * (net.params.depth + 1) * greatest_delay net + net.params.tick)
          (none_passes is_broken (inequalities net plan) _ none first);
      first = ltb-false (least_low net plan.wait_first) (2 * (silence net + net.params.tick))
          (none_passes is_broken (inequalities net plan) _ none (later first));
      second = ltb-false (least_low net plan.wait_second) (2 * (silence net + net.params.tick))
          (none_passes is_broken (inequalities net plan) _ none (later (later first)));
      wait = ltb-false (least_low net plan.wait) (greatest_up net plan.wait_first + greatest_up net plan.wait_second + 6 * (silence net + net.params.tick))
          (none_passes is_broken (inequalities net plan) _ none (later (later (later first))));
      longer = ltb-false (least_low net plan.wait)
          (2 * greatest_up net plan.wait_first + greatest_up net plan.wait_second + 2 * (silence net + net.params.tick))
          (none_passes is_broken (inequalities net plan) _ none (later (later (later (later first)))));
    }

-- the least of what is low is at most the greatest of what is up
low_below_up : (x : ℕ) (devices : List Device) → least (map (λ device. low device.rates x) devices) ≤ greatest (map (λ device. up device.rates x) devices)
low_below_up x [] = omega arith
low_below_up x (d ∷ []) = omega arith
low_below_up x (d ∷ e ∷ rest) = omega (arith, low_below_up x (e ∷ rest))

pub least_below_greatest : (net : Network) (x : ℕ) → least_low net x ≤ greatest_up net x
least_below_greatest net x = low_below_up x net.devices

-- what Arithmetic asks for
pub timed_by : (net : Network) (plan : Plan) → 1 ≤ net.params.tick → timing_breach net plan ≡ None
    → IsTimedBy (losses net) (depth net) (delay net) (round_gap net) (tick_gap net) (first_low net plan) (first_up net plan) (second_low net plan)
    (second_up net plan) (wait_low net plan)
timed_by net plan tick none =
    let t : IsTimed net plan = timed net plan none in
    record {
      tick = tick;
      gap = omega (arith, t.period, least_below_greatest net net.params.period);
      first_order = least_below_greatest net plan.wait_first;
      second_order = least_below_greatest net plan.wait_second;
      first_long = t.first;
      second_long = t.second;
      wait_long = t.wait;
      wait_longer = t.longer;
    }
