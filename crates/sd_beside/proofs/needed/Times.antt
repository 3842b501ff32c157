-- What the rules of timing say of the waits themselves.
use Rattle.std.specs.Prelude.{◌≡◌, ℕ, ◌+◌, ◌*◌, ◌≤◌, List, [], ◌∷◌, length, map, None}
use Rattle.std.proofs.Common.{arith}
use Rattle.std.proofs.lemmas.Bool.{ltb-false}
use Rattle.sd_num.specs.Lists.{least, greatest}
use Rattle.sd_num.specs.Numbers.{low, up}
use Rattle.sd_plan.specs.topo.Network.{Network, Device, least_low, greatest_up}
use Rattle.sd_plan.specs.topo.Limits.{IsNetwork}
use Rattle.sd_plan.specs.declared.Plan.{Plan}
use Rattle.sd_checker.specs.check_root.Timing.{silence, inequalities, is_broken, timing_breach}
use Rattle.sd_history.proofs.Among.{first, later}
use Rattle.sd_history.proofs.Shared.{none_passes}

-- the least reference time is no more than the counter time
least_below : (x : ℕ) (devices : List Device) → least (map (λ device. low device.rates x) devices) ≤ x
least_below x [] = omega arith
least_below x (d ∷ []) = omega arith
least_below x (d ∷ e ∷ rest) = let more = least_below x (e ∷ rest) in omega (arith, more)

-- and the greatest is no less
greatest_above : (x : ℕ) (devices : List Device) → 1 ≤ length devices → x ≤ greatest (map (λ device. up device.rates x) devices)
greatest_above x [] some = absurd (omega (arith, some))
greatest_above x (d ∷ rest) some = omega arith

-- the waits of the backup root take some time, and the wait of all others outlasts both and a tick
pub record IsOrdered (net : Network) (plan : Plan) : Type 0 where
  pub first : 1 ≤ plan.wait_first
  pub second : 1 ≤ plan.wait_second
  pub wait : plan.wait_first + plan.wait_second + net.params.tick ≤ plan.wait

pub ordered : (net : Network) (plan : Plan) → IsNetwork net → timing_breach net plan ≡ None → IsOrdered net plan
ordered net plan law timed =
    let one = ltb-false (least_low net plan.wait_first) (2 * (silence net + net.params.tick))
    (none_passes is_broken (inequalities net plan) _ timed (later first)) in
    let two = ltb-false (least_low net plan.wait_second) (2 * (silence net + net.params.tick))
    (none_passes is_broken (inequalities net plan) _ timed (later (later first))) in
    let both = ltb-false (least_low net plan.wait)
    (greatest_up net plan.wait_first + greatest_up net plan.wait_second + 6 * (silence net + net.params.tick))
    (none_passes is_broken (inequalities net plan) _ timed (later (later (later first)))) in
    let some = law.tick.0 in
    let low_first : least_low net plan.wait_first ≤ plan.wait_first = least_below plan.wait_first net.devices in
    let low_second : least_low net plan.wait_second ≤ plan.wait_second = least_below plan.wait_second net.devices in
    let low_wait : least_low net plan.wait ≤ plan.wait = least_below plan.wait net.devices in
    let up_first : plan.wait_first ≤ greatest_up net plan.wait_first = greatest_above plan.wait_first net.devices law.devices.0 in
    let up_second : plan.wait_second ≤ greatest_up net plan.wait_second = greatest_above plan.wait_second net.devices law.devices.0 in
    record {
      first = omega (arith, one, some, low_first);
      second = omega (arith, two, some, low_second);
      wait = omega (arith, both, low_wait, up_first, up_second);
    }
