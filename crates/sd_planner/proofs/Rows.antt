-- A greedy plan that was worked out by hand.
use Rattle.std.specs.Prelude.{◌≡◌, ◌+◌, ◌*◌, [], ◌∷◌, Some, true, false, nat_le, refl}
use Rattle.sd_plan.specs.topo.Network.{least_low, greatest_up}
use Rattle.sd_checker.specs.check_root.Timing.{silence}
use Rattle.sd_plan.specs.Examples.{fabric, fabric_rows, hop}
use Rattle.sd_plan.specs.Plans.{nothing_absent}
use Rattle.sd_planner.specs.Placing.{backup_root_of, placed}
use Rattle.sd_planner.specs.Serving.{greedy_rows, primaries, walk_up}

fabric_greedy : greedy_rows fabric 0 nothing_absent ≡ fabric_rows (Some (hop 1 5))
unfolding greedy_rows primaries walk_up placed
fabric_greedy = refl

-- the wait of the first: enough, and one less is not
first_wait : nat_le (2 * (silence fabric + 10000000)) (least_low fabric 712269454) ≡ true
first_wait = refl

no_less : nat_le (2 * (silence fabric + 10000000)) (least_low fabric 712269453) ≡ false
no_less = refl

ordinary_wait : nat_le (2 * greatest_up fabric 712269454 + 6 * (silence fabric + 10000000)) (least_low fabric 3561917200) ≡ true
ordinary_wait = refl

ordinary_no_less : nat_le (2 * greatest_up fabric 712269454 + 6 * (silence fabric + 10000000)) (least_low fabric 3561917199) ≡ false
ordinary_no_less = refl

without_root : backup_root_of fabric 0 (record { devices = 0 ∷ []; links = [] }) ≡ 1
without_root = refl
