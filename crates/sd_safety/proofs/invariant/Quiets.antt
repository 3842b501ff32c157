-- The statements on silences, as tests, compute to true before each event of the same small histories.
use Rattle.std.specs.Prelude.{◌≡◌, ℕ, ◌*◌, ◌+◌, Bool, true, ◌&&◌, not, List, [], ◌∷◌, nat_eq, nat_le, nat_lt, refl}
use Rattle.std.specs.List.{list_all}
use Rattle.sd_plan.specs.topo.Network.{device_numbers}
use Rattle.sd_checker.specs.check_root.Timing.{round_gap}
use Rattle.sd_sched.specs.Events.{reference_of}
use Rattle.sd_history.specs.World.{Setting}
use Rattle.sd_history.specs.Steps.{Step, acts_in}
use Rattle.sd_history.specs.Chronicle.{chronicle}
use Rattle.sd_history.proofs.Base.{steps_of, base}
use Rattle.sd_history.proofs.Windows.{both_renewals}
use Rattle.sd_safety.specs.invariant.Bounds.{depth, delay, tick_gap, rounds_gap, first_up, second_up, wait_low}
use Rattle.sd_safety.specs.invariant.Eras.{plan_now, is_old, is_new, on_primary, on_backup, is_ordinary, is_behind, hit, hit_otherwise, path_hit, root_failed, root_lives, heard_since_made, silent_for, rests_for}
use Rattle.sd_safety.specs.invariant.Clauses.{◌⟹◌, staged_root}
use Rattle.sd_safety.specs.invariant.Silences.{root_leads, root_failed_at}
use Rattle.sd_safety.proofs.invariant.Schedules.{one_plan, two_plans, three_plans, turned_plans, root_fails, mended_and_joined, backup_root_commits, link_fails, left_out, leaves_out, starts_late}

abbrev device_is_silent : Setting → List Step → ℕ → ℕ → Bool
device_is_silent setting steps reference d =
    let net = setting.net in
    let plan = plan_now setting steps in
    let silence = silent_for steps d reference in
    (root_lives setting steps && root_leads setting steps && is_old steps d && on_primary steps d && not (path_hit setting steps d)
    ⟹ nat_le silence (rounds_gap net + round_gap net + depth net * delay net)
    && (heard_since_made steps d ⟹ nat_le silence (rounds_gap net + depth net * delay net + tick_gap net)))
    && (is_old steps d && is_behind net plan d && on_primary steps d && not (hit setting steps d) ⟹ nat_lt silence (wait_low net plan))
    && (is_old steps d && is_ordinary plan d && on_primary steps d && not (is_behind net plan d) && not (hit_otherwise setting steps d)
    && not (acts_in steps plan.backup_root)
    ⟹ nat_lt silence (wait_low net plan))
    && (is_new steps d && not (nat_eq d (staged_root setting steps)) ⟹ nat_le silence (rounds_gap net + depth net * delay net))

abbrev backup_root_is_silent : Setting → List Step → ℕ → Bool
backup_root_is_silent setting steps reference =
    let net = setting.net in
    let plan = plan_now setting steps in
    let b = plan.backup_root in
    (root_lives setting steps && root_leads setting steps && is_old steps b && on_backup steps b
    ⟹ nat_le (rests_for steps b reference) (rounds_gap net + round_gap net + (depth net + 1) * delay net))
    && (root_failed setting steps && is_old steps b && not (acts_in steps b)
    ⟹ nat_le reference (root_failed_at setting steps + (depth net + 1) * delay net + first_up net plan + second_up net plan + 2 * tick_gap net))

abbrev are_silent : Setting → List Step → Bool
are_silent setting [] = true
are_silent setting (s ∷ earlier) =
    are_silent setting earlier && backup_root_is_silent setting earlier (reference_of s.seen.event)
    && list_all (device_is_silent setting earlier (reference_of s.seen.event)) (device_numbers setting.net)

whole_schedule : are_silent one_plan (steps_of one_plan base) ≡ true
whole_schedule = refl

two_renewals : are_silent three_plans (steps_of three_plans both_renewals) ≡ true
two_renewals = refl

joins_again : are_silent two_plans (steps_of two_plans mended_and_joined) ≡ true
joins_again = refl

takes_over : are_silent one_plan (steps_of one_plan (root_fails 32)) ≡ true
takes_over = refl

commits : are_silent turned_plans (steps_of turned_plans backup_root_commits) ≡ true
commits = refl

moves_over : are_silent one_plan (chronicle one_plan link_fails) ≡ true
moves_over = refl

starts_at_last : are_silent one_plan (chronicle one_plan starts_late) ≡ true
starts_at_last = refl

leaves_one_out : are_silent left_out (chronicle left_out leaves_out) ≡ true
leaves_one_out = refl
