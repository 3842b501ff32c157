-- The hypotheses on hearing and feeding, as tests, compute to true before each event of small histories: the same as those of the silences.
use Rattle.std.specs.Prelude.{◌≡◌, ℕ, ◌*◌, ◌+◌, Bool, true, ◌&&◌, not, List, [], ◌∷◌, max, nat_le, refl}
use Rattle.std.specs.List.{list_all}
use Rattle.sd_plan.specs.topo.Network.{device_numbers}
use Rattle.sd_checker.specs.check_root.Timing.{round_gap}
use Rattle.sd_sched.specs.Events.{reference_of}
use Rattle.sd_history.specs.World.{Setting}
use Rattle.sd_history.specs.Steps.{Step, acts_in}
use Rattle.sd_history.specs.Chronicle.{chronicle}
use Rattle.sd_history.proofs.Base.{steps_of, base}
use Rattle.sd_history.proofs.Windows.{both_renewals}
use Rattle.sd_safety.specs.invariant.Bounds.{depth, delay, losses, rounds_gap, tick_gap}
use Rattle.sd_safety.specs.invariant.Eras.{plan_now, is_old, on_primary, on_backup, is_behind, hit, path_hit, root_failed, root_lives, heard_at, moved_at}
use Rattle.sd_safety.specs.invariant.Clauses.{◌⟹◌}
use Rattle.sd_safety.specs.invariant.Silences.{root_leads, root_failed_at}
use Rattle.sd_safety.specs.behind.Feeding.{mended_now, path_failed_at, took_over_at}
use Rattle.sd_safety.proofs.invariant.Schedules.{one_plan, two_plans, three_plans, turned_plans, root_fails, mended_and_joined, backup_root_commits, link_fails, left_out, leaves_out, starts_late}

abbrev stands_behind : Setting → List Step → ℕ → Bool
stands_behind setting steps d = is_old steps d && is_behind setting.net (plan_now setting steps) d && on_primary steps d && not (hit setting steps d)

abbrev is_fed : Setting → List Step → ℕ → ℕ → Bool
is_fed setting steps reference d =
    let net = setting.net in
    let b = (plan_now setting steps).backup_root in
    (stands_behind setting steps d && root_lives setting steps && root_leads setting steps && is_old steps b && on_backup steps b
    ⟹ nat_le reference (max (heard_at steps d) (moved_at steps b) + (rounds_gap net + 2 * depth net * delay net) + 2 * tick_gap net))
    && (stands_behind setting steps d && is_old steps b && acts_in steps b
    ⟹ nat_le reference
    (max (took_over_at steps b + (losses net * round_gap net + depth net * delay net))
    (heard_at steps d + (rounds_gap net + depth net * delay net)) + tick_gap net))

abbrev hears_no_more : Setting → List Step → Bool
hears_no_more setting steps =
    let net = setting.net in
    let b = (plan_now setting steps).backup_root in
    (root_failed setting steps && is_old steps b && not (acts_in steps b) ⟹ nat_le (heard_at steps b)
    (root_failed_at setting steps + (depth net + 1) * delay net))
    && (not (mended_now steps) && path_hit setting steps b && is_old steps b
    && on_primary steps b ⟹ nat_le (heard_at steps b) (path_failed_at setting steps + depth net * delay net))

abbrev are_fed : Setting → List Step → Bool
are_fed setting [] = true
are_fed setting (s ∷ earlier) =
    are_fed setting earlier && hears_no_more setting earlier && list_all (is_fed setting earlier (reference_of s.seen.event)) (device_numbers setting.net)

whole_schedule : are_fed one_plan (steps_of one_plan base) ≡ true
whole_schedule = refl

two_renewals : are_fed three_plans (steps_of three_plans both_renewals) ≡ true
two_renewals = refl

joins_again : are_fed two_plans (steps_of two_plans mended_and_joined) ≡ true
joins_again = refl

takes_over : are_fed one_plan (steps_of one_plan (root_fails 32)) ≡ true
takes_over = refl

commits : are_fed turned_plans (steps_of turned_plans backup_root_commits) ≡ true
commits = refl

moves_over : are_fed one_plan (chronicle one_plan link_fails) ≡ true
moves_over = refl

starts_at_last : are_fed one_plan (chronicle one_plan starts_late) ≡ true
starts_at_last = refl

leaves_one_out : are_fed left_out (chronicle left_out leaves_out) ≡ true
leaves_one_out = refl
