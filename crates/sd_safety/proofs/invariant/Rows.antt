-- The invariant computes to true after each event of small histories in which no premise is broken: a whole round, a failure of the root with a
-- takeover, a link's failure with a move, two renewals, a device that fails and joins, a commit of the backup root. And it computes to false
-- after late ticks that make a loop, and after lost rounds that make two roots.
use Rattle.std.specs.Prelude.{◌≡◌, ◌+◌, Bool, true, false, ◌&&◌, not, List, [], ◌∷◌, ◌++◌, take, Some, is_some, refl}
use Rattle.sd_history.specs.World.{Setting, epoch_in_force}
use Rattle.sd_history.specs.Steps.{Step, seen_of, acts_in, parent_in}
use Rattle.sd_history.specs.Chronicle.{chronicle}
use Rattle.sd_history.specs.Refusals.{refusal}
use Rattle.sd_history.specs.Premises.{all_hold}
use Rattle.sd_history.proofs.Base.{steps_of, same_tick, base, rounds_of_ticks}
use Rattle.sd_history.proofs.Windows.{both_renewals}
use Rattle.sd_safety.specs.invariant.Invariant.{holds_at_each, invariant_holds}
use Rattle.sd_safety.proofs.invariant.Schedules.{one_plan, two_plans, three_plans, turned_plans, root_fails, mended_and_joined, backup_root_commits, link_fails, early_plans, commits_early, left_out, leaves_out, starts_late}

-- each event was accepted
abbrev are_accepted : Setting → List Step → Bool
are_accepted setting [] = true
are_accepted setting (s ∷ earlier) = are_accepted setting earlier && not (is_some (refusal setting earlier s.seen.event))

-- the events are a history, no premise is broken, and the invariant holds after each event
abbrev is_safe : Setting → List Step → Bool
is_safe setting steps = are_accepted setting steps && all_hold setting (seen_of steps) && holds_at_each setting steps

whole_schedule : is_safe one_plan (steps_of one_plan base) ≡ true
whole_schedule = refl

two_renewals : is_safe three_plans (steps_of three_plans both_renewals) ≡ true
two_renewals = refl

joins_again : is_safe two_plans (steps_of two_plans mended_and_joined) ≡ true
joins_again = refl

takes_over : is_safe one_plan (steps_of one_plan (root_fails 32)) && acts_in (steps_of one_plan (root_fails 32)) 1 ≡ true
takes_over = refl

commits : is_safe turned_plans (steps_of turned_plans backup_root_commits) ≡ true
commits = refl

committed : epoch_in_force (seen_of (steps_of turned_plans backup_root_commits)) ≡ 2
committed = refl

moves_over : is_safe one_plan (chronicle one_plan link_fails) ≡ true
moves_over = refl

moved_over : parent_in (chronicle one_plan link_fails) 1 ≡ Some 2
moved_over = refl

commits_with_untouched : is_safe early_plans (steps_of early_plans commits_early) ≡ true
commits_with_untouched = refl

starts_at_last : is_safe one_plan (chronicle one_plan starts_late) ≡ true
starts_at_last = refl

leaves_one_out : is_safe left_out (chronicle left_out leaves_out) ≡ true
leaves_one_out = refl

left_one_out : epoch_in_force (seen_of (chronicle left_out leaves_out)) ≡ 2
left_one_out = refl

-- broken ones

makes_a_loop : invariant_holds one_plan (steps_of one_plan (take 3 base ++ same_tick 1350000000 1 ∷ same_tick 6730000000 2 ∷ [])) ≡ false
makes_a_loop = refl

makes_two_roots : invariant_holds one_plan (steps_of one_plan (take 3 base ++ rounds_of_ticks)) ≡ false
unfolding rounds_of_ticks
makes_two_roots = refl
