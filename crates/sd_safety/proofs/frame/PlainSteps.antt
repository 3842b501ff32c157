-- What a plain step leaves alone of the world: the plan in force, what failed in the era, the open window with its commit, joins and staged plan,
-- and the state of links. Each word with the part of being plain that it needs.
use Rattle.std.specs.Prelude.{◌≡◌, ℕ, ◌+◌, Bool, true, false, ◌&&◌, ◌||◌, not, List, [], ◌∷◌, cond, fold, filter_map, Option, Some, None, option_map, refl, if◌then◌else◌}
use Rattle.std.specs.List.{list_any, cons_option}
use Rattle.std.proofs.Common.{◌∙◌, ap}
use Rattle.sd_num.specs.Lists.{map_or, same_number, find_map_or, leading}
use Rattle.sd_plan.specs.declared.topo.Thing.{Thing}
use Rattle.sd_plan.specs.declared.topo.Thing.TheVariants as thing
use Rattle.sd_sched.specs.Events.{reference_of, joined, is_stage, is_commit}
use Rattle.sd_history.specs.Things.{failure_of, mended}
use Rattle.sd_history.specs.World.{Setting, Seen, makes, fails, is_thing, has_failed, was_made, has_ever_failed, is_untouched, window, in_window, has_commit, staged_epoch, plan_numbered, staged, joined_in_window}
use Rattle.sd_history.specs.Steps.{Step, seen_of}
use Rattle.sd_safety.specs.invariant.Eras.{era, plan_now, failed_now}
use Rattle.sd_safety.specs.invariant.Clauses.{commit_at}

module _ (setting : Setting) (earlier : List Step) (s : Step) (stays : s.seen.closed ≡ false) where
  pub era_kept : era (s ∷ earlier) ≡ era earlier
  era_kept = ap (λ b. fold (λ n (x : Seen). n + cond x.closed 1 0) (0 + cond b 1 0) (seen_of earlier) + 1) stays

  pub plan_kept : plan_now setting (s ∷ earlier) ≡ plan_now setting earlier
  plan_kept = ap (plan_numbered setting) era_kept

  pub staged_epoch_kept : staged_epoch (seen_of (s ∷ earlier)) ≡ staged_epoch (seen_of earlier)
  staged_epoch_kept = ap (λ n. n + 1) era_kept

  -- what failed is the step's failure, if any, and what failed before
  pub failed_more : failed_now (s ∷ earlier) ≡ cons_option (failure_of s.seen.event) (failed_now earlier)
  failed_more = ap (λ b. filter_map (λ (x : Seen). failure_of x.event) (if not b then s.seen ∷ leading (λ x. not x.closed) (seen_of earlier) else [])) stays

  module _ (unfailed : failure_of s.seen.event ≡ None) where
    pub failed_kept : failed_now (s ∷ earlier) ≡ failed_now earlier
    failed_kept = failed_more ∙ ap (λ o. cons_option o (failed_now earlier)) unfailed

  module _ (unstaged : is_stage s.seen.event ≡ false) where
    -- the open window goes on
    pub window_goes_on : window (seen_of (s ∷ earlier)) ≡ option_map (λ w. s.seen ∷ w) (window (seen_of earlier))
    window_goes_on =
        ap (λ b. if b then None else if is_stage s.seen.event then Some [] else option_map (λ w. s.seen ∷ w) (window (seen_of earlier))) stays
        ∙ ap (λ b. if b then Some [] else option_map (λ w. s.seen ∷ w) (window (seen_of earlier))) unstaged

    -- and what passes a test in it is what passed before, where this step does not
    pub in_window_kept : (test : Seen → Bool) → test s.seen ≡ false → in_window test (seen_of (s ∷ earlier)) ≡ in_window test (seen_of earlier)
    in_window_kept test passes_not = ap (λ (o : Option (List Seen)). map_or o false (list_any test)) window_goes_on ∙ go (window (seen_of earlier))
      where
        go : (o : Option (List Seen)) → map_or (option_map (λ w. s.seen ∷ w) o) false (list_any test) ≡ map_or o false (list_any test)
        go None = refl
        go (Some w) = ap (λ b. b || list_any test w) passes_not

    pub commit_kept : is_commit s.seen.event ≡ false → has_commit (seen_of (s ∷ earlier)) ≡ has_commit (seen_of earlier)
    commit_kept none = in_window_kept (λ x. is_commit x.event) none

    pub joined_kept : (d : ℕ) → joined s.seen.event ≡ None → joined_in_window (seen_of (s ∷ earlier)) d ≡ joined_in_window (seen_of earlier) d
    joined_kept d none = in_window_kept (λ x. same_number (joined x.event) d) (ap (λ (o : Option ℕ). same_number o d) none)

    pub staged_kept : staged setting (seen_of (s ∷ earlier)) ≡ staged setting (seen_of earlier)
    staged_kept =
        ap (λ (o : Option (List Seen)). option_map (λ w. plan_numbered setting (staged_epoch (seen_of (s ∷ earlier)))) o) window_goes_on
        ∙ ap (λ n. option_map (λ (w : List Seen). plan_numbered setting n) (option_map (λ w. s.seen ∷ w) (window (seen_of earlier)))) staged_epoch_kept
        ∙ go (window (seen_of earlier))
      where
        go : (o : Option (List Seen)) → option_map (λ (w : List Seen). plan_numbered setting (staged_epoch (seen_of earlier))) (option_map (λ w. s.seen ∷ w) o)
            ≡ option_map (λ w. plan_numbered setting (staged_epoch (seen_of earlier))) o
        go None = refl
        go (Some w) = refl

    -- its commit came when it came
    pub commit_at_kept : is_commit s.seen.event ≡ false → commit_at (s ∷ earlier) ≡ commit_at earlier
    commit_at_kept none = ap (λ (o : Option (List Seen)). map_or o 0 at) window_goes_on ∙ go (window (seen_of earlier))
      where
        at : List Seen → ℕ
        at w = find_map_or (λ x. if is_commit x.event then Some (reference_of x.event) else None) w 0

        go : (o : Option (List Seen)) → map_or (option_map (λ w. s.seen ∷ w) o) 0 at ≡ map_or o 0 at
        go None = refl
        go (Some w) = ap (λ b. map_or (if b then Some (reference_of s.seen.event) else None) (at w) (λ told. told)) none

-- a thing that the step neither fails nor mends is failed as it was
pub has_failed_kept : (earlier : List Step) (s : Step) (x : Thing) → fails x s.seen.event ≡ false → is_thing (mended s.seen.event) x ≡ false
    → has_failed (seen_of (s ∷ earlier)) x ≡ has_failed (seen_of earlier) x
has_failed_kept earlier s x unfailed unmended =
    ap (λ b. map_or (if b then Some true else if is_thing (mended s.seen.event) x then Some false else None) (has_failed (seen_of earlier) x) (λ told. told))
    unfailed
    ∙ ap (λ b. map_or (if b then Some false else None) (has_failed (seen_of earlier) x) (λ told. told)) unmended

-- a device that the step neither makes nor fails is untouched as it was
pub untouched_kept : (earlier : List Step) (s : Step) (d : ℕ) → makes d s.seen.event ≡ false → fails (thing.Device d) s.seen.event ≡ false
    → is_untouched (seen_of (s ∷ earlier)) d ≡ is_untouched (seen_of earlier) d
untouched_kept earlier s d unmade unfailed =
    ap (λ b. not (b || was_made (seen_of earlier) d) && not (fails (thing.Device d) s.seen.event || has_ever_failed (seen_of earlier) d)) unmade
    ∙ ap (λ b. not (was_made (seen_of earlier) d) && not (b || has_ever_failed (seen_of earlier) d)) unfailed
