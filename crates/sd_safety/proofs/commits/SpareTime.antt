-- While the backup root is old: a device behind it that is not hit has A + H * D to spare before its least wait is over, while the root lives; and so it has
-- from the
-- takeover on. From 13 at the failure that broke the path of the backup root, the deadlines of the backup root, and what comes over the fallback.
use Rattle.std.specs.Prelude.{◌≡◌, ℕ, ◌+◌, ◌*◌, ◌<◌, ◌≤◌, Bool, true, false, ◌&&◌, List, [], ◌∷◌, max, nat_eq, nat_le, refl, ◌⊎◌}
use Rattle.std.proofs.Common.{arith, inl, inr}
use Rattle.std.proofs.lemmas.Bool.{and_from, leb-true, leb-false, false_from_ne_true, false≢true}
use Rattle.sd_plan.specs.declared.Plan.{Plan}
use Rattle.sd_checker.specs.check_root.Timing.{round_gap}
use Rattle.sd_sched.specs.declared.Event.{Event}
use Rattle.sd_sched.specs.Events.{reference_of}
use Rattle.sd_history.specs.World.{Setting}
use Rattle.sd_history.specs.Steps.{Step, acts_in}
use Rattle.sd_history.specs.Chronicle.{chronicle}
use Rattle.sd_safety.specs.invariant.Bounds.{losses, depth, delay, tick_gap, rounds_gap, first_low, first_up, second_low, second_up, wait_low, IsTimedBy}
use Rattle.sd_safety.specs.invariant.Clauses.{backup_root_acts}
use Rattle.sd_safety.specs.invariant.Coming.{IsNextEvent, AtNext}
use Rattle.sd_safety.specs.invariant.Eras.{era, plan_now, failed_now, all_started, is_old, moved, on_primary, path_hit, root_failed, heard_at, moved_at}
use Rattle.sd_safety.specs.invariant.Silences.{WholePathHears, root_failed_at}
use Rattle.sd_safety.proofs.invariant.Sides.{implied, not_both}
use Rattle.sd_safety.proofs.waits.Standing as standing
use Rattle.sd_safety.proofs.waits.Standing.{now, sound, leads, lives, heard_late}
use Rattle.sd_safety.proofs.waits.Waits.{Stands, old_stands}
use Rattle.sd_safety.specs.behind.Feeding.{mended_now, path_failed_at, PathHearsNoMore, StandsBehind, FallbackFeeds, TookOverSoon, took_over_at, MendedHears, MendedMoves}
use Rattle.sd_safety.specs.behind.Pieces.{SealsSoon}
use Rattle.sd_safety.proofs.behind.Breaks.{Fed, Heard, MovedFirst, MovedLater, IsBounded, bounded_unmended, bounded_mended, backup_root_low, broke, root_soon}
use Rattle.sd_safety.proofs.behind.Moved.{silence_now}
use Rattle.sd_safety.proofs.behind.Takeover.{primary_where, backup_where}
use Rattle.sd_safety.proofs.behind.Paths.{path_by_parts}
use Rattle.sd_safety.specs.commits.Entering.{BehindWaitsLonger, TookOverEarly}
use Rattle.sd_safety.proofs.commits.Sums.{whole_sum, begun_sum, primary_sum, fed_sum, taken_sum, straggler_taken_sum}

moved_twice : (m g l f q : ℕ) → m ≤ g + l + f + q → m ≤ g + l + 2 * (f + q)
moved_twice m g l f q le = omega (arith, le)

fed_twice : (r hd m l q : ℕ) → r ≤ max hd m + l + q → r ≤ max hd m + l + 2 * q
fed_twice r hd m l q le = omega (arith, le)

module _ (setting : Setting) (hears_whole : AtNext WholePathHears setting) (seals : AtNext SealsSoon setting) (fallback_feeds : AtNext FallbackFeeds setting)
    (took_over : AtNext TookOverSoon setting) where
  module _ (x : Event) (h : List Event) (e : Event) (comes : IsNextEvent setting (x ∷ h) e) (d : ℕ) (st : StandsBehind setting (chronicle setting (x ∷ h)) d)
      (old_b : is_old (chronicle setting (x ∷ h)) (plan_now setting (chronicle setting (x ∷ h))).backup_root ≡ true)
      (bounded : path_hit setting (chronicle setting (x ∷ h)) (plan_now setting (chronicle setting (x ∷ h))).backup_root ≡ true
      → IsBounded setting (chronicle setting (x ∷ h)) (reference_of e) d) where
    abbrev steps : List Step
    steps = chronicle setting (x ∷ h)

    abbrev plan : Plan
    plan = plan_now setting (chronicle setting (x ∷ h))

    abbrev b : ℕ
    b = (plan_now setting (chronicle setting (x ∷ h))).backup_root

    abbrev lag : ℕ
    lag = rounds_gap setting.net + round_gap setting.net + depth setting.net * delay setting.net

    abbrev Longer : Type 0
    Longer = reference_of e + (rounds_gap setting.net + depth setting.net * delay setting.net) < heard_at (chronicle setting (x ∷ h)) d + wait_low setting.net
        (plan_now setting (chronicle setting (x ∷ h)))

    timed_ : IsTimedBy (losses setting.net) (depth setting.net) (delay setting.net) (round_gap setting.net) (tick_gap setting.net)
        (first_low setting.net plan) (first_up setting.net plan) (second_low setting.net plan) (second_up setting.net plan) (wait_low setting.net plan)
    timed_ = (sound setting x h e comes).timed

    -- While the root lives

    module _ (root : root_failed setting (chronicle setting (x ∷ h)) ≡ false) (late_ : standing.Early setting x h e comes → ⊥) where
      still : acts_in steps b ≡ false
      still = false_from_ne_true (acts_in steps b)
          (λ acts. not_both (root_failed setting steps)
          (implied (backup_root_acts setting steps) (root_failed setting steps) (now setting x h e comes).core.causes.takeover acts) root)

      -- on its backup: it comes over the fallback
      fed_over : moved steps b ≡ true
          → reference_of e ≤ max (heard_at steps d) (moved_at steps b) + (rounds_gap setting.net + 2 * depth setting.net * delay setting.net) + 2 * tick_gap
          setting.net
      fed_over put =
          fallback_feeds (x ∷ h) e comes d st (lives setting x h e comes root late_) (leads setting x h e comes root) old_b (backup_where steps b put still)

      by_moving : path_failed_at setting steps ≤ heard_at steps d + lag → moved steps b ≡ true → MovedFirst setting steps ⊎ MovedLater setting steps → Longer
      by_moving g_le put (inl m_le) =
          fed_sum (losses setting.net) (depth setting.net) (delay setting.net) (round_gap setting.net) (tick_gap setting.net) _ _ _ _ _ timed_ (reference_of e)
          (moved_at steps b) (path_failed_at setting steps) (heard_at steps d) (fed_over put)
          (moved_twice (moved_at steps b) (path_failed_at setting steps) (depth setting.net * delay setting.net) (first_up setting.net plan)
          (tick_gap setting.net) m_le) g_le
      by_moving g_le put (inr both) =
          fed_sum (losses setting.net) (depth setting.net) (delay setting.net) (round_gap setting.net) (tick_gap setting.net) _ _ _ _ _ timed_ (reference_of e)
          (moved_at steps b) (path_failed_at setting steps) (heard_at steps d) (fed_over put) both.0 g_le

      by_hearing : path_failed_at setting steps ≤ heard_at steps d + lag → on_primary steps b ≡ true
          → Fed setting steps (reference_of e) d ⊎ Heard setting steps → Longer
      by_hearing g_le primary (inl fed) =
          let m : ℕ = path_failed_at setting steps + depth setting.net * delay setting.net + 2 * (first_up setting.net plan + tick_gap setting.net) in
          fed_sum (losses setting.net) (depth setting.net) (delay setting.net) (round_gap setting.net) (tick_gap setting.net) _ _ _ _ _ timed_
          (reference_of e) m (path_failed_at setting steps) (heard_at steps d)
          (fed_twice (reference_of e) (heard_at steps d) m (rounds_gap setting.net + 2 * depth setting.net * delay setting.net) (tick_gap setting.net) fed)
          (omega arith) g_le
      by_hearing g_le primary (inr heard) =
          primary_sum (losses setting.net) (depth setting.net) (delay setting.net) (round_gap setting.net) (tick_gap setting.net) _ _ _ _ _ timed_
          (reference_of e) (heard_at steps b) (path_failed_at setting steps) (heard_at steps d)
          (silence_now setting (x ∷ h) e comes (seals (x ∷ h) e comes) old_b primary) heard g_le

      by_place : path_hit setting steps b ≡ true → (m : Bool) → moved steps b ≡ m → Longer
      by_place broken false put = let primary : on_primary steps b ≡ true = primary_where setting (x ∷ h) b old_b put still in
          by_hearing (broke setting hears_whole x h e comes d st broken) primary ((bounded broken).hears primary)
      by_place broken true put = by_moving (broke setting hears_whole x h e comes d st broken) put ((bounded broken).moves put)

      by_path : (p : Bool) → path_hit setting steps b ≡ p → Longer
      by_path true broken = by_place broken (moved steps b) refl
      by_path false whole_ =
          let path_ : path_hit setting steps d ≡ false =
          path_by_parts setting.net plan (failed_now steps) d (backup_root_low setting x h e comes) st.missed whole_ in
          whole_sum (losses setting.net) (depth setting.net) (delay setting.net) (round_gap setting.net) (tick_gap setting.net) _ _ _ _ _ timed_
          (reference_of e) (heard_at steps d)
          (hears_whole (x ∷ h) e comes d (lives setting x h e comes root late_) (leads setting x h e comes root) st.old st.primary path_).0

    by_age : root_failed setting steps ≡ false → (c1 c2 : Bool) → nat_eq (era steps) 1 ≡ c1 → nat_le (reference_of e) (all_started setting steps) ≡ c2 → Longer
    by_age root true true era_ le_ =
        let s : Stands setting steps d = old_stands setting (x ∷ h) d st.old in
        begun_sum (losses setting.net) (depth setting.net) (delay setting.net) (round_gap setting.net) (tick_gap setting.net) _ _ _ _ _ timed_
        (reference_of e) _ (heard_at steps d)
        (leb-true (reference_of e) (all_started setting steps) le_) (heard_late setting x h e comes d s.past s.there)
    by_age root true false era_ le_ =
        let lt : all_started setting steps < reference_of e = leb-false (reference_of e) (all_started setting steps) le_ in
        by_path root (λ early. let le = early.1 in omega (arith, le, lt)) (path_hit setting steps b) refl
    by_age root false c2 era_ le_ = by_path root (λ early. not_both (nat_eq (era steps) 1) early.0 era_) (path_hit setting steps b) refl

    waits_longer : root_failed setting steps ≡ false → Longer
    waits_longer root = by_age root (nat_eq (era steps) 1) (nat_le (reference_of e) (all_started setting steps)) refl refl

    -- Where the backup root acts

    by_taking : path_failed_at setting steps ≤ heard_at steps d + lag → root_failed setting steps ≡ true → moved steps b ≡ true
        → took_over_at steps b ≤ max (moved_at steps b) (root_failed_at setting steps + (depth setting.net + 1) * delay setting.net) + second_up setting.net
        plan + tick_gap setting.net → MovedFirst setting steps ⊎ MovedLater setting steps
        → took_over_at steps b + (rounds_gap setting.net + depth setting.net * delay setting.net) < heard_at steps d + wait_low setting.net plan
    by_taking g_le root put took (inl m_le) =
        taken_sum (losses setting.net) (depth setting.net) (delay setting.net) (round_gap setting.net) (tick_gap setting.net) _ _ _ _ _ timed_
        (took_over_at steps b) (moved_at steps b) (path_failed_at setting steps) (root_failed_at setting steps) (heard_at steps d)
        took m_le g_le (root_soon setting hears_whole x h e comes d st fallback_feeds old_b g_le root put m_le)
    by_taking g_le root put took (inr both) =
        straggler_taken_sum (losses setting.net) (depth setting.net) (delay setting.net) (round_gap setting.net) (tick_gap setting.net) _ _ _ _ _ timed_
        (took_over_at steps b) (moved_at steps b) (path_failed_at setting steps) (root_failed_at setting steps) (heard_at steps d)
        took (both.1 root) both.0 g_le

    took_early : acts_in steps b ≡ true
        → took_over_at steps b + (rounds_gap setting.net + depth setting.net * delay setting.net) < heard_at steps d + wait_low setting.net plan
    took_early acts =
        let took = took_over (x ∷ h) e comes old_b acts in
        let root : root_failed setting steps ≡ true =
        implied (backup_root_acts setting steps) (root_failed setting steps) (now setting x h e comes).core.causes.takeover acts in
        let broken : path_hit setting steps b ≡ true =
        implied (is_old steps b && moved steps b) (path_hit setting steps b) (now setting x h e comes).core.causes.move
        (and_from (is_old steps b) (moved steps b) old_b took.0) in
        by_taking (broke setting hears_whole x h e comes d st broken) root took.0 took.1 ((bounded broken).moves took.0)

  -- by the era, which has a mend or not
  module _ (path_no_more : AtNext PathHearsNoMore setting) (mended_hears : AtNext MendedHears setting) (mended_moves : AtNext MendedMoves setting) where
    bounded_by : (x : Event) (h : List Event) (e : Event) (comes : IsNextEvent setting (x ∷ h) e) (d : ℕ) → StandsBehind setting (chronicle setting (x ∷ h)) d
        → is_old (chronicle setting (x ∷ h)) (plan_now setting (chronicle setting (x ∷ h))).backup_root ≡ true → (m : Bool)
        → mended_now (chronicle setting (x ∷ h)) ≡ m
        → path_hit setting (chronicle setting (x ∷ h)) (plan_now setting (chronicle setting (x ∷ h))).backup_root ≡ true
        → IsBounded setting (chronicle setting (x ∷ h)) (reference_of e) d
    bounded_by x h e comes d st old_b false none = bounded_unmended setting seals path_no_more x h e comes d old_b none
    bounded_by x h e comes d st old_b true is = bounded_mended setting mended_hears mended_moves x h e comes d st old_b is

    pub behind_waits_longer : AtNext BehindWaitsLonger setting
    behind_waits_longer [] e comes d st old_b root = absurd (false≢true old_b)
    behind_waits_longer (x ∷ h) e comes d st old_b root =
        waits_longer x h e comes d st old_b (bounded_by x h e comes d st old_b (mended_now (chronicle setting (x ∷ h))) refl) root

    pub took_over_early : AtNext TookOverEarly setting
    took_over_early [] e comes d st old_b acts = absurd (false≢true old_b)
    took_over_early (x ∷ h) e comes d st old_b acts =
        took_early x h e comes d st old_b (bounded_by x h e comes d st old_b (mended_now (chronicle setting (x ∷ h))) refl) acts
