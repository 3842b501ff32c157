-- 14, the devices behind the backup root, while that is old, in an era without a mend so far, and in one with a mend: from 13 at the failure that broke its
-- path,
-- its deadlines, what it hears after the root failed, and that what it hears and sends comes to them.
use Rattle.std.specs.Prelude.{◌≡◌, ℕ, ◌+◌, ◌*◌, ◌-◌, ◌<◌, ◌≤◌, Bool, true, false, List, [], ◌∷◌, max, nat_eq, nat_le, refl, ◌⊎◌}
use Rattle.std.proofs.Common.{arith, inl, inr}
use Rattle.std.proofs.lemmas.Bool.{leb-true, leb-false, false_from_ne_true, false≢true}
use Rattle.sd_plan.specs.declared.topo.Thing.{Thing}
use Rattle.sd_plan.specs.declared.topo.Thing.TheVariants as thing
use Rattle.sd_plan.specs.declared.Plan.{Plan}
use Rattle.sd_plan.specs.Walks.{path}
use Rattle.sd_checker.specs.check_root.Timing.{round_gap}
use Rattle.sd_sched.specs.declared.Event.{Event}
use Rattle.sd_sched.specs.Events.{reference_of}
use Rattle.sd_history.specs.World.{Setting}
use Rattle.sd_history.specs.Steps.{Step, acts_in}
use Rattle.sd_history.specs.Chronicle.{chronicle}
use Rattle.sd_history.proofs.Among.{any_passing}
use Rattle.sd_safety.specs.invariant.Bounds.{losses, depth, delay, tick_gap, rounds_gap, first_low, first_up, second_low, second_up, wait_low, IsTimedBy}
use Rattle.sd_safety.specs.invariant.Eras.{era, plan_now, failed_now, is_among, all_started, is_old, moved, on_primary, path_hit, root_failed, heard_at, moved_at, silent_for}
use Rattle.sd_safety.specs.invariant.Clauses.{backup_root_acts}
use Rattle.sd_safety.specs.invariant.Silences.{WholePathHears, root_failed_at}
use Rattle.sd_safety.specs.invariant.Coming.{IsNextEvent, AtNext}
use Rattle.sd_safety.proofs.invariant.Sides.{implied, not_both}
use Rattle.sd_safety.proofs.waits.Waits.{Stands, old_stands}
use Rattle.sd_safety.specs.behind.Pieces.{SealsSoon, HearsNoMore}
use Rattle.sd_safety.specs.behind.Feeding.{path_failed_at, PathHearsNoMore, StandsBehind, FallbackFeeds, TakeoverFeeds, TookOverSoon, took_over_at, BehindWaitsUnmended, BehindWaitsMended, MendedHears, MendedMoves}
use Rattle.sd_safety.proofs.waits.Standing as standing
use Rattle.sd_safety.proofs.waits.Standing.{now, sound, leads, lives, heard_late}
use Rattle.sd_safety.proofs.behind.Beside.{early_sum, alive_sum}
use Rattle.sd_safety.proofs.behind.Moved.{silence_now, rest_now}
use Rattle.sd_safety.proofs.behind.Takeover.{primary_where, backup_where}
use Rattle.sd_safety.proofs.behind.Paths.{path_by_parts}
use Rattle.sd_safety.proofs.behind.Breaks.{Fed, Heard, MovedFirst, MovedLater, IsBounded, bounded_unmended, bounded_mended, backup_root_low, root_on, broke, root_soon}

-- Sums: r the event, hd and hb what the device and the backup root heard last, m its move, u its takeover, g and gr the failures of its path and of the root

module _ (k h d p q l1 f1 l2 f2 lw : ℕ) (t : IsTimedBy k h d p q l1 f1 l2 f2 lw) where
  -- the sums of `invariant`, with a tick more for each bound on feeding
  without_straggler : f1 + f2 + 6 * q + (3 * k + 3) * p + (6 * h + 1) * d < lw
  without_straggler = omega (arith, t.gap, t.wait_long)

  with_straggler : 2 * f1 + f2 + 4 * q + (2 * k + 2) * p + 3 * h * d < lw
  with_straggler = omega (arith, t.gap, t.wait_longer)

  with_straggler_alive : 2 * f1 + 4 * q + (2 * k + 3) * p + 4 * h * d < lw
  with_straggler_alive = omega (arith, t.gap, t.second_order, t.second_long, t.wait_longer)

  fallback_sum : (r m g hd : ℕ) → r ≤ max hd m + ((k + 1) * p + 2 * h * d) + 2 * q → m ≤ g + h * d + f1 + q → g ≤ hd + ((k + 1) * p + p + h * d) → r - hd < lw
  fallback_sum r m g hd one two three = omega (arith, one, two, three, without_straggler)

  waiting_sum : (r hb m g gr hd : ℕ) → r - max hb m ≤ f2 + q → hb ≤ gr + (h + 1) * d → m ≤ g + h * d + f1 + q → g ≤ hd + ((k + 1) * p + p + h * d)
      → gr ≤ hd + (((k + 1) * p + p + h * d) + h * d + f1 + q + ((k + 1) * p + 2 * h * d) + 2 * q) → r - hd < lw
  waiting_sum r hb m g gr hd one two three four five = omega (arith, one, two, three, four, five, without_straggler)

  acting_sum : (r u m g gr hd : ℕ) → r ≤ max (u + (k * p + h * d)) (hd + ((k + 1) * p + h * d)) + q → u ≤ max m (gr + (h + 1) * d) + f2 + q
      → m ≤ g + h * d + f1 + q → g ≤ hd + ((k + 1) * p + p + h * d)
      → gr ≤ hd + (((k + 1) * p + p + h * d) + h * d + f1 + q + ((k + 1) * p + 2 * h * d) + 2 * q) → r - hd < lw
  acting_sum r u m g gr hd one two three four five = omega (arith, one, two, three, four, five, without_straggler)

  fed_sum : (r m g hd : ℕ) → r ≤ max hd m + ((k + 1) * p + 2 * h * d) + 2 * q → m ≤ g + h * d + 2 * (f1 + q) → g ≤ hd + ((k + 1) * p + p + h * d) → r - hd < lw
  fed_sum r m g hd one two three = omega (arith, one, two, three, with_straggler_alive)

  straggler_sum : (r hb g hd : ℕ) → r - hb ≤ f1 + q → hb ≤ g + h * d + f1 + q → g ≤ hd + ((k + 1) * p + p + h * d) → r - hd < lw
  straggler_sum r hb g hd one two three = omega (arith, one, two, three, with_straggler)

  straggler_waiting_sum : (r hb m g gr hd : ℕ) → r - max hb m ≤ f2 + q → hb ≤ gr + (h + 1) * d → gr + (h + 1) * d ≤ m → m ≤ g + h * d + 2 * (f1 + q)
      → g ≤ hd + ((k + 1) * p + p + h * d) → r - hd < lw
  straggler_waiting_sum r hb m g gr hd one two three four five = omega (arith, one, two, three, four, five, with_straggler)

  straggler_acting_sum : (r u m g gr hd : ℕ) → r ≤ max (u + (k * p + h * d)) (hd + ((k + 1) * p + h * d)) + q → u ≤ max m (gr + (h + 1) * d) + f2 + q
      → gr + (h + 1) * d ≤ m → m ≤ g + h * d + 2 * (f1 + q)
      → g ≤ hd + ((k + 1) * p + p + h * d) → r - hd < lw
  straggler_acting_sum r u m g gr hd one two three four five = omega (arith, one, two, three, four, five, with_straggler)

module _ (setting : Setting) (hears_whole : AtNext WholePathHears setting) (seals : AtNext SealsSoon setting) (no_more : AtNext HearsNoMore setting)
    (fallback_feeds : AtNext FallbackFeeds setting) (takeover_feeds : AtNext TakeoverFeeds setting) (took_over : AtNext TookOverSoon setting) where
  module _ (x : Event) (h : List Event) (e : Event) (comes : IsNextEvent setting (x ∷ h) e) (d : ℕ) (st : StandsBehind setting (chronicle setting (x ∷ h)) d)
      (old_b : is_old (chronicle setting (x ∷ h)) (plan_now setting (chronicle setting (x ∷ h))).backup_root ≡ true)
      (bounded : path_hit setting (chronicle setting (x ∷ h)) (plan_now setting (chronicle setting (x ∷ h))).backup_root ≡ true
      → IsBounded setting (chronicle setting (x ∷ h)) (reference_of e) d) where
    abbrev steps : List Step
    steps = chronicle setting (x ∷ h)

    abbrev plan : Plan
    plan = plan_now setting (chronicle setting (x ∷ h))

    abbrev b : ℕ
    b = (plan_now setting (chronicle setting (x ∷ h))).backup_root

    abbrev things : List Thing
    things = path setting.net (plan_now setting (chronicle setting (x ∷ h))) (plan_now setting (chronicle setting (x ∷ h))).backup_root

    abbrev lag : ℕ
    lag = rounds_gap setting.net + round_gap setting.net + depth setting.net * delay setting.net

    abbrev Short : Type 0
    Short = silent_for (chronicle setting (x ∷ h)) d (reference_of e) < wait_low setting.net (plan_now setting (chronicle setting (x ∷ h)))

    timed_ : IsTimedBy (losses setting.net) (depth setting.net) (delay setting.net) (round_gap setting.net) (tick_gap setting.net)
        (first_low setting.net plan) (first_up setting.net plan) (second_low setting.net plan) (second_up setting.net plan) (wait_low setting.net plan)
    timed_ = (sound setting x h e comes).timed

    -- where the path of the backup root is broken
    module _ (g_le : path_failed_at setting steps ≤ heard_at steps d + lag) (broken : path_hit setting steps b ≡ true) where
      by_root : (r : Bool) → root_failed setting steps ≡ r → moved steps b ≡ true → acts_in steps b ≡ false → (standing.Early setting x h e comes → ⊥)
          → MovedFirst setting steps ⊎ MovedLater setting steps → Short
      by_root false root put still late_ (inl m_le) =
          fallback_sum (losses setting.net) (depth setting.net) (delay setting.net) (round_gap setting.net) (tick_gap setting.net) _ _ _ _ _ timed_
          (reference_of e) (moved_at steps b) (path_failed_at setting steps) (heard_at steps d)
          (fallback_feeds (x ∷ h) e comes d st (lives setting x h e comes root late_) (leads setting x h e comes root) old_b (backup_where steps b put still))
          m_le g_le
      by_root false root put still late_ (inr both) =
          fed_sum (losses setting.net) (depth setting.net) (delay setting.net) (round_gap setting.net) (tick_gap setting.net) _ _ _ _ _ timed_ (reference_of e)
          (moved_at steps b) (path_failed_at setting steps) (heard_at steps d)
          (fallback_feeds (x ∷ h) e comes d st (lives setting x h e comes root late_) (leads setting x h e comes root) old_b (backup_where steps b put still))
          both.0 g_le
      by_root true root put still late_ (inl m_le) =
          waiting_sum (losses setting.net) (depth setting.net) (delay setting.net) (round_gap setting.net) (tick_gap setting.net) _ _ _ _ _ timed_
          (reference_of e) (heard_at steps b) (moved_at steps b) (path_failed_at setting steps)
          (root_failed_at setting steps) (heard_at steps d) (rest_now setting (x ∷ h) e comes old_b (backup_where steps b put still))
          (no_more (x ∷ h) e comes root old_b still) m_le g_le (root_soon setting hears_whole x h e comes d st fallback_feeds old_b g_le root put m_le)
      by_root true root put still late_ (inr both) =
          straggler_waiting_sum (losses setting.net) (depth setting.net) (delay setting.net) (round_gap setting.net) (tick_gap setting.net) _ _ _ _ _ timed_
          (reference_of e) (heard_at steps b) (moved_at steps b) (path_failed_at setting steps)
          (root_failed_at setting steps) (heard_at steps d) (rest_now setting (x ∷ h) e comes old_b (backup_where steps b put still))
          (no_more (x ∷ h) e comes root old_b still) (both.1 root) both.0 g_le

      by_hearing : on_primary steps b ≡ true → Fed setting steps (reference_of e) d ⊎ Heard setting steps → Short
      by_hearing primary (inl fed) =
          fed_sum (losses setting.net) (depth setting.net) (delay setting.net) (round_gap setting.net) (tick_gap setting.net) _ _ _ _ _ timed_ (reference_of e)
          (path_failed_at setting steps + depth setting.net * delay setting.net + 2 * (first_up setting.net plan + tick_gap setting.net))
          (path_failed_at setting steps) (heard_at steps d) (omega (arith, fed)) (omega arith) g_le
      by_hearing primary (inr heard) =
          straggler_sum (losses setting.net) (depth setting.net) (delay setting.net) (round_gap setting.net) (tick_gap setting.net) _ _ _ _ _ timed_
          (reference_of e) (heard_at steps b) (path_failed_at setting steps) (heard_at steps d)
          (silence_now setting (x ∷ h) e comes (seals (x ∷ h) e comes) old_b primary) heard g_le

      by_place : (m : Bool) → moved steps b ≡ m → acts_in steps b ≡ false → (standing.Early setting x h e comes → ⊥) → Short
      by_place false put still late_ =
          let primary : on_primary steps b ≡ true = primary_where setting (x ∷ h) b old_b put still in
          by_hearing primary ((bounded broken).hears primary)
      by_place true put still late_ = by_root (root_failed setting steps) refl put still late_ ((bounded broken).moves put)

      by_taking : root_failed setting steps ≡ true → acts_in steps b ≡ true → moved steps b ≡ true
          → took_over_at steps b ≤ max (moved_at steps b) (root_failed_at setting steps + (depth setting.net + 1) * delay setting.net) + second_up setting.net
          plan + tick_gap setting.net
          → MovedFirst setting steps ⊎ MovedLater setting steps → Short
      by_taking root acts put took (inl m_le) =
          acting_sum (losses setting.net) (depth setting.net) (delay setting.net) (round_gap setting.net) (tick_gap setting.net) _ _ _ _ _ timed_
          (reference_of e) (took_over_at steps b) (moved_at steps b) (path_failed_at setting steps)
          (root_failed_at setting steps) (heard_at steps d) (takeover_feeds (x ∷ h) e comes d st old_b acts) took m_le g_le
          (root_soon setting hears_whole x h e comes d st fallback_feeds old_b g_le root put m_le)
      by_taking root acts put took (inr both) =
          straggler_acting_sum (losses setting.net) (depth setting.net) (delay setting.net) (round_gap setting.net) (tick_gap setting.net) _ _ _ _ _ timed_
          (reference_of e) (took_over_at steps b) (moved_at steps b) (path_failed_at setting steps)
          (root_failed_at setting steps) (heard_at steps d) (takeover_feeds (x ∷ h) e comes d st old_b acts) took (both.1 root) both.0 g_le

      by_acting : (a : Bool) → acts_in steps b ≡ a → (standing.Early setting x h e comes → ⊥) → Short
      by_acting false still late_ = by_place (moved steps b) refl still late_
      by_acting true acts late_ =
          let took = took_over (x ∷ h) e comes old_b acts in
          let root : root_failed setting steps ≡ true =
          implied (backup_root_acts setting steps) (root_failed setting steps) (now setting x h e comes).core.causes.takeover acts in
          by_taking root acts took.0 took.1 ((bounded broken).moves took.0)

    by_broken : (p : Bool) → path_hit setting steps b ≡ p → (standing.Early setting x h e comes → ⊥) → Short
    by_broken false whole_ late_ =
        let root : root_failed setting steps ≡ false =
        false_from_ne_true (root_failed setting steps)
        (λ failed. not_both (path_hit setting steps b)
        (any_passing (is_among (failed_now steps)) (thing.Device plan.root) things (root_on setting x h e comes) failed) whole_) in
        let path_ : path_hit setting steps d ≡ false =
        path_by_parts setting.net plan (failed_now steps) d (backup_root_low setting x h e comes) st.missed whole_ in
        let short = (hears_whole (x ∷ h) e comes d (lives setting x h e comes root late_) (leads setting x h e comes root) st.old st.primary path_).0 in
        alive_sum (losses setting.net) (depth setting.net) (delay setting.net) (round_gap setting.net) (tick_gap setting.net) _ _ _ _ _
        (silent_for steps d (reference_of e)) timed_ short
    by_broken true broken late_ = by_acting (broke setting hears_whole x h e comes d st broken) broken (acts_in steps b) refl late_

    by_age : (c1 c2 : Bool) → nat_eq (era steps) 1 ≡ c1 → nat_le (reference_of e) (all_started setting steps) ≡ c2 → Short
    by_age true true era_ le_ =
        let s : Stands setting steps d = old_stands setting (x ∷ h) d st.old in
        early_sum (losses setting.net) (depth setting.net) (delay setting.net) (round_gap setting.net) (tick_gap setting.net) _ _ _ _ _ _ (reference_of e)
        (heard_at steps d) timed_
        (leb-true (reference_of e) (all_started setting steps) le_) (heard_late setting x h e comes d s.past s.there)
    by_age true false era_ le_ =
        let lt : all_started setting steps < reference_of e = leb-false (reference_of e) (all_started setting steps) le_ in
        by_broken (path_hit setting steps b) refl (λ early. let le = early.1 in omega (arith, le, lt))
    by_age false c2 era_ le_ = by_broken (path_hit setting steps b) refl (λ early. not_both (nat_eq (era steps) 1) early.0 era_)

    waits : Short
    waits = by_age (nat_eq (era steps) 1) (nat_le (reference_of e) (all_started setting steps)) refl refl

  pub behind_waits_unmended : AtNext PathHearsNoMore setting → AtNext BehindWaitsUnmended setting
  behind_waits_unmended path_no_more [] e comes d st none old_b = absurd (false≢true old_b)
  behind_waits_unmended path_no_more (x ∷ h) e comes d st none old_b =
      waits x h e comes d st old_b (bounded_unmended setting seals path_no_more x h e comes d old_b none)

  pub behind_waits_mended : AtNext MendedHears setting → AtNext MendedMoves setting → AtNext BehindWaitsMended setting
  behind_waits_mended mended_hears mended_moves [] e comes d st is old_b = absurd (false≢true old_b)
  behind_waits_mended mended_hears mended_moves (x ∷ h) e comes d st is old_b =
      waits x h e comes d st old_b (bounded_mended setting mended_hears mended_moves x h e comes d st old_b is)
