-- 14 (iii), what the backup root heard: where its path has been whole since a receipt, each device behind it that is not hit hears soon.
use Rattle.std.specs.Prelude.{◌≡◌, ℕ, ◌+◌, ◌*◌, ◌<◌, ◌≤◌, true, false, ◌&&◌, not, List, [], ◌∷◌, length, max, ◌⊎◌}
use Rattle.std.proofs.Common.{arith, ap, inl, inr}
use Rattle.std.proofs.lemmas.Bool.{and_parts, not-true, cases_lt}
use Rattle.std.proofs.Math.Nat.{le-max_right}
use Rattle.sd_plan.specs.Plans.{is_member, is_backup_root}
use Rattle.sd_plan.specs.Walks.{walk, on_walk}
use Rattle.sd_sched.specs.declared.Event.{Event}
use Rattle.sd_sched.specs.Events.{reference_of}
use Rattle.sd_history.specs.World.{Setting}
use Rattle.sd_history.specs.Steps.{Step, seen_of}
use Rattle.sd_history.specs.Chronicle.{chronicle}
use Rattle.sd_history.proofs.Known.{admitted_up_is_known}
use Rattle.sd_safety.specs.invariant.Bounds.{depth, delay, tick_gap, rounds_gap, first_up}
use Rattle.sd_safety.specs.invariant.Eras.{plan_now, beginning, all_started, failed_now, heard_at, is_old, is_ordinary, on_primary}
use Rattle.sd_safety.specs.invariant.Coming.{IsNextEvent, AtNext}
use Rattle.sd_safety.specs.messages.Moments.{when}
use Rattle.sd_safety.proofs.waits.Waits.{Stands, old_stands}
use Rattle.sd_safety.proofs.waits.Standing.{sound, heard_late}
use Rattle.sd_safety.proofs.silences.SoundWays.{map_walks}
use Rattle.sd_safety.proofs.silences.WalkWays.{walk_length}
use Rattle.sd_safety.specs.behind.Feeding.{path_failed_at, StandsBehind, MendedHears}
use Rattle.sd_safety.proofs.spans.PathHears.{IsSpared, spared}
use Rattle.sd_plan.proofs.CutOff.{cut_off}
use Rattle.sd_safety.proofs.feeds.Cuts.{CutWalk, cut_walk_of}
use Rattle.sd_safety.proofs.stragglers.Stragglers.{IsFed, Hearing, early, straggler, fed, hearing, weaker}
use Rattle.sd_safety.proofs.stragglers.PathWays.{cut_lasting, comes_down}
use Rattle.sd_safety.proofs.feeds.Feeds.{heard_of, moved_of}

-- sums: the event r, what the device heard hd, the receipt m, the first event r0 and the failure g
early_sum : (r r0 q hd g a : ℕ) → r ≤ r0 + q → r0 ≤ hd → r ≤ max hd g + a + q
early_sum r r0 q hd g a le began = omega (arith, le, began)

fed_sum : (r hd m r0 q g a c : ℕ) → r ≤ max (max hd m) (r0 + q) + a + c → m ≤ g → r0 ≤ hd → r ≤ max hd g + (a + c) + q
fed_sum r hd m r0 q g a c le soon began = omega (arith, le, soon, began)

shorter : (a w n : ℕ) → a + 1 ≤ w → w ≤ n → a ≤ n
shorter a w n one two = omega (arith, one, two)

module _ (setting : Setting) (x : Event) (h : List Event) (e : Event) (comes : IsNextEvent setting (x ∷ h) e)
    (old : is_old (chronicle setting (x ∷ h)) (plan_now setting (chronicle setting (x ∷ h))).backup_root ≡ true)
    (on : on_primary (chronicle setting (x ∷ h)) (plan_now setting (chronicle setting (x ∷ h))).backup_root ≡ true)
    (f : IsFed setting (chronicle setting (x ∷ h))) (d : ℕ) (st : StandsBehind setting (chronicle setting (x ∷ h)) d) where
  abbrev steps : List Step
  steps = chronicle setting (x ∷ h)

  abbrev b : ℕ
  b = (plan_now setting (chronicle setting (x ∷ h))).backup_root

  abbrev s0 : ℕ
  s0 = max (max (heard_at (chronicle setting (x ∷ h)) d) (when f.moment)) (all_started setting (chronicle setting (x ∷ h)))

  abbrev soon : ℕ
  soon = path_failed_at setting (chronicle setting (x ∷ h)) + depth setting.net * delay
      setting.net + 2 * (first_up setting.net (plan_now setting (chronicle setting (x ∷ h))) + tick_gap setting.net)

  began : beginning (seen_of (chronicle setting (x ∷ h))) ≤ heard_at (chronicle setting (x ∷ h)) d
  began = let s : Stands setting steps d = old_stands setting (x ∷ h) d st.old in heard_late setting x h e comes d s.past s.there

  own : IsSpared setting (chronicle setting (x ∷ h)) d
  own = spared setting x h e comes d st.old

  parts : (is_backup_root (plan_now setting (chronicle setting (x ∷ h))) d ≡ false)
      × (on_walk setting.net (plan_now setting (chronicle setting (x ∷ h))) d b ≡ true)
  parts =
      let p = and_parts (is_member (plan_now setting steps) d && not (is_backup_root (plan_now setting steps) d))
      (on_walk setting.net (plan_now setting steps) d b) st.behind in (
        not-true (is_backup_root (plan_now setting steps) d)
            (and_parts (is_member (plan_now setting steps) d) (not (is_backup_root (plan_now setting steps) d)) p.0).1,
        p.1,
      )

  cut : CutWalk setting.net (plan_now setting (chronicle setting (x ∷ h))) (failed_now (chronicle setting (x ∷ h))) d
      (walk setting.net (plan_now setting (chronicle setting (x ∷ h))) d)
  cut =
      cut_walk_of setting.net (plan_now setting steps) (failed_now steps) (sound setting x h e comes) d
      (admitted_up_is_known setting (x ∷ h) comes.clean.is.0 d own.up) own.member parts.0 own.self st.missed parts.1

  abbrev Soon : Type 0
  Soon = reference_of e ≤ max (heard_at (chronicle setting (x ∷ h)) d) soon + (rounds_gap setting.net + 2 * depth setting.net * delay setting.net) + tick_gap
      setting.net

  by_age : (all_started setting (chronicle setting (x ∷ h)) < reference_of e) ⊎ (reference_of e ≤ all_started setting (chronicle setting (x ∷ h))) → Soon
  by_age (inr le) =
      early_sum (reference_of e) (beginning (seen_of steps)) (tick_gap setting.net) (heard_at steps d) soon
      (rounds_gap setting.net + 2 * depth setting.net * delay setting.net) le began
  by_age (inl late) =
      fed_sum (reference_of e) (heard_at steps d) (when f.moment) (beginning (seen_of steps)) (tick_gap setting.net) soon (rounds_gap setting.net)
      (2 * depth setting.net * delay setting.net)
      (comes_down setting x h e comes old on f s0 (moved_of (heard_at steps d) (when f.moment) (all_started setting steps))
      (le-max_right (max (heard_at steps d) (when f.moment)) (all_started setting steps)) late d st.old st.primary
      (ap (λ c. c && is_ordinary (plan_now setting steps) d) st.missed) (heard_of (heard_at steps d) (when f.moment) (all_started setting steps))
      (cut_off (plan_now setting steps) (walk setting.net (plan_now setting steps) d))
      (map_walks (plan_now setting steps) _ _
      (λ y hop clear. cut_lasting setting x h e comes old on f s0 (moved_of (heard_at steps d) (when f.moment) (all_started setting steps))
      (le-max_right (max (heard_at steps d) (when f.moment)) (all_started setting steps)) late y hop clear)
      (cut_off (plan_now setting steps) (walk setting.net (plan_now setting steps) d)) d cut.clear) cut.ends
      (shorter (length (cut_off (plan_now setting steps) (walk setting.net (plan_now setting steps) d))) (length (walk setting.net (plan_now setting steps) d))
      (depth setting.net) cut.short (walk_length setting.net (plan_now setting steps) d)))
      f.time began

  pub hears_soon : Soon
  hears_soon = by_age (cases_lt (all_started setting steps) (reference_of e))

-- 14 (iii)
pub mended_hears : (setting : Setting) → AtNext MendedHears setting
mended_hears setting [] e comes is broken old on = cc
mended_hears setting (x ∷ h) e comes is broken old on = by (hearing setting x h e comes is broken old on)
  where
    by : Hearing setting (chronicle setting (x ∷ h))
        → ((d : ℕ) → StandsBehind setting (chronicle setting (x ∷ h)) d
        → reference_of e
        ≤ max (heard_at (chronicle setting (x ∷ h)) d)
        (path_failed_at setting (chronicle setting (x ∷ h)) + depth setting.net * delay
        setting.net + 2 * (first_up setting.net (plan_now setting (chronicle setting (x ∷ h))) + tick_gap setting.net))
        + (rounds_gap setting.net + 2 * depth setting.net * delay setting.net) + tick_gap setting.net)
        ⊎ (heard_at (chronicle setting (x ∷ h)) (plan_now setting (chronicle setting (x ∷ h))).backup_root
        ≤ path_failed_at setting (chronicle setting (x ∷ h)) + depth setting.net * delay setting.net + first_up setting.net
        (plan_now setting (chronicle setting (x ∷ h))) + tick_gap setting.net)
    by (early le) =
        inr (weaker (heard_at (chronicle setting (x ∷ h)) (plan_now setting (chronicle setting (x ∷ h))).backup_root)
        (path_failed_at setting (chronicle setting (x ∷ h))) (depth setting.net * delay setting.net)
        (first_up setting.net (plan_now setting (chronicle setting (x ∷ h)))) (tick_gap setting.net) le)
    by (straggler le root) = inr le
    by (fed f) = inl (λ d st. hears_soon setting x h e comes old on f d st)
