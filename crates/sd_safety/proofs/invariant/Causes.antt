-- What a move or a takeover shows of the state before it, from the silences: a device that moves is hit (C3), a backup root that moves has its
-- path hit and one that takes over has its root failed (C4), and no device above the backup root moves while that is on its primary (C5). That
-- the silence was long enough is a hypothesis here: it is what the device's counters say.
use Rattle.std.specs.Prelude.{◌≡◌, ℕ, ◌+◌, ◌*◌, ◌<◌, ◌≤◌, Bool, true, false, ◌&&◌, ◌||◌, not, List, max, length, nat_eq, refl, if◌then◌else◌}
use Rattle.std.proofs.Common.{arith, ◌∙◌, ap, sym, subst}
use Rattle.std.proofs.lemmas.Bool.{and_parts, and_from, or_left, or_right, eqb-true, eq-eqb, leb-true, false_from_ne_true, true_from_ne_false}
use Rattle.sd_num.specs.Lists.{has}
use Rattle.sd_plan.specs.declared.topo.Thing.{Thing}
use Rattle.sd_plan.specs.declared.topo.Thing.TheVariants as thing
use Rattle.sd_plan.specs.domain.Things.{same_thing}
use Rattle.sd_plan.specs.Plans.{is_member, is_root, is_backup_root}
use Rattle.sd_plan.specs.Walks.{path, epath, on_walk}
use Rattle.sd_plan.proofs.Rules.{KeepsRules}
use Rattle.sd_checker.specs.check_root.Timing.{round_gap}
use Rattle.sd_plan.proofs.domain.Within.{same_thing-true}
use Rattle.sd_history.specs.World.{Setting, is_up, has_commit}
use Rattle.sd_history.specs.Steps.{Step, seen_of}
use Rattle.sd_history.proofs.Among.{Among, any_passing}
use Rattle.sd_history.proofs.Filters.{filter_in}
use Rattle.sd_safety.specs.invariant.Bounds.{IsTimedBy, losses, depth, delay, tick_gap, first_low, first_up, second_low, second_up, wait_low}
use Rattle.sd_safety.specs.invariant.Eras.{plan_now, failed_now, failed_besides_root, is_among, touches, is_old, is_new, on_primary, on_backup, is_ordinary, is_behind, hit, hit_otherwise, path_hit, root_failed, heard_at, silent_for, rests_for}
use Rattle.sd_safety.specs.invariant.Clauses.{backup_root_acts, backup_root_stays, above_backup_root, staged_root}
use Rattle.sd_safety.specs.invariant.Invariant.{Core}
use Rattle.sd_safety.specs.invariant.Silences.{WholePathHears, BehindWaits, FallbackHears, BesideWaits, root_leads}
use Rattle.sd_safety.proofs.invariant.Arithmetic.{a1, a2, a4_first, a4_second, a5}
use Rattle.sd_safety.proofs.invariant.Prefix.{Passing, some_passing}
use Rattle.sd_safety.proofs.invariant.Sides.{implied, not_both}
use Rattle.sd_safety.proofs.invariant.Staying.{filter_out}
use Rattle.sd_safety.proofs.invariant.CutPaths.{root_not_on_cut, root_on_cut, root_on_path}

pub ordinary_parts : (member root backup : Bool) → (member && not root && not backup) ≡ true → (member ≡ true) × (root ≡ false) × (backup ≡ false)
ordinary_parts true false false all = (refl, refl, refl)
ordinary_parts true false true all = cc
ordinary_parts true true backup all = cc
ordinary_parts false root backup all = cc

pub off_walk : (member other on : Bool) → (member && other && on) ≡ false → member ≡ true → other ≡ true → on ≡ false
off_walk true true on none m o = none
off_walk true false on none m o = cc
off_walk false other on none m o = cc

on_the_walk : (member other on : Bool) → (member && other && on) ≡ true → on ≡ true
on_the_walk true true on all = all
on_the_walk true false on all = cc
on_the_walk false other on all = cc

-- a failed thing on the way touches it
touched : (failed things : List Thing) (x : Thing) → Among x things → is_among failed x ≡ true → touches failed things ≡ true
touched failed things x a is = any_passing (is_among failed) x things a is

module _ (setting : Setting) (steps : List Step) where
  -- who is hit otherwise is hit
  otherwise_too : (d : ℕ) → hit_otherwise setting steps d ≡ true → hit setting steps d ≡ true
  otherwise_too d is =
      let one : Passing (is_among (failed_besides_root setting steps)) (epath setting.net (plan_now setting steps) d) =
      some_passing _ (epath setting.net (plan_now setting steps) d) is in
      let two : Passing (same_thing one.one) (failed_besides_root setting steps) =
      some_passing (same_thing one.one) (failed_besides_root setting steps) one.passed in
      touched (failed_now steps) (epath setting.net (plan_now setting steps) d) one.one one.there
      (any_passing (same_thing one.one) two.one (failed_now steps) (filter_out _ two.one (failed_now steps) two.there).0 two.passed)

  -- who is hit and has no root on its cut path is hit otherwise
  hit_by_another : (d : ℕ) → (Among (thing.Device (plan_now setting steps).root) (epath setting.net (plan_now setting steps) d) → ⊥)
      → hit setting steps d ≡ true → hit_otherwise setting steps d ≡ true
  hit_by_another d none is =
      let r : Thing = thing.Device (plan_now setting steps).root in
      let cut : List Thing = epath setting.net (plan_now setting steps) d in
      let one : Passing (is_among (failed_now steps)) cut = some_passing _ cut is in
      let two : Passing (same_thing one.one) (failed_now steps) = some_passing (same_thing one.one) (failed_now steps) one.passed in
      let same : one.one ≡ two.one = same_thing-true one.one two.one two.passed in
      let other : same_thing r two.one ≡ false =
      false_from_ne_true (same_thing r two.one) (λ root. none (subst (λ y. Among y cut) (same ∙ sym (same_thing-true r two.one root)) one.there)) in
      touched (failed_besides_root setting steps) cut one.one one.there
      (any_passing (same_thing one.one) two.one (failed_besides_root setting steps)
      (filter_in (λ y. not (same_thing r y)) two.one (failed_now steps) two.there (ap not other)) two.passed)

  module _ (reference : ℕ) (core : Core setting steps) (rules : KeepsRules setting.net (plan_now setting steps))
      (apart : nat_eq (plan_now setting steps).backup_root (plan_now setting steps).root ≡ false) where
    -- C3: an old ordinary device that has been silent for its wait
    module _ (behind : BehindWaits setting steps reference) (beside : BesideWaits setting steps reference) (d : ℕ) (within : d < length setting.net.devices)
        (old : is_old steps d ≡ true) (ordinary : is_ordinary (plan_now setting steps) d ≡ true) (on : on_primary steps d ≡ true)
        (long : wait_low setting.net (plan_now setting steps) ≤ silent_for steps d reference) where
      caused_when : (b o a : Bool) → is_behind setting.net (plan_now setting steps) d ≡ b → hit_otherwise setting steps d ≡ o
          → backup_root_acts setting steps ≡ a
          → (hit setting steps d && (hit_otherwise setting steps d || backup_root_acts setting steps)) ≡ true
      caused_when true o a is_b is_o is_a =
          let parts = ordinary_parts (is_member (plan_now setting steps) d) (is_root (plan_now setting steps) d)
          (is_backup_root (plan_now setting steps) d) ordinary in
          let is : hit setting steps d ≡ true =
          true_from_ne_false (hit setting steps d) (λ none. let short = behind d old is_b on none in absurd (omega (arith, short, long))) in
          and_from (hit setting steps d) (hit_otherwise setting steps d || backup_root_acts setting steps) is
          (or_left (hit_otherwise setting steps d) (backup_root_acts setting steps)
          (hit_by_another d
          (root_not_on_cut (plan_now setting steps) apart setting.net d parts.2
          (on_the_walk (is_member (plan_now setting steps) d) (not (is_backup_root (plan_now setting steps) d))
          (on_walk setting.net (plan_now setting steps) d (plan_now setting steps).backup_root) is_b)) is))
      caused_when false true a is_b is_o is_a =
          and_from (hit setting steps d) (hit_otherwise setting steps d || backup_root_acts setting steps) (otherwise_too d is_o)
          (or_left (hit_otherwise setting steps d) (backup_root_acts setting steps) is_o)
      caused_when false false true is_b is_o is_a =
          let parts = ordinary_parts (is_member (plan_now setting steps) d) (is_root (plan_now setting steps) d)
          (is_backup_root (plan_now setting steps) d) ordinary in
          let failed : root_failed setting steps ≡ true = implied (backup_root_acts setting steps) (root_failed setting steps) core.causes.takeover is_a in
          and_from (hit setting steps d) (hit_otherwise setting steps d || backup_root_acts setting steps)
          (touched (failed_now steps) (epath setting.net (plan_now setting steps) d) (thing.Device (plan_now setting steps).root)
          (root_on_cut (plan_now setting steps) setting.net rules d within parts.0 parts.1
          (off_walk (is_member (plan_now setting steps) d) (not (is_backup_root (plan_now setting steps) d))
          (on_walk setting.net (plan_now setting steps) d (plan_now setting steps).backup_root) is_b parts.0 (ap not parts.2))) failed)
          (or_right (hit_otherwise setting steps d) (backup_root_acts setting steps) is_a)
      caused_when false false false is_b is_o is_a = let short = beside d old ordinary on is_b is_o is_a in absurd (omega (arith, short, long))

      pub move_is_hit : (hit setting steps d && (hit_otherwise setting steps d || backup_root_acts setting steps)) ≡ true
      move_is_hit =
          caused_when (is_behind setting.net (plan_now setting steps) d) (hit_otherwise setting steps d) (backup_root_acts setting steps) refl refl refl

    module _ (timed : IsTimedBy (losses setting.net) (depth setting.net) (delay setting.net) (round_gap setting.net) (tick_gap setting.net)
        (first_low setting.net (plan_now setting steps)) (first_up setting.net (plan_now setting steps)) (second_low setting.net (plan_now setting steps))
        (second_up setting.net (plan_now setting steps))
        (wait_low setting.net (plan_now setting steps))) where
      -- the root leads where it did not fail
      leads_by : (commit : Bool) (root' r : ℕ) (new : Bool) → (not commit || (nat_eq root' r && new)) ≡ true → (not commit || nat_eq root' r) ≡ true
      leads_by true root' r new clause = (and_parts (nat_eq root' r) new clause).0
      leads_by false root' r new clause = refl

      leads : root_failed setting steps ≡ false → root_leads setting steps ≡ true
      leads sound =
          leads_by (has_commit (seen_of steps)) (staged_root setting steps) (plan_now setting steps).root (is_new steps (staged_root setting steps))
          (subst (λ c. (not (has_commit (seen_of steps))
          || (nat_eq (staged_root setting steps) (if c then (plan_now setting steps).backup_root else (plan_now setting steps).root)
          && is_new steps (staged_root setting steps))) ≡ true) sound core.committed.committer)

      -- C4: a backup root that has been silent for its first wait, while the root is up
      pub move_needs_hit : WholePathHears setting steps reference → (plan_now setting steps).backup_root < length setting.net.devices
          → is_member (plan_now setting steps) (plan_now setting steps).backup_root ≡ true
          → is_up (seen_of steps) (plan_now setting steps).root ≡ true → is_old steps (plan_now setting steps).backup_root ≡ true
          → on_primary steps (plan_now setting steps).backup_root ≡ true
          → first_low setting.net (plan_now setting steps) ≤ silent_for steps (plan_now setting steps).backup_root reference
          → path_hit setting steps (plan_now setting steps).backup_root ≡ true
      move_needs_hit hears within member up_ old on long =
          let plan = plan_now setting steps in
          let b = plan.backup_root in
          let other : is_root plan b ≡ false =
          false_from_ne_true (is_root plan b) (λ is. not_both (nat_eq b plan.root) (eq-eqb b plan.root (sym (eqb-true plan.root b is))) apart) in
          true_from_ne_false (path_hit setting steps b)
          (λ none.
          let sound : root_failed setting steps ≡ false =
          false_from_ne_true (root_failed setting steps)
          (λ failed. not_both (path_hit setting steps b)
          (touched (failed_now steps) (path setting.net plan b) (thing.Device plan.root) (root_on_path plan setting.net rules b within member other) failed)
          none) in
          let short = (hears b (and_from (is_up (seen_of steps) plan.root) (not (root_failed setting steps)) up_ (ap not sound)) (leads sound) old on none).0 in
          absurd (omega (arith, short, long, a1 (losses setting.net) (depth setting.net) (delay setting.net) (round_gap setting.net), a4_first timed)))

      -- and one on its backup that has rested for its second wait
      pub takeover_needs_failure : FallbackHears setting steps reference → is_up (seen_of steps) (plan_now setting steps).root ≡ true
          → is_old steps (plan_now setting steps).backup_root ≡ true → on_backup steps (plan_now setting steps).backup_root ≡ true
          → second_low setting.net (plan_now setting steps) ≤ rests_for steps (plan_now setting steps).backup_root reference → root_failed setting steps ≡ true
      takeover_needs_failure hears up_ old on long =
          true_from_ne_false (root_failed setting steps)
          (λ sound.
          let short = hears (and_from (is_up (seen_of steps) (plan_now setting steps).root) (not (root_failed setting steps)) up_ (ap not sound))
          (leads sound) old on in
          absurd (omega (arith, short, long, a2 (losses setting.net) (depth setting.net) (delay setting.net) (round_gap setting.net), a4_second timed)))

      -- C5: an old device above a backup root that is on its primary, and was not silent past its first wait, has not been silent for its wait
      pub above_does_not_move : (x : ℕ) → backup_root_stays setting steps ≡ true → has (above_backup_root setting steps) x ≡ true
          → is_root (plan_now setting steps) x ≡ false → is_old steps x ≡ true
          → silent_for steps (plan_now setting steps).backup_root reference ≤ first_up setting.net (plan_now setting steps) + tick_gap setting.net
          → wait_low setting.net (plan_now setting steps) ≤ silent_for steps x reference → ⊥
      above_does_not_move x stays above other old short long =
          let plan = plan_now setting steps in
          let near : heard_at steps plan.backup_root ≤ heard_at steps x + max (depth setting.net * delay setting.net) (tick_gap setting.net) =
          leb-true (heard_at steps plan.backup_root) (heard_at steps x + max (depth setting.net * delay setting.net) (tick_gap setting.net))
          (implied (backup_root_stays setting steps && has (above_backup_root setting steps) x && not (is_root plan x) && is_old steps x) _
          (core.causes.shadow x)
          (and_from (backup_root_stays setting steps && has (above_backup_root setting steps) x && not (is_root plan x)) (is_old steps x)
          (and_from (backup_root_stays setting steps && has (above_backup_root setting steps) x) (not (is_root plan x))
          (and_from (backup_root_stays setting steps) (has (above_backup_root setting steps) x) stays above) (ap not other)) old)) in
          absurd (omega (arith, near, short, long, a5 timed))
