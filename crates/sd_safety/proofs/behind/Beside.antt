-- 17, the devices beside the backup root: from 13 while the root lives, and where it failed from 13 at its failure and 16 now.
use Rattle.std.specs.Prelude.{◌≡◌, ℕ, ◌+◌, ◌*◌, ◌-◌, ◌<◌, ◌≤◌, Bool, true, false, not, List, [], ◌∷◌, nat_eq, nat_le, refl}
use Rattle.std.proofs.Common.{arith, ◌∙◌, ap, sym, subst}
use Rattle.std.proofs.lemmas.Bool.{leb-true, leb-false, false_from_ne_true}
use Rattle.sd_num.specs.Lists.{map_or}
use Rattle.sd_plan.specs.declared.topo.Thing.{Thing}
use Rattle.sd_plan.specs.declared.topo.Thing.TheVariants as thing
use Rattle.sd_plan.specs.domain.Things.{same_thing}
use Rattle.sd_plan.specs.declared.Plan.{Plan}
use Rattle.sd_plan.specs.Plans.{is_member, is_root, is_backup_root}
use Rattle.sd_plan.specs.Walks.{path, epath, on_walk}
use Rattle.sd_checker.specs.check_root.Timing.{round_gap}
use Rattle.sd_plan.proofs.domain.Within.{same_thing-true}
use Rattle.sd_sched.specs.declared.Event.{Event}
use Rattle.sd_sched.specs.Events.{reference_of}
use Rattle.sd_history.specs.World.{Setting, plan_numbered}
use Rattle.sd_history.specs.Steps.{Step, seen_of, acts_in}
use Rattle.sd_history.specs.Chronicle.{chronicle}
use Rattle.sd_history.proofs.Among.{first, any_passing}
use Rattle.sd_history.proofs.Filters.{filter_in}
use Rattle.sd_safety.specs.invariant.Bounds.{losses, depth, delay, tick_gap, first_low, first_up, second_low, second_up, wait_low, IsTimedBy}
use Rattle.sd_safety.specs.invariant.Eras.{era, plan_now, failed_now, failed_besides_root, is_among, touches, all_started, late, is_old, is_ordinary, is_behind, on_primary, hit_otherwise, root_failed, heard_at, silent_for}
use Rattle.sd_safety.specs.invariant.Silences.{WholePathHears, TakesOverSoon, BesideWaits, root_failed_at}
use Rattle.sd_safety.specs.invariant.Coming.{IsNextEvent, AtNext}
use Rattle.sd_safety.proofs.invariant.Arithmetic.{beside_the_root, silence_is_short, a1}
use Rattle.sd_safety.proofs.invariant.Prefix.{Passing, some_passing}
use Rattle.sd_safety.proofs.invariant.Sides.{not_both}
use Rattle.sd_safety.proofs.behind.Failing.{FirstFailure, first_failing, some_failed, none_failed_yet}
use Rattle.sd_safety.proofs.invariant.CutPaths.{uncut_path}
use Rattle.sd_safety.proofs.waits.Standing.{Early, sound, leads, lives, heard_late, backup_root_is_old}
use Rattle.sd_safety.proofs.behind.BeforeFailure.{heard_before}
use Rattle.sd_safety.proofs.waits.Waits.{Stands, old_stands}
use Rattle.sd_safety.proofs.invariant.Causes.{ordinary_parts, off_walk}

-- a path of which nothing but the root is among the failed now had nothing among those that failed before, where the root had not
pub missed_path : (setting : Setting) (steps : List Step) (things failed : List Thing)
    → ((y : Thing) → is_among failed y ≡ true → is_among (failed_now steps) y ≡ true)
    → is_among failed (thing.Device (plan_now setting steps).root) ≡ false → touches (failed_besides_root setting steps) things ≡ false
    → touches failed things ≡ false
missed_path setting steps things failed grows root none =
    false_from_ne_true (touches failed things)
    (λ is.
    let r : Thing = thing.Device (plan_now setting steps).root in
    let one : Passing (is_among failed) things = some_passing (is_among failed) things is in
    let two : Passing (same_thing one.one) (failed_now steps) = some_passing (same_thing one.one) (failed_now steps) (grows one.one one.passed) in
    let same : one.one ≡ two.one = same_thing-true one.one two.one two.passed in
    let other : same_thing r two.one ≡ false =
    false_from_ne_true (same_thing r two.one)
    (λ is_root_. not_both (is_among failed r) (subst (λ y. is_among failed y ≡ true) (same ∙ sym (same_thing-true r two.one is_root_)) one.passed) root) in
    not_both (touches (failed_besides_root setting steps) things)
    (any_passing (is_among (failed_besides_root setting steps)) one.one things one.there
    (any_passing (same_thing one.one) two.one (failed_besides_root setting steps)
    (filter_in (λ y. not (same_thing r y)) two.one (failed_now steps) two.there (ap not other)) two.passed)) none)

-- sums
pub early_sum : (k h d p q l1 f1 l2 f2 lw first r heard : ℕ) → IsTimedBy k h d p q l1 f1 l2 f2 lw → r ≤ first + q → first ≤ heard → r - heard < lw
early_sum k h d p q l1 f1 l2 f2 lw first_ r heard t le since = omega (arith, le, since, t.wait_long, t.gap)

pub alive_sum : (k h d p q l1 f1 l2 f2 lw s : ℕ) → IsTimedBy k h d p q l1 f1 l2 f2 lw → s ≤ (k + 1) * p + p + h * d → s < lw
alive_sum k h d p q l1 f1 l2 f2 lw s t le = omega (arith, le, silence_is_short t, a1 k h d p)

failed_sum : (k h d p q l1 f1 l2 f2 lw g r heard : ℕ) → IsTimedBy k h d p q l1 f1 l2 f2 lw → r ≤ g + (h + 1) * d + f1 + f2 + 2 * q
    → g ≤ heard + ((k + 1) * p + p + h * d) → r - heard < lw
failed_sum k h d p q l1 f1 l2 f2 lw g r heard t soon since = omega (arith, soon, since, beside_the_root t)

module _ (setting : Setting) (hears_whole : AtNext WholePathHears setting) (takes_over : AtNext TakesOverSoon setting) where
  module _ (x : Event) (h : List Event) (e : Event) (comes : IsNextEvent setting (x ∷ h) e) (d : ℕ) (old : is_old (chronicle setting (x ∷ h)) d ≡ true)
      (ordinary : is_ordinary (plan_now setting (chronicle setting (x ∷ h))) d ≡ true) (primary : on_primary (chronicle setting (x ∷ h)) d ≡ true)
      (beside : is_behind setting.net (plan_now setting (chronicle setting (x ∷ h))) d ≡ false)
      (missed : hit_otherwise setting (chronicle setting (x ∷ h)) d ≡ false)
      (still : acts_in (chronicle setting (x ∷ h)) (plan_now setting (chronicle setting (x ∷ h))).backup_root ≡ false) where
    timed_ : IsTimedBy (losses setting.net) (depth setting.net) (delay setting.net) (round_gap setting.net) (tick_gap setting.net)
        (first_low setting.net (plan_now setting (chronicle setting (x ∷ h)))) (first_up setting.net (plan_now setting (chronicle setting (x ∷ h))))
        (second_low setting.net (plan_now setting (chronicle setting (x ∷ h)))) (second_up setting.net (plan_now setting (chronicle setting (x ∷ h))))
        (wait_low setting.net (plan_now setting (chronicle setting (x ∷ h))))
    timed_ = (sound setting x h e comes).timed

    -- the path is the cut path
    uncut : epath setting.net (plan_now setting (chronicle setting (x ∷ h))) d ≡ path setting.net (plan_now setting (chronicle setting (x ∷ h))) d
    uncut =
        let plan : Plan = plan_now setting (chronicle setting (x ∷ h)) in
        let parts = ordinary_parts (is_member plan d) (is_root plan d) (is_backup_root plan d) ordinary in
        uncut_path plan setting.net d
        (off_walk (is_member plan d) (not (is_backup_root plan d)) (on_walk setting.net plan d plan.backup_root) beside parts.0 (ap not parts.2))

    path_missed : (failed : List Thing) → ((y : Thing) → is_among failed y ≡ true → is_among (failed_now (chronicle setting (x ∷ h))) y ≡ true)
        → is_among failed (thing.Device (plan_now setting (chronicle setting (x ∷ h))).root) ≡ false
        → touches failed (path setting.net (plan_now setting (chronicle setting (x ∷ h))) d) ≡ false
    path_missed failed grows root =
        missed_path setting (chronicle setting (x ∷ h)) (path setting.net (plan_now setting (chronicle setting (x ∷ h))) d) failed grows root
        (subst (λ things. touches (failed_besides_root setting (chronicle setting (x ∷ h))) things ≡ false) uncut missed)

    when_late : (Early setting x h e comes → ⊥) → (b : Bool) → root_failed setting (chronicle setting (x ∷ h)) ≡ b
        → silent_for (chronicle setting (x ∷ h)) d (reference_of e) < wait_low setting.net (plan_now setting (chronicle setting (x ∷ h)))
    when_late late_ false root =
        let steps : List Step = chronicle setting (x ∷ h) in
        let short = (hears_whole (x ∷ h) e comes d (lives setting x h e comes root late_) (leads setting x h e comes root) old primary
        (path_missed (failed_now steps) (λ y is. is) root)).0 in
        alive_sum (losses setting.net) (depth setting.net) (delay setting.net) (round_gap setting.net) (tick_gap setting.net) _ _ _ _ _
        (silent_for steps d (reference_of e)) timed_ short
    when_late late_ true root =
        let steps : List Step = chronicle setting (x ∷ h) in
        let plan : Plan = plan_now setting steps in
        let things : List Thing = thing.Device plan.root ∷ [] in
        let r = some_failed things (seen_of steps) (thing.Device plan.root) first root in
        let f : FirstFailure setting things (x ∷ h) r.0 = first_failing setting things (x ∷ h) r.0 r.1 in
        let older : List Step = chronicle setting f.earlier in
        let not_yet : is_among (failed_now older) (thing.Device plan.root) ≡ false =
        none_failed_yet things (seen_of older) f.none (thing.Device plan.root) first in
        let since =
        heard_before setting x h e comes hears_whole d old primary things r.0 f
        (ap (λ n. is_among (failed_now older) (thing.Device (plan_numbered setting n).root)) f.era ∙ not_yet)
        (ap (λ n. touches (failed_now older) (path setting.net (plan_numbered setting n) d)) f.era ∙ path_missed (failed_now older) f.grows not_yet) in
        let at : root_failed_at setting steps ≡ late setting steps r.0 = ap (λ o. late setting steps (map_or o 0 (λ q. q))) r.1 in
        let soon = takes_over (x ∷ h) e comes root (backup_root_is_old setting x h e comes root still late_) still in
        failed_sum (losses setting.net) (depth setting.net) (delay setting.net) (round_gap setting.net) (tick_gap setting.net) _ _ _ _ _
        (late setting steps r.0) (reference_of e) (heard_at steps d) timed_
        (subst (λ g. reference_of e ≤ g + (depth setting.net + 1) * delay setting.net + first_up setting.net plan + second_up setting.net plan + 2 * tick_gap
        setting.net) at soon) since

    by_age : (b c : Bool) → nat_eq (era (chronicle setting (x ∷ h))) 1 ≡ b → nat_le (reference_of e) (all_started setting (chronicle setting (x ∷ h))) ≡ c
        → silent_for (chronicle setting (x ∷ h)) d (reference_of e) < wait_low setting.net (plan_now setting (chronicle setting (x ∷ h)))
    by_age true true era_ le_ =
        let steps : List Step = chronicle setting (x ∷ h) in
        let s : Stands setting steps d = old_stands setting (x ∷ h) d old in
        early_sum (losses setting.net) (depth setting.net) (delay setting.net) (round_gap setting.net) (tick_gap setting.net) _ _ _ _ _ _ (reference_of e)
        (heard_at steps d) timed_
        (leb-true (reference_of e) (all_started setting steps) le_) (heard_late setting x h e comes d s.past s.there)
    by_age true false era_ le_ =
        let lt : all_started setting (chronicle setting (x ∷ h)) < reference_of e =
        leb-false (reference_of e) (all_started setting (chronicle setting (x ∷ h))) le_ in
        when_late (λ early. let le = early.1 in omega (arith, le, lt)) (root_failed setting (chronicle setting (x ∷ h))) refl
    by_age false c era_ le_ =
        when_late (λ early. not_both (nat_eq (era (chronicle setting (x ∷ h))) 1) early.0 era_) (root_failed setting (chronicle setting (x ∷ h))) refl

    waits : silent_for (chronicle setting (x ∷ h)) d (reference_of e) < wait_low setting.net (plan_now setting (chronicle setting (x ∷ h)))
    waits = by_age (nat_eq (era (chronicle setting (x ∷ h))) 1) (nat_le (reference_of e) (all_started setting (chronicle setting (x ∷ h)))) refl refl

  pub beside_waits : AtNext BesideWaits setting
  beside_waits [] e comes d old ordinary primary beside missed still = cc
  beside_waits (x ∷ h) e comes d old ordinary primary beside missed still = waits x h e comes d old ordinary primary beside missed still
