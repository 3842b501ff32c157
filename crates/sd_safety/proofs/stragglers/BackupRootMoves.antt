-- The move of the backup root in an era with a mend, with an event: it comes at most its first wait and a tick after it heard, and at least Low of that wait.
-- So it does not
-- move once its path is whole again, and after a straggler it moves well after the root failed, if that did.
use Rattle.std.specs.Prelude.{◌≡◌, ℕ, ◌+◌, ◌*◌, ◌-◌, ◌<◌, ◌≤◌, Bool, true, false, ◌&&◌, not, List, [], ◌∷◌, max, nat_eq, Option, Some, refl, if◌then◌else◌}
use Rattle.std.proofs.Common.{arith, ap}
use Rattle.std.proofs.lemmas.Bool.{and_parts, eq-eqb, not-true, false_from_ne_true}
use Rattle.sd_num.specs.Lists.{map_or}
use Rattle.sd_plan.specs.declared.topo.Thing.TheVariants as thing
use Rattle.sd_plan.specs.declared.Plan.{Plan}
use Rattle.sd_plan.specs.Plans.{is_member, is_root, is_backup_root}
use Rattle.sd_checker.specs.check_root.Timing.{round_gap}
use Rattle.sd_sched.specs.declared.Event.{Event}
use Rattle.sd_sched.specs.Events.{reference_of}
use Rattle.sd_history.proofs.Among.{first as at_first}
use Rattle.sd_history.specs.World.{Setting}
use Rattle.sd_history.specs.Steps.{Step, seen_of}
use Rattle.sd_history.specs.Chronicle.{chronicle, next_step}
use Rattle.sd_safety.specs.invariant.Bounds.{losses, depth, delay, tick_gap, first_low, first_up, second_low, second_up, wait_low, IsTimedBy}
use Rattle.sd_safety.specs.invariant.Eras.{era, plan_now, first_failure, beginning, all_started, late, heard_at, is_old, is_ordinary, moved, on_primary, hit, path_hit, root_failed}
use Rattle.sd_safety.specs.invariant.Silences.{root_failed_at}
use Rattle.sd_safety.specs.invariant.Coming.{IsNextEvent}
use Rattle.sd_safety.proofs.invariant.Facts.{IsSound}
use Rattle.sd_safety.proofs.invariant.Sides.{not_both}
use Rattle.sd_safety.specs.messages.Moments.{when}
use Rattle.sd_safety.proofs.waits.Waits.{Stands, old_stands}
use Rattle.sd_safety.proofs.waits.Standing.{sound, heard_late}
use Rattle.sd_safety.proofs.silences.WalkWays.{over}
use Rattle.sd_safety.specs.behind.Feeding.{mended_now, path_failed_at}
use Rattle.sd_safety.proofs.behind.Failing.{some_failed}
use Rattle.sd_safety.proofs.behind.Moved.{silence_now, not_root}
use Rattle.sd_safety.proofs.behind.Sealing.{seals_soon}
use Rattle.sd_safety.proofs.spans.SilenceStarts.{comes_before}
use Rattle.sd_safety.proofs.paths.Broken.{path_hears_no_more}
use Rattle.sd_safety.proofs.stragglers.Stragglers.{IsFed}
use Rattle.sd_safety.proofs.stragglers.PathWays.{comes_down}
use Rattle.sd_safety.proofs.stragglers.Waited.{moves_late}

-- Sums: r the move, hb what the backup root heard before it, g the failure of its path, r0 the first event, gr that of the root

module _ (k h d p q l1 f1 l2 f2 lw : ℕ) (t : IsTimedBy k h d p q l1 f1 l2 f2 lw) where
  -- once it hears each round it does not move
  never_sum : (r hb r0 : ℕ) → r ≤ max hb (r0 + q) + (k + 1) * p + 2 * h * d → r0 ≤ hb → l1 ≤ r - hb → ⊥
  never_sum r hb r0 by began low = omega (arith, by, began, low, t.first_long, t.tick)

  late_sum : (r hb r0 : ℕ) → r0 ≤ hb → l1 ≤ r - hb → r0 + q < r
  late_sum r hb r0 began low = omega (arith, began, low, t.first_long, t.tick)

  root_sum : (r hb r0 g : ℕ) → g ≤ hb → r0 ≤ hb → l1 ≤ r - hb → max g (r0 + q) + (h + 1) * d ≤ r
  root_sum r hb r0 g failed began low = omega (arith, failed, began, low, t.first_long, t.tick)

pub first_sum : (r hb g k f q : ℕ) → r - hb ≤ f + q → hb ≤ g + k → r ≤ g + k + f + q
first_sum r hb g k f q short by = omega (arith, short, by)

late_at_most : (b : Bool) (r c : ℕ) → (if b then max r c else r) ≤ max r c
late_at_most true r c = omega arith
late_at_most false r c = omega arith

-- The move, with the event x
module _ (setting : Setting) (x : Event) (y : Event) (ys : List Event) (e : Event) (comes : IsNextEvent setting (x ∷ y ∷ ys) e)
    (open_ : (next_step setting (chronicle setting (y ∷ ys)) x).seen.closed ≡ false)
    (old : is_old (chronicle setting (y ∷ ys)) (plan_now setting (chronicle setting (y ∷ ys))).backup_root ≡ true)
    (on : on_primary (chronicle setting (y ∷ ys)) (plan_now setting (chronicle setting (y ∷ ys))).backup_root ≡ true)
    (broken : path_hit setting (chronicle setting (y ∷ ys)) (plan_now setting (chronicle setting (y ∷ ys))).backup_root ≡ true)
    (old_next : is_old (chronicle setting (x ∷ y ∷ ys)) (plan_now setting (chronicle setting (y ∷ ys))).backup_root ≡ true)
    (put : moved (chronicle setting (x ∷ y ∷ ys)) (plan_now setting (chronicle setting (y ∷ ys))).backup_root ≡ true) where
  abbrev older : List Step
  older = chronicle setting (y ∷ ys)

  abbrev plan : Plan
  plan = plan_now setting (chronicle setting (y ∷ ys))

  abbrev b : ℕ
  b = (plan_now setting (chronicle setting (y ∷ ys))).backup_root

  abbrev k : ℕ
  k = depth setting.net * delay setting.net

  abbrev f1 : ℕ
  f1 = first_up setting.net (plan_now setting (chronicle setting (y ∷ ys)))

  before_ : IsNextEvent setting (y ∷ ys) x
  before_ = comes_before setting x (y ∷ ys) e comes

  fine : IsSound setting.net (plan_now setting (chronicle setting (y ∷ ys)))
  fine = sound setting y ys x before_

  timed_ : IsTimedBy (losses setting.net) (depth setting.net) (delay setting.net) (round_gap setting.net) (tick_gap setting.net)
      (first_low setting.net plan) (first_up setting.net plan) (second_low setting.net plan) (second_up setting.net plan) (wait_low setting.net plan)
  timed_ = fine.timed

  other : is_root (plan_now setting (chronicle setting (y ∷ ys))) b ≡ false
  other = not_root setting.net plan fine

  self : is_backup_root (plan_now setting (chronicle setting (y ∷ ys))) b ≡ true
  self = eq-eqb b b refl

  -- its deadline, and that it waited
  pub short : reference_of x - heard_at (chronicle setting (y ∷ ys)) b ≤ f1 + tick_gap setting.net
  short = silence_now setting (y ∷ ys) x before_ (seals_soon setting (y ∷ ys) x before_) old on

  long : first_low setting.net (plan_now setting (chronicle setting (y ∷ ys))) ≤ reference_of x - heard_at (chronicle setting (y ∷ ys)) b
  long = moves_late setting x (y ∷ ys) e comes b old on fine.backup_member other self old_next put fine.fits.backup_root

  began : beginning (seen_of (chronicle setting (y ∷ ys))) ≤ heard_at (chronicle setting (y ∷ ys)) b
  began = let s : Stands setting older b = old_stands setting (y ∷ ys) b old in heard_late setting y ys x before_ b s.past s.there

  ordinary_not : is_ordinary (plan_now setting (chronicle setting (y ∷ ys))) b ≡ false
  ordinary_not =
      false_from_ne_true (is_ordinary plan b)
      (λ is. not_both (is_backup_root plan b) self
      (not-true (is_backup_root plan b) (and_parts (is_member plan b && not (is_root plan b)) (not (is_backup_root plan b)) is).1))

  unhit_by : (a c : Bool) → c ≡ false → (a && c) ≡ false
  unhit_by true c none = none
  unhit_by false c none = refl

  -- it does not once its path is whole again
  pub never : IsFed setting (chronicle setting (y ∷ ys)) → ⊥
  never f =
      let since : when f.moment ≤ max (heard_at older b) (all_started setting older) = let at = f.heard in omega (arith, at) in
      let late_ : all_started setting older < reference_of x =
      late_sum (losses setting.net) (depth setting.net) (delay setting.net) (round_gap setting.net) (tick_gap setting.net) _ _ _ _ _ timed_ (reference_of x)
      (heard_at older b) (beginning (seen_of older)) began long in
      never_sum (losses setting.net) (depth setting.net) (delay setting.net) (round_gap setting.net) (tick_gap setting.net) _ _ _ _ _ timed_ (reference_of x)
      (heard_at older b) (beginning (seen_of older))
      (comes_down setting y ys x before_ old on f (max (heard_at older b) (all_started setting older)) since (omega arith) late_ b old on
      (unhit_by (hit setting older b) (is_ordinary plan b) ordinary_not) (omega arith) [] over refl (omega arith))
      began long

  -- with no mend yet, or with what it heard since one
  pub without : mended_now (chronicle setting (y ∷ ys)) ≡ false
      → reference_of x ≤ path_failed_at setting (chronicle setting (y ∷ ys)) + k + f1 + tick_gap setting.net
  without none =
      first_sum (reference_of x) (heard_at older b) (path_failed_at setting older) k f1 (tick_gap setting.net) short
      (path_hears_no_more setting (y ∷ ys) x before_ none broken old on)

  -- the root failed before the straggler came
  pub root_before : ((r : ℕ)
      → first_failure (thing.Device (plan_now setting (chronicle setting (y ∷ ys))).root ∷ []) (seen_of (chronicle setting (y ∷ ys))) ≡ Some r
      → r ≤ heard_at (chronicle setting (y ∷ ys)) b) → root_failed setting (chronicle setting (y ∷ ys)) ≡ true
      → root_failed_at setting (chronicle setting (y ∷ ys)) + (depth setting.net + 1) * delay setting.net ≤ reference_of x
  root_before by failed =
      let r = some_failed (thing.Device plan.root ∷ []) (seen_of older) (thing.Device plan.root) at_first failed in
      let at : root_failed_at setting older ≡ late setting older r.0 = ap (λ (o : Option ℕ). late setting older (map_or o 0 (λ q. q))) r.1 in
      let most : late setting older r.0 ≤ max r.0 (all_started setting older) = late_at_most (nat_eq (era older) 1) r.0 (all_started setting older) in
      let sum : max r.0 (all_started setting older) + (depth setting.net + 1) * delay setting.net ≤ reference_of x =
      root_sum (losses setting.net) (depth setting.net) (delay setting.net) (round_gap setting.net) (tick_gap setting.net) _ _ _ _ _ timed_ (reference_of x)
      (heard_at older b) (beginning (seen_of older)) r.0 (by r.0 r.1) began long in
      omega (arith, at, most, sum)
