-- Looking back in the words of the invariant: a device on its primary was on its primary, with the same plan, at each event since it heard; one on its
-- backup was on its backup since it heard and moved. From Back of timers, with what devices answer.
use Rattle.std.specs.Prelude.{◌≡◌, ℕ, ◌<◌, Bool, true, false, ◌&&◌, not, List, [], ◌∷◌, Option, Some, None, is_some, option_map, refl, if◌then◌else◌}
use Rattle.std.proofs.Common.{sym, ◌∙◌, ap, subst}
use Rattle.sd_num.specs.Lists.{map_or}
use Rattle.sd_plan.specs.declared.topo.Thing.TheVariants as thing
use Rattle.sd_device.specs.Calls.{CallDone, Past}
use Rattle.sd_device.specs.Words.{has_moved, is_acting, epoch_now, duty_now}
use Rattle.sd_sched.specs.declared.Event.{Event}
use Rattle.sd_sched.specs.Events.{reference_of}
use Rattle.sd_history.specs.World.{Setting, makes, fails, is_up}
use Rattle.sd_history.specs.Steps.{Act, Makes, Step, seen_of, acts_in, epoch_in, live_answers}
use Rattle.sd_history.specs.Chronicle.{past_in, chronicle, answers_by}
use Rattle.sd_safety.specs.messages.Moments.{Tail, whole, behind}
use Rattle.sd_safety.specs.invariant.Eras.{live_past, moved, on_primary, on_backup, heard_at, moved_at}
use Rattle.sd_safety.proofs.invariant.Parents.{live_is}
use Rattle.sd_safety.specs.timers.Times.{AreTimed, makes_device, hears, heard_in}
use Rattle.sd_safety.specs.timers.Since.{marks_by, Unmarked, no_step, one_step}
use Rattle.sd_safety.proofs.timers.Unmarked.{Same, unmarked_since}
use Rattle.sd_safety.proofs.timers.LookingBack.{same_then, primary_then, backup_then}
use Rattle.sd_safety.proofs.waits.SameReferences.{heard_is, moved_is}
use Rattle.sd_safety.proofs.moves.Ahead.{up_since}
use Rattle.sd_safety.proofs.invariant.Causes.{ordinary_parts}

-- a tail of a chronicle is the chronicle of a tail of its history
pub record IsChronicleOf (setting : Setting) (older : List Step) : Type 0 where
  pub history : List Event
  pub is : older ≡ chronicle setting history

pub tail_is_chronicle : (setting : Setting) (history : List Event) (older : List Step) → Tail older (chronicle setting history) → IsChronicleOf setting older
tail_is_chronicle setting [] older whole = record { history = []; is = refl }
tail_is_chronicle setting (e ∷ earlier) older whole = record { history = e ∷ earlier; is = refl }
tail_is_chronicle setting (e ∷ earlier) older (behind rest) = tail_is_chronicle setting earlier older rest

-- a device that is up, and was not made since, was up then
not_makes : (f : CallDone → Option ℕ) (act : Act) (d : ℕ) (p : Option Past) → marks_by f act d p ≡ false → makes_device act d ≡ false
not_makes f (Makes m making) d p none = none
not_makes f _ d p none = refl

was_up : (f : CallDone → Option ℕ) (setting : Setting) (d : ℕ) (older steps : List Step) → Unmarked f d older steps → AreTimed setting steps
    → is_up (seen_of steps) d ≡ true → is_up (seen_of older) d ≡ true
was_up f setting d older _ no_step timed up = up
was_up f setting d older _ (one_step {s = s} {steps = steps} none rest) timed up =
    was_up f setting d older steps rest timed.0
    (up_since (makes d s.seen.event) (fails (thing.Device d) s.seen.event) (is_up (seen_of steps) d)
    (timed.1.fits.makes_it d ∙ not_makes f s.act d (past_in steps d) none) up)

-- what a live device answers is what its past says, in every tail of a chronicle
live_then : (setting : Setting) (older : List Step) (d : ℕ) → IsChronicleOf setting older → live_answers older d ≡ option_map answers_by (live_past older d)
live_then setting older d c = subst (λ steps. live_answers steps d ≡ option_map answers_by (live_past steps d)) (sym c.is) (live_is setting c.history d)

-- how a live device stands, by its past
pub record Live (steps : List Step) (d : ℕ) : Type 0 where
  pub past : Past
  pub live : is_up (seen_of steps) d ≡ true
  pub there : past_in steps d ≡ Some past
  pub moved_is : moved steps d ≡ has_moved past
  pub acts_is : acts_in steps d ≡ is_acting past
  pub epoch_is : epoch_in steps d ≡ Some (epoch_now past)

pub stands_by : (setting : Setting) (steps : List Step) (d : ℕ) → IsChronicleOf setting steps → (past : Past) → is_up (seen_of steps) d ≡ true
    → past_in steps d ≡ Some past → Live steps d
stands_by setting steps d c past up there =
    let live : live_past steps d ≡ Some past = ap (λ b. if b then past_in steps d else None) up ∙ there in
    let answers : live_answers steps d ≡ Some (answers_by past) = live_then setting steps d c ∙ ap (option_map answers_by) live in
    record {
      past = past;
      live = up;
      there = there;
      moved_is = ap (λ p. map_or p false has_moved) live;
      acts_is = ap (λ a. map_or a false (λ x. x.acts)) answers;
      epoch_is = ap (option_map (λ a. a.epoch)) answers;
    }

live_of : (b : Bool) (p : Option Past) → is_some (if b then p else None) ≡ true → (b ≡ true) × (past : Past) × (p ≡ Some past)
live_of true None some = cc
live_of true (Some past) some = (refl, past, refl)
live_of false p some = cc

moved_some : (b : Bool) (p : Option Past) → map_or (if b then p else None) false has_moved ≡ true → is_some (if b then p else None) ≡ true
moved_some true None h = cc
moved_some true (Some past) h = refl
moved_some false p h = cc

pub two_parts : (m a : Bool) → (m && not a) ≡ true → (m ≡ true) × (a ≡ false)
two_parts true false h = (refl, refl)
two_parts true true h = cc
two_parts false a h = cc

pub all_three : (l m a : Bool) → l ≡ true → m ≡ false → a ≡ false → (l && not m && not a) ≡ true
all_three true false false x y z = refl
all_three true false true x y z = cc
all_three true true a x y z = cc
all_three false m a x y z = cc

pub both_two : (m a : Bool) → m ≡ true → a ≡ false → (m && not a) ≡ true
both_two true false x y = refl
both_two true true x y = cc
both_two false a x y = cc

-- what a device was at an earlier state
pub record Was (setting : Setting) (older steps : List Step) (d : ℕ) (place : List Step → ℕ → Bool) : Type 0 where
  pub on : place older d ≡ true
  pub live : is_up (seen_of older) d ≡ true
  pub epoch : epoch_in older d ≡ epoch_in steps d

module _ (setting : Setting) (history : List Event) (t : Step) (older : List Step) (d : ℕ) (tail : Tail (t ∷ older) (chronicle setting history))
    (timed : AreTimed setting (chronicle setting history))
    (heard_before : heard_at (chronicle setting history) d < reference_of t.seen.event) where
  below : {A : Type 0} {x : A} {xs ys : List A} → Tail (x ∷ xs) ys → Tail xs ys
  below whole = behind whole
  below (behind rest) = behind (below rest)

  heard_first : heard_in (chronicle setting history) d < reference_of t.seen.event
  heard_first = subst (λ h. h < reference_of t.seen.event) (heard_is setting (chronicle setting history) timed d) heard_before

  older_is : IsChronicleOf setting older
  older_is = tail_is_chronicle setting history older (below tail)

  up_then : is_up (seen_of (chronicle setting history)) d ≡ true → is_up (seen_of older) d ≡ true
  up_then up =
      was_up hears setting d older (chronicle setting history)
      (unmarked_since hears setting t older (chronicle setting history) d tail timed heard_first) timed up

  -- on its primary now: on its primary at each event later than it heard
  primary_by : (now : Live (chronicle setting history) d) → has_moved now.past ≡ false → is_acting now.past ≡ false
      → Was setting older (chronicle setting history) d on_primary
  unfolding heard_first older_is up_then
  primary_by now unmoved still =
      let old : Same d older (chronicle setting history) now.past =
      same_then setting t older (chronicle setting history) d now.past tail timed now.there still heard_first in
      let put : has_moved old.old ≡ false =
      primary_then setting t older (chronicle setting history) d now.past tail timed now.there still heard_first unmoved in
      by_old old.old old.there old.acts_not put old.duty
    where
      by_old : (old : Past) → past_in older d ≡ Some old → is_acting old ≡ false → has_moved old ≡ false → duty_now now.past ≡ duty_now old
          → Was setting older (chronicle setting history) d on_primary
      by_old old there acts_not put duty =
          let answers : live_answers older d ≡ Some (answers_by old) =
          live_then setting older d older_is ∙ ap (λ b. option_map answers_by (if b then past_in older d else None)) (up_then now.live)
          ∙ ap (option_map answers_by) there in
          record {
            on =
                all_three (is_some (live_past older d)) (moved older d) (acts_in older d)
                (ap (λ b. is_some (if b then past_in older d else None)) (up_then now.live) ∙ ap is_some there)
                (ap (λ b. map_or (if b then past_in older d else None) false has_moved) (up_then now.live) ∙ ap (λ p. map_or p false has_moved) there ∙ put)
                (ap (λ a. map_or a false (λ x. x.acts)) answers ∙ acts_not);
            live = up_then now.live;
            epoch = ap (option_map (λ a. a.epoch)) answers ∙ ap (λ u. Some (map_or u 0 (λ v. v.epoch))) (sym duty) ∙ sym now.epoch_is;
          }

  pub was_on_primary : on_primary (chronicle setting history) d ≡ true → Was setting older (chronicle setting history) d on_primary
  was_on_primary on =
      let steps : List Step = chronicle setting history in
      let parts = ordinary_parts (is_some (live_past steps d)) (moved steps d) (acts_in steps d) on in
      let there = live_of (is_up (seen_of steps) d) (past_in steps d) parts.0 in
      let now : Live steps d = stands_by setting steps d (record { history = history; is = refl }) there.1 there.0 there.2 in
      primary_by now (sym now.moved_is ∙ parts.1) (sym now.acts_is ∙ parts.2)

  -- on its backup now: on its backup at each event later than it heard and moved
  backup_by : (now : Live (chronicle setting history) d) → moved_at (chronicle setting history) d < reference_of t.seen.event → has_moved now.past ≡ true
      → is_acting now.past ≡ false → Was setting older (chronicle setting history) d on_backup
  unfolding heard_first older_is up_then
  backup_by now moved_before put_now still =
      let old : Same d older (chronicle setting history) now.past =
      same_then setting t older (chronicle setting history) d now.past tail timed now.there still heard_first in
      let put : has_moved old.old ≡ true =
      backup_then setting t older (chronicle setting history) d now.past tail timed now.there still heard_first
      (subst (λ m. m < reference_of t.seen.event) (moved_is setting (chronicle setting history) timed d) moved_before) put_now in
      by_old old.old old.there old.acts_not put old.duty
    where
      by_old : (old : Past) → past_in older d ≡ Some old → is_acting old ≡ false → has_moved old ≡ true → duty_now now.past ≡ duty_now old
          → Was setting older (chronicle setting history) d on_backup
      by_old old there acts_not put duty =
          let answers : live_answers older d ≡ Some (answers_by old) =
          live_then setting older d older_is ∙ ap (λ b. option_map answers_by (if b then past_in older d else None)) (up_then now.live)
          ∙ ap (option_map answers_by) there in
          record {
            on =
                both_two (moved older d) (acts_in older d)
                (ap (λ b. map_or (if b then past_in older d else None) false has_moved) (up_then now.live) ∙ ap (λ p. map_or p false has_moved) there ∙ put)
                (ap (λ a. map_or a false (λ x. x.acts)) answers ∙ acts_not);
            live = up_then now.live;
            epoch = ap (option_map (λ a. a.epoch)) answers ∙ ap (λ u. Some (map_or u 0 (λ v. v.epoch))) (sym duty) ∙ sym now.epoch_is;
          }

  pub was_on_backup : moved_at (chronicle setting history) d < reference_of t.seen.event → on_backup (chronicle setting history) d ≡ true
      → Was setting older (chronicle setting history) d on_backup
  was_on_backup moved_before on =
      let steps : List Step = chronicle setting history in
      let parts = two_parts (moved steps d) (acts_in steps d) on in
      let there = live_of (is_up (seen_of steps) d) (past_in steps d) (moved_some (is_up (seen_of steps) d) (past_in steps d) parts.0) in
      let now : Live steps d = stands_by setting steps d (record { history = history; is = refl }) there.1 there.0 there.2 in
      backup_by now moved_before (sym now.moved_is ∙ parts.0) (sym now.acts_is ∙ parts.1)
