-- Going back to the event at which the first of some things failed in the era: the era was the same, none of them had failed before, and what had
-- failed by then has failed now. And what is clean, with the invariant at each event, was so at each event before. By induction on the history.
use Rattle.std.specs.Prelude.{◌≡◌, ℕ, Bool, true, false, List, [], ◌∷◌, Option, Some, None, refl, if◌then◌else◌}
use Rattle.std.specs.List.{list_any, cons_option}
use Rattle.std.specs.Option.{option_or}
use Rattle.std.proofs.Common.{◌∙◌, sym}
use Rattle.std.proofs.lemmas.Bool.{or_from, or_right, false_from_ne_true}
use Rattle.sd_num.specs.Lists.{map_or}
use Rattle.sd_plan.specs.declared.topo.Thing.{Thing}
use Rattle.sd_plan.specs.domain.Things.{same_thing}
use Rattle.sd_sched.specs.declared.Event.{Event}
use Rattle.sd_sched.specs.Events.{reference_of}
use Rattle.sd_history.specs.Things.{failure_of}
use Rattle.sd_history.specs.World.{Setting, Seen, fails, epoch_in_force}
use Rattle.sd_history.specs.Steps.{Step, seen_of}
use Rattle.sd_history.specs.Chronicle.{chronicle, next_step}
use Rattle.sd_history.specs.Premises.{failures_since_closing}
use Rattle.sd_history.proofs.Among.{Among, any_passing}
use Rattle.sd_history.proofs.Given.{some_is}
use Rattle.sd_history.proofs.Shared.{epoch_kept}
use Rattle.sd_safety.specs.messages.Moments.{Tail, whole, behind}
use Rattle.sd_safety.specs.invariant.Eras.{is_among, first_failure}
use Rattle.sd_safety.specs.invariant.Invariant.{Invariant, AtEach}
use Rattle.sd_safety.specs.invariant.Guarded.{AreGuarded, IsSteady}
use Rattle.sd_safety.specs.invariant.Coming.{IsNextEvent}
use Rattle.sd_safety.proofs.invariant.Sides.{not_both}
use Rattle.sd_safety.proofs.receipts.Stood.{clean_of}

-- Tails of a history

pub chronicle_tail : (setting : Setting) (older history : List Event) → Tail older history → Tail (chronicle setting older) (chronicle setting history)
chronicle_tail setting older _ whole = whole
chronicle_tail setting older _ (behind {xs = earlier} rest) = behind (chronicle_tail setting older earlier rest)

pub each_tail : (P : List Step → Type 0) (setting : Setting) (older history : List Event) → Tail older history → AtEach P (chronicle setting history)
    → AtEach P (chronicle setting older)
each_tail P setting older _ whole each = each
each_tail P setting older _ (behind {xs = earlier} rest) each = each_tail P setting older earlier rest each.0

-- what comes at an earlier event
pub comes_at : (setting : Setting) (e : Event) (earlier history : List Event) → Tail (e ∷ earlier) history → AreGuarded setting → IsSteady setting history
    → AtEach (Invariant setting) (chronicle setting history) → IsNextEvent setting earlier e
comes_at setting e earlier history tail fair clean each =
    record {
      fair = fair;
      clean = clean_of setting (e ∷ earlier) history tail clean;
      before = (each_tail (Invariant setting) setting (e ∷ earlier) history tail each).0;
    }

-- Eras

-- what failed stays among the failed while no window closes
among_when : (x : Thing) (failed : Option Thing) (rest : List Thing) → is_among rest x ≡ true → is_among (cons_option failed rest) x ≡ true
among_when x None rest is = is
among_when x (Some y) rest is = or_right (same_thing x y) (is_among rest x) is

pub failed_grows : (s : Seen) (seen : List Seen) (x : Thing) → s.closed ≡ false → is_among (failures_since_closing seen) x ≡ true
    → is_among (failures_since_closing (s ∷ seen)) x ≡ true
failed_grows s seen x open_ is = rw (open_) (among_when x (failure_of s.event) (failures_since_closing seen) is)

-- none of the things has failed where none failed first
among_or : (x : Thing) (failed : Option Thing) (rest : List Thing) → map_or failed false (same_thing x) ≡ false → is_among rest x ≡ false
    → is_among (cons_option failed rest) x ≡ false
among_or x None rest new old = old
among_or x (Some y) rest new old = or_from (same_thing x y) (is_among rest x) new old

parts_of : (o : Option ℕ) (any : Bool) (r : ℕ) → option_or o (if any then Some r else None) ≡ None → (o ≡ None) × (any ≡ false)
parts_of None true r none = cc
parts_of None false r none = (refl, refl)
parts_of (Some q) any r none = cc

none_among : (x : Thing) (things : List Thing) (s : Seen) → Among x things → list_any (λ y. fails y s.event) things ≡ false → fails x s.event ≡ false
none_among x things s a none =
    false_from_ne_true (fails x s.event) (λ is. not_both (list_any (λ y. fails y s.event) things) (any_passing (λ y. fails y s.event) x things a is) none)

pub none_failed_yet : (things : List Thing) (seen : List Seen) → first_failure things seen ≡ None → (x : Thing) → Among x things
    → is_among (failures_since_closing seen) x ≡ false
none_failed_yet things [] none x a = refl
none_failed_yet things (s ∷ seen) none x a = go s.closed refl none (λ n. none_failed_yet things seen n x a)
  where
    go : (c : Bool) → s.closed ≡ c
        → (if c then None else option_or (first_failure things seen) (if list_any (λ y. fails y s.event) things then Some (reference_of s.event) else None))
        ≡ None
        → (first_failure things seen ≡ None → is_among (failures_since_closing seen) x ≡ false) → is_among (failures_since_closing (s ∷ seen)) x ≡ false
    go true is none' rest = rw (is) refl
    go false is none' rest =
        let parts = parts_of (first_failure things seen) (list_any (λ y. fails y s.event) things) (reference_of s.event) none' in
        rw (is) (among_or x (failure_of s.event) (failures_since_closing seen) (none_among x things s a parts.1) (rest parts.0))

-- and where one has failed, one failed first
pub some_failed : (things : List Thing) (seen : List Seen) (x : Thing) → Among x things → is_among (failures_since_closing seen) x ≡ true
    → (r : ℕ) × (first_failure things seen ≡ Some r)
some_failed things seen x a failed = go (first_failure things seen) refl
  where
    go : (o : Option ℕ) → first_failure things seen ≡ o → (r : ℕ) × (first_failure things seen ≡ Some r)
    go None none = absurd (not_both (is_among (failures_since_closing seen) x) failed (none_failed_yet things seen none x a))
    go (Some r) is = (r, is)

-- The event

pub record FirstFailure (setting : Setting) (things : List Thing) (history : List Event) (reference : ℕ) : Type 0 where
  pub event : Event
  pub earlier : List Event
  pub tail : Tail (event ∷ earlier) history
  pub fails : list_any (λ x. fails x event) things ≡ true
  pub at : reference_of event ≡ reference
  pub era : epoch_in_force (seen_of (chronicle setting earlier)) ≡ epoch_in_force (seen_of (chronicle setting history))
  pub stays_open : (next_step setting (chronicle setting earlier) event).seen.closed ≡ false
  pub none : first_failure things (seen_of (chronicle setting earlier)) ≡ None
  pub grows : (x : Thing) → is_among (failures_since_closing (seen_of (chronicle setting earlier))) x ≡ true
      → is_among (failures_since_closing (seen_of (chronicle setting history))) x ≡ true

pub first_failing : (setting : Setting) (things : List Thing) (history : List Event) (r : ℕ)
    → first_failure things (seen_of (chronicle setting history)) ≡ Some r → FirstFailure setting things history r
first_failing setting things [] r is = cc
first_failing setting things (e ∷ earlier) r is = by_closed s.closed refl (first_failing setting things earlier r) is
  where
    s : Seen
    s = (next_step setting (chronicle setting earlier) e).seen

    here : s.closed ≡ false → first_failure things (seen_of (chronicle setting earlier)) ≡ None → (any : Bool) → list_any (λ y. fails y e) things ≡ any
        → (if any then Some (reference_of e) else None) ≡ Some r
        → FirstFailure setting things (e ∷ earlier) r
    here open_ none false any same = cc
    here open_ none true any same =
        record {
          event = e;
          earlier = earlier;
          tail = whole;
          fails = any;
          at = some_is same;
          era = sym (epoch_kept s (seen_of (chronicle setting earlier)) open_);
          stays_open = open_;
          none = none;
          grows = λ x. failed_grows s (seen_of (chronicle setting earlier)) x open_;
        }

    further : s.closed ≡ false → FirstFailure setting things earlier r → FirstFailure setting things (e ∷ earlier) r
    further open_ f =
        record {
          event = f.event;
          earlier = f.earlier;
          tail = behind f.tail;
          fails = f.fails;
          at = f.at;
          era = f.era ∙ sym (epoch_kept s (seen_of (chronicle setting earlier)) open_);
          stays_open = f.stays_open;
          none = f.none;
          grows = λ x is. failed_grows s (seen_of (chronicle setting earlier)) x open_ (f.grows x is);
        }

    by_earlier : s.closed ≡ false → (first_failure things (seen_of (chronicle setting earlier)) ≡ Some r → FirstFailure setting things earlier r)
        → (o : Option ℕ) → first_failure things (seen_of (chronicle setting earlier)) ≡ o
        → option_or o (if list_any (λ y. fails y e) things then Some (reference_of e) else None) ≡ Some r → FirstFailure setting things (e ∷ earlier) r
    by_earlier open_ rest None was same = here open_ was (list_any (λ y. fails y e) things) refl same
    by_earlier open_ rest (Some q) was same = further open_ (rest (was ∙ same))

    by_closed : (c : Bool) → s.closed ≡ c → (first_failure things (seen_of (chronicle setting earlier)) ≡ Some r → FirstFailure setting things earlier r)
        → (if c then None else option_or (first_failure things (seen_of (chronicle setting earlier)))
        (if list_any (λ y. fails y e) things then Some (reference_of e) else None)) ≡ Some r
        → FirstFailure setting things (e ∷ earlier) r
    by_closed true closed rest same = cc
    by_closed false closed rest same = by_earlier closed rest (first_failure things (seen_of (chronicle setting earlier))) refl same
