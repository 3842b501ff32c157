-- Lemma 13 at the event at which the first of some things failed in the era: a device that is on its primary now, and whose path was whole just before
-- that event, heard at most A + P + H * D before it. For 14 with the path of the backup root, and for 17 with the root.
use Rattle.std.specs.Prelude.{◌≡◌, ℕ, ◌+◌, ◌*◌, ◌<◌, ◌≤◌, Bool, true, false, List, [], ◌∷◌, max, nat_eq, nat_le, nat_lt, refl, if◌then◌else◌}
use Rattle.std.proofs.Common.{arith, ◌∙◌, ap, sym, subst}
use Rattle.std.proofs.lemmas.Bool.{leb-true, leb-false, ltb-true, ltb-false, false≢true}
use Rattle.sd_num.specs.Lists.{same_number}
use Rattle.sd_plan.specs.declared.topo.Thing.{Thing}
use Rattle.sd_checker.specs.check_root.Timing.{round_gap}
use Rattle.sd_sched.specs.declared.Event.{Event}
use Rattle.sd_sched.specs.Events.{reference_of}
use Rattle.sd_history.specs.World.{Setting}
use Rattle.sd_history.specs.Steps.{Step, seen_of, epoch_in}
use Rattle.sd_history.specs.Chronicle.{chronicle, next_step}
use Rattle.sd_safety.specs.messages.Moments.{Tail, whole, behind}
use Rattle.sd_safety.specs.invariant.Bounds.{rounds_gap, depth, delay, tick_gap}
use Rattle.sd_safety.specs.invariant.Eras.{era, all_started, beginning, late, is_old, on_primary, path_hit, root_failed, heard_at}
use Rattle.sd_safety.specs.invariant.Silences.{WholePathHears}
use Rattle.sd_safety.specs.invariant.Coming.{IsNextEvent, AtNext}
use Rattle.sd_safety.proofs.invariant.Sides.{not_both}
use Rattle.sd_safety.specs.timers.Times.{AreTimed, hears, heard_in}
use Rattle.sd_safety.proofs.timers.Emissions.{reference_rises}
use Rattle.sd_safety.proofs.waits.SameReferences.{heard_is}
use Rattle.sd_safety.proofs.waits.Waits.{Stands, old_stands}
use Rattle.sd_safety.proofs.waits.LookingBack.{was_on_primary}
use Rattle.sd_safety.proofs.behind.Failing.{chronicle_tail, comes_at, FirstFailure}
use Rattle.sd_safety.proofs.waits.Standing as standing
use Rattle.sd_safety.proofs.waits.Standing.{clean, steps_timed, sound, heard_late, leads, lives}
use Rattle.sd_safety.proofs.messages.Tails.{rest_of}

-- the first event is the same at each event
pub begin_same : (setting : Setting) (z : Event) (zs history : List Event) → Tail (z ∷ zs) history
    → beginning (seen_of (chronicle setting (z ∷ zs))) ≡ beginning (seen_of (chronicle setting history))
begin_same setting z zs _ whole = refl
begin_same setting z zs _ (behind {xs = []} rest) = absurd (none rest)
  where
    none : {A : Type 0} {y : A} {ys : List A} → Tail (y ∷ ys) [] → ⊥
    none t = elim t [ ]
begin_same setting z zs _ (behind {xs = w ∷ ws} rest) = begin_same setting z zs (w ∷ ws) rest

-- what a device has heard it has heard
pub heard_rises : (setting : Setting) (older history : List Event) (d : ℕ) → Tail older history → AreTimed setting (chronicle setting older)
    → AreTimed setting (chronicle setting history)
    → heard_at (chronicle setting older) d ≤ heard_at (chronicle setting history) d
heard_rises setting older history d tail first_timed all_timed =
    subst (λ a. a ≤ heard_at (chronicle setting history) d) (sym (heard_is setting (chronicle setting older) first_timed d))
    (subst (λ b. heard_in (chronicle setting older) d ≤ b) (sym (heard_is setting (chronicle setting history) all_timed d))
    (reference_rises hears setting (chronicle setting older) (chronicle setting history) d (chronicle_tail setting older history tail) all_timed))

module _ (setting : Setting) (x : Event) (h : List Event) (e : Event) (comes : IsNextEvent setting (x ∷ h) e) (hears_whole : AtNext WholePathHears setting)
    (d : ℕ) (old : is_old (chronicle setting (x ∷ h)) d ≡ true) (primary : on_primary (chronicle setting (x ∷ h)) d ≡ true) where
  -- how long a device is silent at most before its path breaks
  abbrev pub lag : ℕ
  lag = rounds_gap setting.net + round_gap setting.net + depth setting.net * delay setting.net

  at_break : (z : Event) (earlier : List Event) → Tail (z ∷ earlier) (x ∷ h) → era (chronicle setting earlier) ≡ era (chronicle setting (x ∷ h))
      → root_failed setting (chronicle setting earlier) ≡ false → path_hit setting (chronicle setting earlier) d ≡ false
      → ((nat_eq (era (chronicle setting (x ∷ h))) 1 ≡ true) → reference_of z ≤ all_started setting (chronicle setting (x ∷ h)) → ⊥)
      → heard_at (chronicle setting (x ∷ h)) d < reference_of z → reference_of z ≤ heard_at (chronicle setting (x ∷ h)) d + lag
  at_break z [] tail same root path late_ lt =
      let was = was_on_primary setting (x ∷ h) (next_step setting [] z) [] d (chronicle_tail setting (z ∷ []) (x ∷ h) tail)
      (steps_timed setting x h e comes) lt primary in
      absurd (false≢true was.on)
  at_break z (y ∷ ys) tail same root path late_ lt =
      let steps : List Step = chronicle setting (x ∷ h) in
      let older : List Step = chronicle setting (y ∷ ys) in
      let comes_ : IsNextEvent setting (y ∷ ys) z = comes_at setting z (y ∷ ys) (x ∷ h) tail comes.fair (clean setting x h e comes) comes.before in
      let was = was_on_primary setting (x ∷ h) (next_step setting older z) older d (chronicle_tail setting (z ∷ y ∷ ys) (x ∷ h) tail)
      (steps_timed setting x h e comes) lt primary in
      let old_ : is_old older d ≡ true = ap (λ o. same_number o (era older)) was.epoch ∙ ap (same_number (epoch_in steps d)) same ∙ old in
      let early : standing.Early setting y ys z comes_ → ⊥ =
      λ both. late_ (subst (λ n. nat_eq n 1 ≡ true) same both.0)
      (subst (λ b. reference_of z ≤ b + tick_gap setting.net) (begin_same setting y ys (x ∷ h) (rest_of tail)) both.1) in
      let short = (hears_whole (y ∷ ys) z comes_ d (lives setting y ys z comes_ root early) (leads setting y ys z comes_ root) old_ was.on path).0 in
      let rises : heard_at older d ≤ heard_at steps d =
      heard_rises setting (y ∷ ys) (x ∷ h) d (rest_of tail) (steps_timed setting y ys z comes_) (steps_timed setting x h e comes) in
      omega (arith, short, rises)

  module _ (things : List Thing) (r : ℕ) (f : FirstFailure setting things (x ∷ h) r) (root : root_failed setting (chronicle setting f.earlier) ≡ false)
      (path : path_hit setting (chronicle setting f.earlier) d ≡ false) where
    by_order : ((nat_eq (era (chronicle setting (x ∷ h))) 1 ≡ true) → r ≤ all_started setting (chronicle setting (x ∷ h)) → ⊥) → (b : Bool)
        → nat_lt (heard_at (chronicle setting (x ∷ h)) d) r ≡ b
        → r ≤ heard_at (chronicle setting (x ∷ h)) d + lag
    by_order late_ true is =
        let lt : heard_at (chronicle setting (x ∷ h)) d < r = ltb-true (heard_at (chronicle setting (x ∷ h)) d) r is in
        subst (λ q. q ≤ heard_at (chronicle setting (x ∷ h)) d + lag) f.at
        (at_break f.event f.earlier f.tail f.era root path (λ first le. late_ first (subst (λ q. q ≤ all_started setting (chronicle setting (x ∷ h))) f.at le))
        (subst (λ q. heard_at (chronicle setting (x ∷ h)) d < q) (sym f.at) lt))
    by_order late_ false is = let le : r ≤ heard_at (chronicle setting (x ∷ h)) d = ltb-false (heard_at (chronicle setting (x ∷ h)) d) r is in omega (arith, le)

    started : beginning (seen_of (chronicle setting (x ∷ h))) ≤ heard_at (chronicle setting (x ∷ h)) d
    started = let s : Stands setting (chronicle setting (x ∷ h)) d = old_stands setting (x ∷ h) d old in heard_late setting x h e comes d s.past s.there

    gap_is_short : tick_gap setting.net + 1 ≤ round_gap setting.net
    gap_is_short = (sound setting x h e comes).timed.gap

    by_era : (b c : Bool) → nat_eq (era (chronicle setting (x ∷ h))) 1 ≡ b → nat_le r (all_started setting (chronicle setting (x ∷ h))) ≡ c
        → (if b then max r (all_started setting (chronicle setting (x ∷ h))) else r) ≤ heard_at (chronicle setting (x ∷ h)) d + lag
    by_era true true first le_ =
        let le : r ≤ all_started setting (chronicle setting (x ∷ h)) = leb-true r (all_started setting (chronicle setting (x ∷ h))) le_ in
        omega (arith, le, started, gap_is_short)
    by_era true false first le_ =
        let lt : all_started setting (chronicle setting (x ∷ h)) < r = leb-false r (all_started setting (chronicle setting (x ∷ h))) le_ in
        let short = by_order (λ o le. omega (arith, le, lt)) (nat_lt (heard_at (chronicle setting (x ∷ h)) d) r) refl in
        omega (arith, lt, short)
    by_era false c first le_ =
        by_order (λ o le. not_both (nat_eq (era (chronicle setting (x ∷ h))) 1) o first) (nat_lt (heard_at (chronicle setting (x ∷ h)) d) r) refl

    pub heard_before : late setting (chronicle setting (x ∷ h)) r ≤ heard_at (chronicle setting (x ∷ h)) d + lag
    heard_before = by_era (nat_eq (era (chronicle setting (x ∷ h))) 1) (nat_le r (all_started setting (chronicle setting (x ∷ h)))) refl refl
