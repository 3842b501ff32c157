-- When the path of the backup root broke, and when the root failed, against what an old device behind it that is not hit heard last: the path not long after
-- that, and
-- so the root, where the backup root moved with no straggler before. And what is known of the backup root once its path broke, without a mend and with one.
use Rattle.std.specs.Prelude.{◌≡◌, ℕ, ◌+◌, ◌*◌, ◌<◌, ◌≤◌, Bool, true, false, List, [], ◌∷◌, max, nat_eq, nat_le, nat_lt, Option, Some, None, refl, ◌⊎◌}
use Rattle.std.proofs.Common.{arith, ◌∙◌, ap, sym, subst, inl, inr}
use Rattle.std.proofs.lemmas.Bool.{leb-true, leb-false, ltb-true, ltb-false, false_from_ne_true, false≢true}
use Rattle.sd_num.specs.Lists.{map_or, same_number}
use Rattle.sd_plan.specs.declared.topo.Thing.{Thing}
use Rattle.sd_plan.specs.declared.topo.Thing.TheVariants as thing
use Rattle.sd_plan.specs.declared.Plan.{Plan}
use Rattle.sd_plan.specs.Plans.{is_root}
use Rattle.sd_plan.specs.Walks.{path, epath}
use Rattle.sd_checker.specs.check_root.Timing.{round_gap}
use Rattle.sd_sched.specs.declared.Event.{Event}
use Rattle.sd_sched.specs.Events.{reference_of}
use Rattle.sd_history.specs.World.{Setting, plan_numbered}
use Rattle.sd_history.specs.Steps.{Step, seen_of, acts_in, epoch_in}
use Rattle.sd_history.specs.Chronicle.{chronicle}
use Rattle.sd_history.proofs.Among.{Among, first}
use Rattle.sd_safety.specs.messages.Moments.{Tail}
use Rattle.sd_safety.specs.invariant.Bounds.{depth, delay, tick_gap, rounds_gap, first_up}
use Rattle.sd_safety.specs.invariant.Eras.{era, plan_now, failed_now, is_among, touches, first_failure, all_started, late, is_old, moved, on_primary, path_hit, root_failed, heard_at, moved_at}
use Rattle.sd_safety.specs.invariant.Clauses.{backup_root_acts}
use Rattle.sd_safety.specs.invariant.Silences.{WholePathHears, root_failed_at}
use Rattle.sd_safety.specs.invariant.Coming.{IsNextEvent, AtNext}
use Rattle.sd_safety.proofs.invariant.CutPaths.{root_on_path}
use Rattle.sd_safety.proofs.invariant.Sides.{implied, not_both}
use Rattle.sd_safety.specs.timers.Times.{AreTimed, moves, moved_in}
use Rattle.sd_safety.proofs.timers.Emissions.{reference_rises}
use Rattle.sd_safety.proofs.waits.SameReferences.{moved_is}
use Rattle.sd_safety.specs.behind.Pieces.{SealsSoon}
use Rattle.sd_safety.specs.behind.Feeding.{mended_now, path_failed_at, PathHearsNoMore, StandsBehind, FallbackFeeds, MendedHears, MendedMoves}
use Rattle.sd_safety.proofs.behind.Failing.{FirstFailure, first_failing, some_failed, none_failed_yet, chronicle_tail, comes_at}
use Rattle.sd_safety.proofs.invariant.Facts.{IsSound}
use Rattle.sd_safety.proofs.waits.Standing as standing
use Rattle.sd_safety.proofs.waits.Standing.{now, clean, steps_timed, sound, leads, lives}
use Rattle.sd_safety.proofs.behind.BeforeFailure.{begin_same, heard_rises, heard_before}
use Rattle.sd_safety.proofs.behind.Moved.{not_root}
use Rattle.sd_safety.proofs.behind.Takeover.{backup_where}
use Rattle.sd_safety.proofs.behind.EventBack.{moved_then}
use Rattle.sd_safety.proofs.behind.Broken.{first_at, hit_first, touches_more, moved_after_break}
use Rattle.sd_safety.proofs.behind.Paths.{path_by_parts}
use Rattle.sd_safety.proofs.behind.EraSums.{late_from_start, late_split}
use Rattle.sd_safety.proofs.behind.StoodBehind.{stood_then}
use Rattle.sd_safety.proofs.messages.Tails.{rest_of}

pub moved_rises : (setting : Setting) (older history : List Event) (d : ℕ) → Tail older history → AreTimed setting (chronicle setting older)
    → AreTimed setting (chronicle setting history)
    → moved_at (chronicle setting older) d ≤ moved_at (chronicle setting history) d
moved_rises setting older history d tail first_timed all_timed =
    subst (λ a. a ≤ moved_at (chronicle setting history) d) (sym (moved_is setting (chronicle setting older) first_timed d))
    (subst (λ b. moved_in (chronicle setting older) d ≤ b) (sym (moved_is setting (chronicle setting history) all_timed d))
    (reference_rises moves setting (chronicle setting older) (chronicle setting history) d (chronicle_tail setting older history tail) all_timed))

-- what the backup root heard after its path broke, and what comes of it; and when it moved

abbrev pub Fed : Setting → List Step → ℕ → ℕ → Type 0
Fed setting steps reference d =
    reference
    ≤ max (heard_at steps d)
    (path_failed_at setting steps + depth setting.net * delay setting.net + 2 * (first_up setting.net (plan_now setting steps) + tick_gap setting.net))
    + (rounds_gap setting.net + 2 * depth setting.net * delay setting.net) + tick_gap setting.net

-- none, or at most a straggler
abbrev pub Heard : Setting → List Step → Type 0
Heard setting steps =
    heard_at steps (plan_now setting steps).backup_root ≤ path_failed_at setting steps + depth setting.net * delay setting.net + first_up setting.net
    (plan_now setting steps) + tick_gap setting.net

-- with no straggler before
abbrev pub MovedFirst : Setting → List Step → Type 0
MovedFirst setting steps =
    moved_at steps (plan_now setting steps).backup_root ≤ path_failed_at setting steps + depth setting.net * delay setting.net + first_up setting.net
    (plan_now setting steps) + tick_gap setting.net

-- or after a straggler, which came after the root failed, if it did
abbrev pub MovedLater : Setting → List Step → Type 0
MovedLater setting steps =
    (moved_at steps (plan_now setting steps).backup_root ≤ path_failed_at setting steps + depth setting.net * delay
    setting.net + 2 * (first_up setting.net (plan_now setting steps) + tick_gap setting.net))
    × (root_failed setting steps ≡ true
    → root_failed_at setting steps + (depth setting.net + 1) * delay setting.net ≤ moved_at steps (plan_now setting steps).backup_root)

-- what is known of the backup root whose path is hit
pub record IsBounded (setting : Setting) (steps : List Step) (reference d : ℕ) : Type 0 where
  pub hears : on_primary steps (plan_now setting steps).backup_root ≡ true → Fed setting steps reference d ⊎ Heard setting steps
  pub moves : moved steps (plan_now setting steps).backup_root ≡ true → MovedFirst setting steps ⊎ MovedLater setting steps

-- without a mend there is no straggler
pub bounded_unmended : (setting : Setting) → AtNext SealsSoon setting → AtNext PathHearsNoMore setting → (x : Event) (h : List Event) (e : Event)
    → IsNextEvent setting (x ∷ h) e → (d : ℕ)
    → is_old (chronicle setting (x ∷ h)) (plan_now setting (chronicle setting (x ∷ h))).backup_root ≡ true → mended_now (chronicle setting (x ∷ h)) ≡ false
    → path_hit setting (chronicle setting (x ∷ h)) (plan_now setting (chronicle setting (x ∷ h))).backup_root ≡ true
    → IsBounded setting (chronicle setting (x ∷ h)) (reference_of e) d
bounded_unmended setting seals path_no_more x h e comes d old_b none broken =
    record {
      hears = λ primary. inr (let le = path_no_more (x ∷ h) e comes none broken old_b primary in omega (arith, le));
      moves = λ put. inl (moved_after_break setting comes.fair seals path_no_more (x ∷ h) (clean setting x h e comes) comes.before old_b put none);
    }

-- with a mend there may be one
pub bounded_mended : (setting : Setting) → AtNext MendedHears setting → AtNext MendedMoves setting → (x : Event) (h : List Event) (e : Event)
    → IsNextEvent setting (x ∷ h) e → (d : ℕ) → StandsBehind setting (chronicle setting (x ∷ h)) d
    → is_old (chronicle setting (x ∷ h)) (plan_now setting (chronicle setting (x ∷ h))).backup_root ≡ true → mended_now (chronicle setting (x ∷ h)) ≡ true
    → path_hit setting (chronicle setting (x ∷ h)) (plan_now setting (chronicle setting (x ∷ h))).backup_root ≡ true
    → IsBounded setting (chronicle setting (x ∷ h)) (reference_of e) d
bounded_mended setting mended_hears mended_moves x h e comes d st old_b is broken =
    record {
      hears = λ primary. by_feeding (mended_hears (x ∷ h) e comes is broken old_b primary);
      moves = λ put. mended_moves (x ∷ h) e comes is broken old_b put;
    }
  where
    by_feeding : ((c : ℕ) → StandsBehind setting (chronicle setting (x ∷ h)) c → Fed setting (chronicle setting (x ∷ h)) (reference_of e) c)
        ⊎ Heard setting (chronicle setting (x ∷ h))
        → Fed setting (chronicle setting (x ∷ h)) (reference_of e) d ⊎ Heard setting (chronicle setting (x ∷ h))
    by_feeding (inl each) = inl (each d st)
    by_feeding (inr heard) = inr heard

-- the root is on the path of the backup root, and is not it
pub backup_root_low : (setting : Setting) (x : Event) (h : List Event) (e : Event) → IsNextEvent setting (x ∷ h) e
    → is_root (plan_now setting (chronicle setting (x ∷ h))) (plan_now setting (chronicle setting (x ∷ h))).backup_root ≡ false
backup_root_low setting x h e comes = not_root setting.net (plan_now setting (chronicle setting (x ∷ h))) (sound setting x h e comes)

pub root_on : (setting : Setting) (x : Event) (h : List Event) (e : Event) → IsNextEvent setting (x ∷ h) e
    → Among (thing.Device (plan_now setting (chronicle setting (x ∷ h))).root)
    (path setting.net (plan_now setting (chronicle setting (x ∷ h))) (plan_now setting (chronicle setting (x ∷ h))).backup_root)
root_on setting x h e comes =
    let plan : Plan = plan_now setting (chronicle setting (x ∷ h)) in
    let facts : IsSound setting.net plan = sound setting x h e comes in
    root_on_path plan setting.net facts.rules plan.backup_root facts.fits.backup_root facts.backup_member (backup_root_low setting x h e comes)

module _ (setting : Setting) (hears_whole : AtNext WholePathHears setting) (x : Event) (h : List Event) (e : Event) (comes : IsNextEvent setting (x ∷ h) e) (d : ℕ)
    (st : StandsBehind setting (chronicle setting (x ∷ h)) d) where
  abbrev steps : List Step
  steps = chronicle setting (x ∷ h)

  abbrev plan : Plan
  plan = plan_now setting (chronicle setting (x ∷ h))

  abbrev b : ℕ
  b = (plan_now setting (chronicle setting (x ∷ h))).backup_root

  abbrev things : List Thing
  things = path setting.net (plan_now setting (chronicle setting (x ∷ h))) (plan_now setting (chronicle setting (x ∷ h))).backup_root

  abbrev lag : ℕ
  lag = rounds_gap setting.net + round_gap setting.net + depth setting.net * delay setting.net

  -- the path broke not long after the device heard
  pub broke : path_hit setting (chronicle setting (x ∷ h)) b ≡ true
      → path_failed_at setting (chronicle setting (x ∷ h)) ≤ heard_at (chronicle setting (x ∷ h)) d + lag
  broke broken =
      let r = hit_first things (seen_of steps) broken in
      let f : FirstFailure setting things (x ∷ h) r.0 = first_failing setting things (x ∷ h) r.0 r.1 in
      let older : List Step = chronicle setting f.earlier in
      let not_yet : is_among (failed_now older) (thing.Device plan.root) ≡ false =
      none_failed_yet things (seen_of older) f.none (thing.Device plan.root) (root_on setting x h e comes) in
      let path_yet : touches (failed_now older) things ≡ false =
      false_from_ne_true (touches (failed_now older) things) (λ is. let q = hit_first things (seen_of older) is in
      no_first (first_failure things (seen_of older)) q.0 f.none q.1) in
      let cut_yet : touches (failed_now older) (epath setting.net plan d) ≡ false =
      false_from_ne_true (touches (failed_now older) (epath setting.net plan d))
      (λ is. not_both (touches (failed_now steps) (epath setting.net plan d))
      (touches_more (failed_now older) (failed_now steps) (epath setting.net plan d) f.grows is) st.missed) in
      let since =
      heard_before setting x h e comes hears_whole d st.old st.primary things r.0 f
      (ap (λ n. is_among (failed_now older) (thing.Device (plan_numbered setting n).root)) f.era ∙ not_yet)
      (ap (λ n. touches (failed_now older) (path setting.net (plan_numbered setting n) d)) f.era
      ∙ path_by_parts setting.net plan (failed_now older) d (backup_root_low setting x h e comes) cut_yet path_yet) in
      let at : path_failed_at setting steps ≡ late setting steps r.0 = ap (λ o. late setting steps (map_or o 0 (λ q. q))) r.1 in
      subst (λ g. g ≤ heard_at steps d + lag) (sym at) since
    where
      no_first : (o : Option ℕ) (q : ℕ) → o ≡ None → o ≡ Some q → ⊥
      no_first None q one two = cc
      no_first (Some z) q one two = cc

  -- the root failed not long after the device heard, where the backup root had moved without a straggler before
  module _ (fallback_feeds : AtNext FallbackFeeds setting)
      (old_b : is_old (chronicle setting (x ∷ h)) (plan_now setting (chronicle setting (x ∷ h))).backup_root ≡ true)
      (g_le : path_failed_at setting steps ≤ heard_at steps d + lag)
      (failed : root_failed setting steps ≡ true) (put : moved steps b ≡ true) (m_le : MovedFirst setting (chronicle setting (x ∷ h))) where
    abbrev far : ℕ
    far = lag + depth setting.net * delay setting.net + first_up setting.net
        (plan_now setting (chronicle setting (x ∷ h))) + tick_gap
        setting.net + (rounds_gap setting.net + 2 * depth setting.net * delay setting.net) + 2 * tick_gap setting.net

    root_first : (r : ℕ) × (first_failure (thing.Device plan.root ∷ []) (seen_of steps) ≡ Some r)
    root_first = some_failed (thing.Device plan.root ∷ []) (seen_of steps) (thing.Device plan.root) first failed

    at_root : (z : Event) (earlier : List Event) → Tail (z ∷ earlier) (x ∷ h) → era (chronicle setting earlier) ≡ era steps
        → is_among (failed_now (chronicle setting earlier)) (thing.Device plan.root) ≡ false
        → ((y : Thing) → is_among (failed_now (chronicle setting earlier)) y ≡ true → is_among (failed_now steps) y ≡ true)
        → ((nat_eq (era steps) 1 ≡ true) → reference_of z ≤ all_started setting steps → ⊥) → moved_at steps b < reference_of z
        → heard_at steps d < reference_of z
        → reference_of z ≤ max (heard_at steps d) (moved_at steps b) + (rounds_gap setting.net + 2 * depth setting.net * delay setting.net) + 2 * tick_gap
        setting.net
    at_root z [] tail same not_yet grows late_ moved_lt heard_lt =
        absurd (false≢true (stood_then setting (x ∷ h) (steps_timed setting x h e comes) d st z [] tail same grows heard_lt).old)
    at_root z (y ∷ ys) tail same not_yet grows late_ moved_lt heard_lt =
        let older : List Step = chronicle setting (y ∷ ys) in
        let comes_ : IsNextEvent setting (y ∷ ys) z = comes_at setting z (y ∷ ys) (x ∷ h) tail comes.fair (clean setting x h e comes) comes.before in
        let was_b = moved_then setting z (y ∷ ys) (x ∷ h) b tail (steps_timed setting x h e comes) put moved_lt in
        let old_b_ : is_old older b ≡ true = ap (λ o. same_number o (era older)) was_b.1 ∙ ap (same_number (epoch_in steps b)) same ∙ old_b in
        let root_ : root_failed setting older ≡ false = ap (λ n. is_among (failed_now older) (thing.Device (plan_numbered setting n).root)) same ∙ not_yet in
        let still_ : acts_in older (plan_now setting older).backup_root ≡ false =
        false_from_ne_true (acts_in older (plan_now setting older).backup_root)
        (λ acts. not_both (root_failed setting older)
        (implied (backup_root_acts setting older) (root_failed setting older) (now setting y ys z comes_).core.causes.takeover acts) root_) in
        let early : standing.Early setting y ys z comes_ → ⊥ =
        λ both. late_ (subst (λ n. nat_eq n 1 ≡ true) same both.0)
        (subst (λ q. reference_of z ≤ q + tick_gap setting.net) (begin_same setting y ys (x ∷ h) (rest_of tail)) both.1) in
        let fed =
        fallback_feeds (y ∷ ys) z comes_ d (stood_then setting (x ∷ h) (steps_timed setting x h e comes) d st z (y ∷ ys) tail same grows heard_lt)
        (lives setting y ys z comes_ root_ early) (leads setting y ys z comes_ root_)
        (ap (λ n. is_old older (plan_numbered setting n).backup_root) same ∙ old_b_)
        (backup_where older (plan_now setting older).backup_root (ap (λ n. moved older (plan_numbered setting n).backup_root) same ∙ was_b.0) still_) in
        let moved_same : moved_at older (plan_now setting older).backup_root ≡ moved_at older b =
        ap (λ n. moved_at older (plan_numbered setting n).backup_root) same in
        let heard_up : heard_at older d ≤ heard_at steps d =
        heard_rises setting (y ∷ ys) (x ∷ h) d (rest_of tail) (steps_timed setting y ys z comes_) (steps_timed setting x h e comes) in
        let moved_up : moved_at older b ≤ moved_at steps b =
        moved_rises setting (y ∷ ys) (x ∷ h) b (rest_of tail) (steps_timed setting y ys z comes_) (steps_timed setting x h e comes) in
        omega (arith, fed, moved_same, heard_up, moved_up)

    first_f : FirstFailure setting (thing.Device plan.root ∷ []) (x ∷ h) root_first.0
    first_f = first_failing setting (thing.Device plan.root ∷ []) (x ∷ h) root_first.0 root_first.1

    fed_by : ((nat_eq (era steps) 1 ≡ true) → root_first.0 ≤ all_started setting steps → ⊥) → (c1 c2 : Bool) → nat_lt (moved_at steps b) root_first.0 ≡ c1
        → nat_lt (heard_at steps d) root_first.0 ≡ c2
        → root_first.0 ≤ max (heard_at steps d) (moved_at steps b) + (rounds_gap setting.net + 2 * depth setting.net * delay setting.net) + 2 * tick_gap
        setting.net
    fed_by late_ true true m_lt h_lt =
        let f = first_f in
        let m : moved_at steps b < root_first.0 = ltb-true (moved_at steps b) root_first.0 m_lt in
        let l : heard_at steps d < root_first.0 = ltb-true (heard_at steps d) root_first.0 h_lt in
        subst (λ q. q ≤ max (heard_at steps d) (moved_at steps b) + (rounds_gap setting.net + 2 * depth setting.net * delay setting.net) + 2 * tick_gap
        setting.net) f.at
        (at_root f.event f.earlier f.tail f.era
        (none_failed_yet (thing.Device plan.root ∷ []) (seen_of (chronicle setting f.earlier)) f.none (thing.Device plan.root) first) f.grows
        (λ one le. late_ one (subst (λ q. q ≤ all_started setting steps) f.at le)) (subst (λ q. moved_at steps b < q) (sym f.at) m)
        (subst (λ q. heard_at steps d < q) (sym f.at) l))
    fed_by late_ false c2 m_lt h_lt = let le : root_first.0 ≤ moved_at steps b = ltb-false (moved_at steps b) root_first.0 m_lt in omega (arith, le)
    fed_by late_ true false m_lt h_lt = let le : root_first.0 ≤ heard_at steps d = ltb-false (heard_at steps d) root_first.0 h_lt in omega (arith, le)

    by_start : (c1 c2 : Bool) → nat_eq (era steps) 1 ≡ c1 → nat_le root_first.0 (all_started setting steps) ≡ c2 → root_first.0 ≤ heard_at steps d + far
    by_start true true one le_ =
        let le : root_first.0 ≤ all_started setting steps = leb-true root_first.0 (all_started setting steps) le_ in
        let since : all_started setting steps ≤ path_failed_at setting steps =
        late_from_start (nat_eq (era steps) 1) (first_at things (seen_of steps)) (all_started setting steps) one in
        omega (arith, le, since, g_le)
    by_start true false one le_ =
        let lt : all_started setting steps < root_first.0 = leb-false root_first.0 (all_started setting steps) le_ in
        let fed = fed_by (λ o le. omega (arith, le, lt)) (nat_lt (moved_at steps b) root_first.0) (nat_lt (heard_at steps d) root_first.0) refl refl in
        omega (arith, fed, m_le, g_le)
    by_start false c2 one le_ =
        let fed = fed_by (λ o le. not_both (nat_eq (era steps) 1) o one) (nat_lt (moved_at steps b) root_first.0)
        (nat_lt (heard_at steps d) root_first.0) refl refl in
        omega (arith, fed, m_le, g_le)

    pub root_soon : root_failed_at setting (chronicle setting (x ∷ h)) ≤ heard_at (chronicle setting (x ∷ h)) d + far
    root_soon =
        let le = by_start (nat_eq (era steps) 1) (nat_le root_first.0 (all_started setting steps)) refl refl in
        let at : root_failed_at setting steps ≡ late setting steps root_first.0 = ap (λ o. late setting steps (map_or o 0 (λ q. q))) root_first.1 in
        let split : late setting steps root_first.0 ≤ max root_first.0 (path_failed_at setting steps) =
        late_split (nat_eq (era steps) 1) root_first.0 (first_at things (seen_of steps)) (all_started setting steps) in
        omega (arith, le, at, split, g_le)
