-- After its path broke the backup root moves at most H * D, its first wait and a tick later, in an era without a mend: it hears no more on its primary. By
-- induction on the history, as in Moved.
use Rattle.std.specs.Prelude.{◌≡◌, ℕ, ◌+◌, ◌*◌, ◌≤◌, Bool, true, false, ◌&&◌, not, List, [], ◌∷◌, max, nat_eq, nat_lt, length, Option, Some, None, is_some, refl, if◌then◌else◌}
use Rattle.std.specs.List.{list_any, cons_option}
use Rattle.std.specs.Option.{option_or}
use Rattle.std.proofs.Common.{arith, ◌∙◌, ap, sym, subst}
use Rattle.std.proofs.lemmas.Bool.{and_from, or_left, or_parts, lt-ltb, both_ways}
use Rattle.sd_num.specs.Lists.{map_or, same_number, leading}
use Rattle.sd_plan.specs.declared.topo.Thing.{Thing}
use Rattle.sd_plan.specs.domain.Things.{same_thing}
use Rattle.sd_plan.specs.declared.Plan.{Plan}
use Rattle.sd_plan.specs.Plans.{is_member, is_root}
use Rattle.sd_plan.specs.Walks.{path}
use Rattle.sd_sched.specs.declared.Event.{Event}
use Rattle.sd_sched.specs.Events.{reference_of}
use Rattle.sd_history.specs.Things.{failure_of, mended}
use Rattle.sd_history.specs.World.{Setting, Seen, fails, plan_numbered}
use Rattle.sd_history.specs.Steps.{Step, seen_of, acts_in, epoch_in, has_settled}
use Rattle.sd_history.specs.Chronicle.{chronicle, next_step}
use Rattle.sd_history.specs.Premises.{failures_since_closing}
use Rattle.sd_history.proofs.Given.{some_is}
use Rattle.sd_history.proofs.Among.{any_passing}
use Rattle.sd_history.proofs.Shared.{epoch_kept}
use Rattle.sd_safety.specs.invariant.Bounds.{depth, delay, tick_gap, first_up}
use Rattle.sd_safety.specs.invariant.Eras.{era, plan_now, failed_now, is_among, touches, first_failure, beginning, all_started, late, is_old, moved, on_primary, live_past, moved_at, belongs}
use Rattle.sd_safety.specs.invariant.Invariant.{Invariant, AtEach}
use Rattle.sd_safety.specs.invariant.Guarded.{AreGuarded, IsSteady}
use Rattle.sd_safety.specs.invariant.Coming.{IsNextEvent, AtNext}
use Rattle.sd_safety.proofs.invariant.Prefix.{Passing, some_passing, clean_before}
use Rattle.sd_safety.proofs.invariant.Sides.{implied}
use Rattle.sd_safety.specs.timers.Times.{AreTimed}
use Rattle.sd_safety.proofs.timers.Histories.{timely, timed}
use Rattle.sd_safety.specs.behind.Pieces.{SealsSoon}
use Rattle.sd_safety.specs.behind.Feeding.{mended_now, PathHearsNoMore}
use Rattle.sd_safety.proofs.behind.EraSums.{late_since}
use Rattle.sd_safety.proofs.behind.Failing.{failed_grows, some_failed}
use Rattle.sd_safety.proofs.invariant.Facts.{IsSound, sound_now}
use Rattle.sd_safety.proofs.behind.Moved.{begins, unmoved, not_root, silence_now}
use Rattle.sd_safety.proofs.behind.EventBack.{WasMoved, kept, goes, step_back}

-- First failures

among_new : (y : Thing) (o : Option Thing) (rest : List Thing) → map_or o false (same_thing y) ≡ true → is_among (cons_option o rest) y ≡ true
among_new y None rest is = cc
among_new y (Some z) rest is = or_left (same_thing y z) (is_among rest y) is

pub touches_more : (old new things : List Thing) → ((y : Thing) → is_among old y ≡ true → is_among new y ≡ true) → touches old things ≡ true
    → touches new things ≡ true
touches_more old new things grows is =
    let one : Passing (is_among old) things = some_passing (is_among old) things is in
    any_passing (is_among new) one.one things one.there (grows one.one one.passed)

-- where one of the things failed first, they are hit
pub first_hits : (things : List Thing) (seen : List Seen) (r : ℕ) → first_failure things seen ≡ Some r → touches (failures_since_closing seen) things ≡ true
first_hits things [] r is = cc
first_hits things (s ∷ seen) r is = by_closed s.closed refl (λ q. first_hits things seen q) is
  where
    by_any : s.closed ≡ false → (any : Bool) → list_any (λ y. fails y s.event) things ≡ any → (if any then Some (reference_of s.event) else None) ≡ Some r
        → touches (failures_since_closing (s ∷ seen)) things ≡ true
    by_any open_ false any same = cc
    by_any open_ true any same =
        let one : Passing (λ y. fails y s.event) things = some_passing (λ y. fails y s.event) things any in
        rw (open_) (any_passing (is_among (cons_option (failure_of s.event) (failures_since_closing seen))) one.one things one.there
        (among_new one.one (failure_of s.event) (failures_since_closing seen) one.passed))

    by_earlier : s.closed ≡ false → ((q : ℕ) → first_failure things seen ≡ Some q → touches (failures_since_closing seen) things ≡ true) → (o : Option ℕ)
        → first_failure things seen ≡ o
        → option_or o (if list_any (λ y. fails y s.event) things then Some (reference_of s.event) else None) ≡ Some r
        → touches (failures_since_closing (s ∷ seen)) things ≡ true
    by_earlier open_ rest None was same = by_any open_ (list_any (λ y. fails y s.event) things) refl same
    by_earlier open_ rest (Some q) was same =
        touches_more (failures_since_closing seen) (failures_since_closing (s ∷ seen)) things (λ y. failed_grows s seen y open_) (rest q was)

    by_closed : (c : Bool) → s.closed ≡ c → ((q : ℕ) → first_failure things seen ≡ Some q → touches (failures_since_closing seen) things ≡ true)
        → (if c then None else option_or (first_failure things seen) (if list_any (λ y. fails y s.event) things then Some (reference_of s.event) else None))
        ≡ Some r
        → touches (failures_since_closing (s ∷ seen)) things ≡ true
    by_closed true closed rest same = cc
    by_closed false closed rest same = by_earlier closed rest (first_failure things seen) refl same

-- and where they are hit, one failed first
pub hit_first : (things : List Thing) (seen : List Seen) → touches (failures_since_closing seen) things ≡ true → (r : ℕ) × (first_failure things seen ≡ Some r)
hit_first things seen is =
    let one : Passing (is_among (failures_since_closing seen)) things = some_passing (is_among (failures_since_closing seen)) things is in
    some_failed things seen one.one one.there one.passed

abbrev pub first_at : List Thing → List Seen → ℕ
first_at things seen = map_or (first_failure things seen) 0 (λ reference. reference)

-- the reference of the first failure stays, and where there was none it is that of the event
first_stays : (things : List Thing) (s : Seen) (seen : List Seen) → s.closed ≡ false → first_at things seen ≤ first_at things (s ∷ seen)
first_stays things s seen open_ =
    subst (λ c. first_at things seen ≤ map_or
    (if c then None else option_or (first_failure things seen) (if list_any (λ y. fails y s.event) things then Some (reference_of s.event) else None)) 0
    (λ reference. reference)) (sym open_)
    (go (first_failure things seen) (if list_any (λ y. fails y s.event) things then Some (reference_of s.event) else None))
  where
    go : (o p : Option ℕ) → map_or o 0 (λ reference. reference) ≤ map_or (option_or o p) 0 (λ reference. reference)
    go None p = omega arith
    go (Some r) p = omega arith

pub first_is_now : (things : List Thing) (s : Seen) (seen : List Seen) (r : ℕ) → s.closed ≡ false → first_failure things seen ≡ None
    → first_failure things (s ∷ seen) ≡ Some r → reference_of s.event ≡ r
first_is_now things s seen r open_ none is =
    go (list_any (λ y. fails y s.event) things)
    (subst (λ o. option_or o (if list_any (λ y. fails y s.event) things then Some (reference_of s.event) else None) ≡ Some r) none
    (subst (λ c. (if c then None else option_or (first_failure things seen)
    (if list_any (λ y. fails y s.event) things then Some (reference_of s.event) else None)) ≡ Some r) open_ is))
  where
    go : (any : Bool) → (if any then Some (reference_of s.event) else None) ≡ Some r → reference_of s.event ≡ r
    go true same = some_is same
    go false same = cc

-- Late references

begins_before : (setting : Setting) (e : Event) (h : List Event) → beginning (seen_of (chronicle setting h)) ≤ beginning (seen_of (chronicle setting (e ∷ h)))
begins_before setting e [] = omega arith
begins_before setting e (x ∷ h) = omega arith

late_grows : (a b : Bool) (r q c d : ℕ) → a ≡ b → r ≤ q → c ≤ d → (if a then max r c else r) ≤ (if b then max q d else q)
late_grows true true r q c d same le first = omega (arith, le, first)
late_grows false false r q c d same le first = le
late_grows true false r q c d same le first = cc
late_grows false true r q c d same le first = cc

pub late_stays : (setting : Setting) (e : Event) (h : List Event) (things : List Thing) → (next_step setting (chronicle setting h) e).seen.closed ≡ false
    → late setting (chronicle setting h) (first_at things (seen_of (chronicle setting h))) ≤ late setting (chronicle setting (e ∷ h))
    (first_at things (seen_of (chronicle setting (e ∷ h))))
late_stays setting e h things open_ =
    let steps : List Step = chronicle setting h in
    let s : Seen = (next_step setting steps e).seen in
    let first_le : first_at things (seen_of steps) ≤ first_at things (s ∷ seen_of steps) = first_stays things s (seen_of steps) open_ in
    let begin_le : beginning (seen_of steps) ≤ beginning (s ∷ seen_of steps) = begins_before setting e h in
    late_grows (nat_eq (era steps) 1) (nat_eq (era (chronicle setting (e ∷ h))) 1) (first_at things (seen_of steps)) (first_at things (s ∷ seen_of steps))
    (all_started setting steps) (all_started setting (chronicle setting (e ∷ h)))
    (ap (λ n. nat_eq n 1) (sym (epoch_kept s (seen_of steps) open_))) first_le (omega (arith, begin_le))

-- nothing was mended before where nothing was mended
mended_before : (s : Seen) (seen : List Seen) → s.closed ≡ false → list_any (λ x. is_some (mended x.event)) (leading (λ x. not x.closed) (s ∷ seen)) ≡ false
    → list_any (λ x. is_some (mended x.event)) (leading (λ x. not x.closed) seen) ≡ false
mended_before s seen open_ none =
    (or_parts (is_some (mended s.event)) _
    (subst (λ c. list_any (λ (x : Seen). is_some (mended x.event)) (if not c then s ∷ leading (λ (x : Seen). not x.closed) seen else []) ≡ false) open_
    none)).1

-- The move

module _ (setting : Setting) (fair : AreGuarded setting) (seals : AtNext SealsSoon setting) (no_more : AtNext PathHearsNoMore setting) where
  abbrev pub breaks_at : List Event → Plan → ℕ
  breaks_at history pl =
      late setting (chronicle setting history) (first_at (path setting.net pl pl.backup_root) (seen_of (chronicle setting history))) + depth setting.net * delay
      setting.net
      + first_up setting.net pl + tick_gap setting.net

  abbrev pub Says : List Event → Plan → Type 0
  Says history pl =
      is_old (chronicle setting history) pl.backup_root ≡ true → moved (chronicle setting history) pl.backup_root ≡ true
      → mended_now (chronicle setting history) ≡ false
      → moved_at (chronicle setting history) pl.backup_root ≤ breaks_at history pl

  module _ (e : Event) (h : List Event) (clean : IsSteady setting (e ∷ h)) (each : AtEach (Invariant setting) (chronicle setting (e ∷ h)))
      (earlier : Says h (plan_now setting (chronicle setting h))) where
    abbrev plan : Plan
    plan = plan_now setting (chronicle setting (e ∷ h))

    abbrev b : ℕ
    b = (plan_now setting (chronicle setting (e ∷ h))).backup_root

    abbrev things : List Thing
    things = path setting.net (plan_now setting (chronicle setting (e ∷ h))) (plan_now setting (chronicle setting (e ∷ h))).backup_root

    abbrev s : Seen
    s = (next_step setting (chronicle setting h) e).seen

    facts : IsSound setting.net (plan_now setting (chronicle setting (e ∷ h)))
    facts = sound_now setting (e ∷ h) fair clean.is

    all_timed : AreTimed setting (chronicle setting (e ∷ h))
    all_timed = timed setting (e ∷ h) (timely setting (e ∷ h) fair.network clean.is clean.premises)

    at_closing : s.closed ≡ true → moved (chronicle setting (e ∷ h)) b ≡ true → ⊥
    unfolding facts
    at_closing closed put =
        let steps : List Step = chronicle setting (e ∷ h) in
        let begun = each.1.core.closed.members b in
        let primary = begins (has_settled steps (era steps) b) (is_root plan b) (acts_in steps b) (on_primary steps b) _
        (implied (s.closed && belongs setting.net plan b) _ begun
        (and_from s.closed (belongs setting.net plan b) closed
        (and_from (nat_lt b (length setting.net.devices)) (is_member plan b)
        (lt-ltb b (length setting.net.devices) facts.fits.backup_root) facts.backup_member))) (not_root setting.net plan facts) in
        both_ways (moved steps b) (unmoved (is_some (live_past steps b)) (moved steps b) (acts_in steps b) primary) put

    -- where it stood on its primary just before, and its path was broken
    abbrev Goes : Plan → Type 0
    Goes pl =
        is_old (chronicle setting h) pl.backup_root ≡ true → on_primary (chronicle setting h) pl.backup_root ≡ true → mended_now (chronicle setting h) ≡ false
        → touches (failed_now (chronicle setting h)) (path setting.net pl pl.backup_root) ≡ true → reference_of e ≤ breaks_at h pl

    goes_now : Goes (plan_now setting (chronicle setting h))
    goes_now old primary none broken =
        let comes : IsNextEvent setting h e = record { fair = fair; clean = clean; before = each.0 } in
        let short = silence_now setting h e comes (seals h e comes) old primary in
        let last = no_more h e comes none broken old primary in
        omega (arith, short, last)

    module _ (open_ : s.closed ≡ false) (old : is_old (chronicle setting (e ∷ h)) b ≡ true) (put : moved (chronicle setting (e ∷ h)) b ≡ true)
        (none : mended_now (chronicle setting (e ∷ h)) ≡ false) where
      era_kept : era (chronicle setting (e ∷ h)) ≡ era (chronicle setting h)
      era_kept = epoch_kept s (seen_of (chronicle setting h)) open_

      none_then : mended_now (chronicle setting h) ≡ false
      none_then = mended_before s (seen_of (chronicle setting h)) open_ none

      old_then : epoch_in (chronicle setting h) b ≡ epoch_in (chronicle setting (e ∷ h)) b → is_old (chronicle setting h) b ≡ true
      old_then same = ap (λ o. same_number o (era (chronicle setting h))) same ∙ ap (same_number (epoch_in (chronicle setting (e ∷ h)) b)) (sym era_kept) ∙ old

      grows : breaks_at h plan ≤ breaks_at (e ∷ h) plan
      grows = let le = late_stays setting e h things open_ in omega (arith, le)

      broken_now : touches (failed_now (chronicle setting (e ∷ h))) things ≡ true
      broken_now =
          implied (is_old (chronicle setting (e ∷ h)) b && moved (chronicle setting (e ∷ h)) b) _ each.1.core.causes.move
          (and_from (is_old (chronicle setting (e ∷ h)) b) (moved (chronicle setting (e ∷ h)) b) old put)

      by_first : on_primary (chronicle setting h) b ≡ true → is_old (chronicle setting h) b ≡ true → (o : Option ℕ)
          → first_failure things (seen_of (chronicle setting h)) ≡ o → reference_of e ≤ breaks_at (e ∷ h) plan
      by_first primary old_ None was =
          let r = hit_first things (seen_of (chronicle setting (e ∷ h))) broken_now in
          let now : reference_of e ≡ r.0 = first_is_now things s (seen_of (chronicle setting h)) r.0 open_ was r.1 in
          let at : first_at things (seen_of (chronicle setting (e ∷ h))) ≡ r.0 = ap (λ o. map_or o 0 (λ reference. reference)) r.1 in
          let since : first_at things (seen_of (chronicle setting (e ∷ h))) ≤ late setting (chronicle setting (e ∷ h))
          (first_at things (seen_of (chronicle setting (e ∷ h)))) =
          late_since (nat_eq (era (chronicle setting (e ∷ h))) 1) (first_at things (seen_of (chronicle setting (e ∷ h))))
          (all_started setting (chronicle setting (e ∷ h))) in
          omega (arith, now, at, since)
      by_first primary old_ (Some r) was =
          let go : Goes plan = subst (λ n. Goes (plan_numbered setting n)) (sym era_kept) goes_now in
          let le = go old_ primary none_then (first_hits things (seen_of (chronicle setting h)) r was) in
          omega (arith, le, grows)

      by_step : WasMoved setting e h b → moved_at (chronicle setting (e ∷ h)) b ≤ breaks_at (e ∷ h) plan
      by_step (kept m same at) =
          let rest : Says h plan = subst (λ n. Says h (plan_numbered setting n)) (sym era_kept) earlier in
          let le = rest (old_then same) m none_then in
          omega (arith, at, le, grows)
      by_step (goes primary same at) =
          let le = by_first primary (old_then same) (first_failure things (seen_of (chronicle setting h))) refl in
          omega (arith, at, le)

    next_too : Says (e ∷ h) (plan_now setting (chronicle setting (e ∷ h)))
    unfolding all_timed
    next_too old put none = by_closed s.closed refl
      where
        by_closed : (c : Bool) → (next_step setting (chronicle setting h) e).seen.closed ≡ c
            → moved_at (chronicle setting (e ∷ h)) (plan_now setting (chronicle setting (e ∷ h))).backup_root ≤ breaks_at (e ∷ h)
            (plan_now setting (chronicle setting (e ∷ h)))
        by_closed true closed = absurd (at_closing closed put)
        by_closed false open_ = by_step open_ old put none (step_back setting e h b all_timed put)

  pub moved_after_break : (history : List Event) → IsSteady setting history → AtEach (Invariant setting) (chronicle setting history)
      → Says history (plan_now setting (chronicle setting history))
  moved_after_break [] clean each old put none = cc
  moved_after_break (e ∷ h) clean each old put none = next_too e h clean each (moved_after_break h (clean_before setting e h clean) each.0) old put none
