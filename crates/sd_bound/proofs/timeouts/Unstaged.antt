-- Where no window is open: no commit came and nothing joined, none was open before in the era, and what did not fail is not failed; and where nothing fails
-- meanwhile, the same things have failed. A history without a stage is such a one, and stays in the first era.
use Rattle.std.specs.Prelude.{◌≡◌, ℕ, ◌≤◌, Bool, true, false, ◌&&◌, ◌||◌, not, List, [], ◌∷◌, count_by, Option, Some, None, is_some, option_map, refl, if◌then◌else◌}
use Rattle.std.specs.List.{list_any}
use Rattle.std.proofs.Common.{arith, ap, sym, ◌∙◌, subst}
use Rattle.std.proofs.lemmas.Bool.{or_parts, or_from}
use Rattle.sd_num.specs.Lists.{map_or, same_number}
use Rattle.sd_plan.specs.declared.topo.Thing.{Thing}
use Rattle.sd_plan.specs.domain.Things.{same_thing}
use Rattle.sd_sched.specs.declared.Event.{Event}
use Rattle.sd_sched.specs.Events.{given, joined, is_stage, is_commit}
use Rattle.sd_history.specs.Things.{failure_of, mended}
use Rattle.sd_history.specs.World.{Setting, Seen, is_thing, has_failed, window, has_commit, joined_in_window}
use Rattle.sd_history.specs.Steps.{Step, seen_of}
use Rattle.sd_history.specs.Chronicle.{chronicle, next_step}
use Rattle.sd_history.specs.Admitted.{IsAdmitted}
use Rattle.sd_safety.specs.invariant.Eras.{era, is_among, failed_now}
use Rattle.sd_safety.proofs.invariant.Orders.{orderly}
use Rattle.sd_safety.specs.messages.Moments.{Tail, whole, behind, Moment, IsIn}
use Rattle.sd_safety.proofs.moves.Starts.{IsUnstaged}
use Rattle.sd_safety.proofs.silences.Phases.{era_grows, open_at}
use Rattle.sd_safety.proofs.silences.FirstEra.{one_by}

pub unstaged_before : (s : Step) (steps : List Step) → IsUnstaged (seen_of (s ∷ steps)) → IsUnstaged (seen_of steps)
unstaged_before s steps none = (or_parts (is_stage s.seen.event) (list_any (λ x. is_stage x.event) (seen_of steps)) none).1

pub unstaged_tail : (older steps : List Step) → Tail older steps → IsUnstaged (seen_of steps) → IsUnstaged (seen_of older)
unstaged_tail older _ whole none = none
unstaged_tail older _ (behind {x = s} {xs = steps} t) none = unstaged_tail older steps t (unstaged_before s steps none)

-- without a window

pub uncommitted : (seen : List Seen) → window seen ≡ None → has_commit seen ≡ false
uncommitted seen none = ap (λ (w : Option (List Seen)). map_or w false (list_any (λ x. is_commit x.event))) none

pub unjoined : (seen : List Seen) (d : ℕ) → window seen ≡ None → joined_in_window seen d ≡ false
unjoined seen d none = ap (λ (w : Option (List Seen)). map_or w false (list_any (λ s. same_number (joined s.event) d))) none

-- where a step closes none, none was open before it
shut_before : (s : Step) (steps : List Step) → s.seen.closed ≡ false → window (seen_of (s ∷ steps)) ≡ None → window (seen_of steps) ≡ None
shut_before s steps open_ none = by s.seen.closed (is_stage s.seen.event) (window (seen_of steps)) open_ none
  where
    by : (c g : Bool) (w : Option (List Seen)) → c ≡ false → (if c then None else if g then Some [] else option_map (λ v. s.seen ∷ v) w) ≡ None → w ≡ None
    by true g w plain h = cc
    by false true w plain h = cc
    by false false None plain h = refl
    by false false (Some v) plain h = cc

-- so none was open in the era
pub shut_tail : (older steps : List Step) → Tail older steps → era steps ≤ era older → window (seen_of steps) ≡ None → window (seen_of older) ≡ None
shut_tail older _ whole le none = none
shut_tail older _ (behind {x = s} {xs = steps} t) le none =
    let grows = era_grows older steps t in
    let next = era_grows steps (s ∷ steps) (behind whole) in
    shut_tail older steps t (omega (arith, le, next)) (shut_before s steps (open_at s steps (omega (arith, le, grows))) none)

-- what failed in the era

pub era_one : (older steps : List Step) → Tail older steps → era steps ≡ 1 → era older ≡ 1
era_one older steps t is = let le = era_grows older steps t in one_by (count_by (λ s. s.closed) (seen_of older)) (omega (arith, le, is))

-- a step that closes no window and fails nothing leaves what failed
pub failed_same : (s : Step) (steps : List Step) → s.seen.closed ≡ false → failure_of s.seen.event ≡ None → failed_now (s ∷ steps) ≡ failed_now steps
failed_same s steps open_ none = rw (open_, none) refl

-- and a step that closes one leaves none
pub none_closed : (s : Step) (steps : List Step) → s.seen.closed ≡ true → failed_now (s ∷ steps) ≡ []
none_closed s steps closed = rw (closed) refl

-- where nothing fails since, the same things have failed
pub failed_since : (older steps : List Step) → Tail older steps → era steps ≤ era older
    → ((r : Moment) → IsIn r steps → Tail older r.earlier → failure_of r.step.seen.event ≡ None) → failed_now steps ≡ failed_now older
failed_since older _ whole le none = refl
failed_since older _ (behind {x = s} {xs = steps} t) le none =
    let grows = era_grows older steps t in
    let next = era_grows steps (s ∷ steps) (behind whole) in
    failed_same s steps (open_at s steps (omega (arith, le, grows))) (none (record { step = s; earlier = steps }) whole t)
    ∙ failed_since older steps t (omega (arith, le, next)) (λ r here since. none r (behind here) since)

-- what is not failed did not fail in the era, since nothing is mended outside a window

sound_by : (b h : Bool) → map_or (if b then Some true else None) h (λ y. y) ≡ false → (b ≡ false) × (h ≡ false)
sound_by true h is = cc
sound_by false h is = (refl, is)

among_after : (s : Step) (steps : List Step) (x : Thing) → s.seen.closed ≡ false → mended s.seen.event ≡ None → has_failed (seen_of (s ∷ steps)) x ≡ false
    → (has_failed (seen_of steps) x ≡ false → is_among (failed_now steps) x ≡ false) → is_among (failed_now (s ∷ steps)) x ≡ false
among_after s steps x open_ none sound rest = by (failure_of s.seen.event) refl (mended s.seen.event) none sound
  where
    by : (f : Option Thing) → failure_of s.seen.event ≡ f → (m : Option Thing) → m ≡ None
        → map_or (if is_thing f x then Some true else if is_thing m x then Some false else None) (has_failed (seen_of steps) x) (λ y. y) ≡ false
        → is_among (failed_now (s ∷ steps)) x ≡ false
    by f same (Some y) none' h = cc
    by None same None none' h = rw (open_, same) (rest h)
    by (Some y) same None none' h =
        let parts = sound_by (same_thing x y) (has_failed (seen_of steps) x) h in
        rw (open_, same) (or_from (same_thing x y) (is_among (failed_now steps) x) parts.0 (rest parts.1))

none_by : (g j k : Bool) (m : Option Thing) (w : Option (List Seen)) (commit : Bool)
    → ((g || j || is_some m || k) && (not (is_some w) || commit)) ≡ false → w ≡ None → m ≡ None
none_by g j k None w commit order shut = refl
none_by g j k (Some y) (Some v) commit order shut = cc
none_by true j k (Some y) None commit order shut = cc
none_by false true k (Some y) None commit order shut = cc
none_by false false k (Some y) None commit order shut = cc

pub none_among : (setting : Setting) (history : List Event) → IsAdmitted setting history → window (seen_of (chronicle setting history)) ≡ None → (x : Thing)
    → has_failed (seen_of (chronicle setting history)) x ≡ false → is_among (failed_now (chronicle setting history)) x ≡ false
none_among setting [] is shut x sound = refl
none_among setting (e ∷ history) is shut x sound =
    go (next_step setting (chronicle setting history) e).seen.closed refl (λ before sound_. none_among setting history is.0 before x sound_)
  where
    go : (c : Bool) → (next_step setting (chronicle setting history) e).seen.closed ≡ c
        → (window (seen_of (chronicle setting history)) ≡ None → has_failed (seen_of (chronicle setting history)) x ≡ false
        → is_among (failed_now (chronicle setting history)) x ≡ false)
        → is_among (failed_now (chronicle setting (e ∷ history))) x ≡ false
    go true closed rest =
        subst (λ l. is_among l x ≡ false) (sym (none_closed (next_step setting (chronicle setting history) e) (chronicle setting history) closed)) refl
    go false open_ rest =
        let before : window (seen_of (chronicle setting history)) ≡ None =
        shut_before (next_step setting (chronicle setting history) e) (chronicle setting history) open_ shut in
        among_after (next_step setting (chronicle setting history) e) (chronicle setting history) x open_
        (none_by (is_some (given e)) (is_some (joined e)) (is_commit e) (mended e) (window (seen_of (chronicle setting history)))
        (has_commit (seen_of (chronicle setting history))) (orderly setting e history is).prepares before)
        sound (rest before)
