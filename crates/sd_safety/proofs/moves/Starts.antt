-- A start keeps the core: it comes before every stage, so in the first era and with no window; of a member that neither started nor failed, so while
-- members may start; and then nobody has moved. From the premises on renewal and on ticks, and what is refused.
use Rattle.std.specs.Prelude.{◌≡◌, Bool, true, false, ◌&&◌, ◌||◌, not, List, [], ◌∷◌, filter_map, Option, Some, None, is_some, option_map, refl, if◌then◌else◌}
use Rattle.std.specs.List.{list_any}
use Rattle.std.proofs.Common.{◌∙◌, ap}
use Rattle.std.proofs.lemmas.Bool.{and_left, or_parts, or_from, both_ways}
use Rattle.sd_num.specs.Lists.{map_or, leading}
use Rattle.sd_plan.specs.declared.topo.Thing.{Thing}
use Rattle.sd_plan.specs.domain.Things.{same_thing}
use Rattle.sd_sched.specs.declared.Event.{Event}
use Rattle.sd_sched.specs.Events.{given, joined, is_stage, is_commit}
use Rattle.sd_history.specs.Things.{failure_of, mended}
use Rattle.sd_history.specs.World.{Setting, Seen, fails, is_thing, has_failed, window, has_commit}
use Rattle.sd_history.specs.Steps.{Step, seen_of, act_by, first_step}
use Rattle.sd_history.specs.Chronicle.{told_by, chronicle, next_step}
use Rattle.sd_history.specs.Admitted.{IsAdmitted}
use Rattle.sd_history.proofs.Shared.{epoch_kept}
use Rattle.sd_safety.specs.invariant.Eras.{era}
use Rattle.sd_safety.proofs.invariant.Orders.{orderly, staged_before}

-- Histories without a stage

abbrev pub IsUnstaged : List Seen → Type 0
IsUnstaged seen = list_any (λ x. is_stage x.event) seen ≡ false

-- there is no window
pub no_window : (seen : List Seen) → IsUnstaged seen → window seen ≡ None
no_window seen none = go (window seen) refl (staged_before seen)
  where
    go : (w : Option (List Seen)) → window seen ≡ w → (is_some w ≡ true → list_any (λ x. is_stage x.event) seen ≡ true) → w ≡ None
    go None is came = refl
    go (Some v) is came = let yes : list_any (λ x. is_stage x.event) seen ≡ true = came refl in
        absurd (both_ways (list_any (λ x. is_stage x.event) seen) none yes)

-- nothing has closed
not_closed : (setting : Setting) (e : Event) (history : List Event) → is_stage e ≡ false → IsUnstaged (seen_of (chronicle setting history))
    → (next_step setting (chronicle setting history) e).seen.closed ≡ false
not_closed setting e history plain none =
    and_left (has_commit (begun.seen ∷ seen_of (chronicle setting history))) _
    (ap (λ g. map_or (if g then Some [] else option_map (λ v. begun.seen ∷ v) (window (seen_of (chronicle setting history)))) false
    (list_any (λ x. is_commit x.event))) plain
    ∙ ap (λ (w : Option (List Seen)). map_or (option_map (λ v. begun.seen ∷ v) w) false (list_any (λ x. is_commit x.event)))
    (no_window (seen_of (chronicle setting history)) none))
  where
    begun : Step
    begun = first_step setting (chronicle setting history) e (told_by (chronicle setting history) (act_by setting (chronicle setting history) e))

pub first_era : (setting : Setting) (history : List Event) → IsUnstaged (seen_of (chronicle setting history)) → era (chronicle setting history) ≡ 1
first_era setting [] none = refl
first_era setting (e ∷ history) none =
    let parts = or_parts (is_stage e) (list_any (λ x. is_stage x.event) (seen_of (chronicle setting history))) none in
    epoch_kept (next_step setting (chronicle setting history) e).seen (seen_of (chronicle setting history)) (not_closed setting e history parts.0 parts.1)
    ∙ first_era setting history parts.1

-- nothing was mended
pub none_mended : (setting : Setting) (history : List Event) → IsAdmitted setting history → IsUnstaged (seen_of (chronicle setting history))
    → list_any (λ s. is_some (mended s.event)) (seen_of (chronicle setting history)) ≡ false
none_mended setting [] is none = refl
none_mended setting (e ∷ history) is none =
    let parts = or_parts (is_stage e) (list_any (λ x. is_stage x.event) (seen_of (chronicle setting history))) none in
    by (is_some (given e)) (is_some (joined e)) (is_some (mended e)) (is_commit e) (window (seen_of (chronicle setting history)))
    (has_commit (seen_of (chronicle setting history))) (orderly setting e history is).prepares (no_window (seen_of (chronicle setting history)) parts.1)
    (none_mended setting history is.0 parts.1)
  where
    by : (g j m k : Bool) (w : Option (List Seen)) (commit : Bool) → ((g || j || m || k) && (not (is_some w) || commit)) ≡ false → w ≡ None
        → list_any (λ s. is_some (mended s.event)) (seen_of (chronicle setting history)) ≡ false
        → (m || list_any (λ s. is_some (mended s.event)) (seen_of (chronicle setting history))) ≡ false
    by g j false k w commit order shut rest = rest
    by g j true k (Some v) commit order shut rest = cc
    by true true true true None commit order shut rest = cc
    by true true true false None commit order shut rest = cc
    by true false true true None commit order shut rest = cc
    by true false true false None commit order shut rest = cc
    by false true true true None commit order shut rest = cc
    by false true true false None commit order shut rest = cc
    by false false true true None commit order shut rest = cc
    by false false true false None commit order shut rest = cc

-- so what failed is failed
pub never_failed : (seen : List Seen) (x : Thing) → list_any (λ s. is_some (mended s.event)) seen ≡ false → has_failed seen x ≡ false
    → list_any (λ s. fails x s.event) seen ≡ false
never_failed [] x none sound = refl
never_failed (s ∷ seen) x none sound =
    let parts = or_parts (is_some (mended s.event)) (list_any (λ y. is_some (mended y.event)) seen) none in
    by (fails x s.event) (mended s.event) parts.0 sound (never_failed seen x parts.1)
  where
    by : (f : Bool) (m : Option Thing) → is_some m ≡ false
        → map_or (if f then Some true else if is_thing m x then Some false else None) (has_failed seen x) (λ y. y) ≡ false
        → (has_failed seen x ≡ false → list_any (λ y. fails x y.event) seen ≡ false) → (f || list_any (λ y. fails x y.event) seen) ≡ false
    by true m plain h rest = cc
    by false None plain h rest = rest h
    by false (Some y) plain h rest = cc

-- what never failed is not among what failed in the era
pub not_among : (seen : List Seen) (x : Thing) → list_any (λ s. fails x s.event) seen ≡ false
    → list_any (same_thing x) (filter_map (λ s. failure_of s.event) (leading (λ s. not s.closed) seen)) ≡ false
not_among [] x none = refl
not_among (s ∷ seen) x none =
    let parts = or_parts (fails x s.event) (list_any (λ y. fails x y.event) seen) none in
    by s.closed (failure_of s.event) refl parts.0 (not_among seen x parts.1)
  where
    by : (b : Bool) (f : Option Thing) → failure_of s.event ≡ f → map_or f false (same_thing x) ≡ false
        → list_any (same_thing x) (filter_map (λ y. failure_of y.event) (leading (λ y. not y.closed) seen)) ≡ false
        → list_any (same_thing x) (filter_map (λ y. failure_of y.event) (if not b then s ∷ leading (λ y. not y.closed) seen else [])) ≡ false
    by true f is h rest = refl
    by false None is h rest = rw is rest
    by false (Some y) is h rest =
        rw is (or_from (same_thing x y) (list_any (same_thing x) (filter_map (λ z. failure_of z.event) (leading (λ z. not z.closed) seen))) h rest)
