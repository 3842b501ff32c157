-- Once something was mended in the era nothing fails until it closes: a mend comes in an open window, which stays open. So what failed, and when it failed
-- first, stays.
use Rattle.std.specs.Prelude.{◌≡◌, ℕ, Bool, true, false, ◌&&◌, ◌||◌, not, List, [], ◌∷◌, Option, Some, None, is_some, option_map, refl, if◌then◌else◌}
use Rattle.std.specs.List.{list_any, cons_option}
use Rattle.std.specs.Option.{option_or}
use Rattle.std.proofs.Common.{◌∙◌, ap, subst}
use Rattle.sd_num.specs.Lists.{map_or, leading}
use Rattle.sd_plan.specs.declared.topo.Thing.{Thing}
use Rattle.sd_plan.specs.domain.Things.{same_thing}
use Rattle.sd_sched.specs.declared.Event.{Event}
use Rattle.sd_sched.specs.Events.{reference_of, given, joined, is_stage, is_commit}
use Rattle.sd_history.specs.Things.{failure_of, mended}
use Rattle.sd_history.specs.World.{Setting, Seen, fails, window, has_commit}
use Rattle.sd_history.specs.Steps.{seen_of}
use Rattle.sd_history.specs.Chronicle.{chronicle, next_step}
use Rattle.sd_history.specs.Admitted.{IsAdmitted}
use Rattle.sd_history.specs.Premises.{failures_since_closing, has_mend}
use Rattle.sd_safety.specs.invariant.Eras.{first_failure}
use Rattle.sd_safety.specs.invariant.Guarded.{IsSteady}
use Rattle.sd_safety.proofs.invariant.Orders.{orderly, renews}
use Rattle.sd_safety.specs.behind.Feeding.{mended_now}
use Rattle.sd_safety.proofs.windows.Eras.{stages_shut}

in_open : (stage commits : Bool) (s : Seen) (w : Option (List Seen)) (g j m c : Bool) → (stage && is_some w) ≡ false
    → ((g || j || m || c) && (not (is_some w) || commits)) ≡ false → m ≡ true → is_some (mended s.event) ≡ m
    → map_or (if stage then Some [] else option_map (λ v. s ∷ v) w) false (list_any (λ (x : Seen). is_some (mended x.event))) ≡ true
in_open false commits s (Some w) g j m c staged prepares is same = ap (λ b. b || list_any (λ (x : Seen). is_some (mended x.event)) w) (same ∙ is)
in_open true commits s (Some w) g j m c staged prepares is same = cc
in_open stage commits s None true j true c staged prepares is same = cc
in_open stage commits s None false true true c staged prepares is same = cc
in_open stage commits s None false false true c staged prepares is same = cc
in_open stage commits s None g j false c staged prepares is same = cc

in_old : (stage : Bool) (s : Seen) (w : Option (List Seen)) → (stage && is_some w) ≡ false
    → map_or w false (list_any (λ (x : Seen). is_some (mended x.event))) ≡ true
    → map_or (if stage then Some [] else option_map (λ v. s ∷ v) w) false (list_any (λ (x : Seen). is_some (mended x.event))) ≡ true
in_old false s (Some w) staged is = or_true (is_some (mended s.event)) (list_any (λ (x : Seen). is_some (mended x.event)) w) is
  where
    or_true : (a b : Bool) → b ≡ true → (a || b) ≡ true
    or_true true b i = refl
    or_true false b i = i
in_old true s (Some w) staged is = cc
in_old stage s None staged is = cc

lift : (s : Seen) (w : Option (List Seen)) → s.closed ≡ false
    → map_or (if is_stage s.event then Some [] else option_map (λ v. s ∷ v) w) false (list_any (λ (x : Seen). is_some (mended x.event))) ≡ true
    → map_or (if s.closed then None else if is_stage s.event then Some [] else option_map (λ v. s ∷ v) w) false
    (list_any (λ (x : Seen). is_some (mended x.event))) ≡ true
lift s w open_ is =
    ap (λ c. map_or (if c then None else if is_stage s.event then Some [] else option_map (λ v. s ∷ v) w) false
    (list_any (λ (x : Seen). is_some (mended x.event)))) open_ ∙ is

-- what was mended in the era was mended in the open window
pub mended_in_window : (setting : Setting) (history : List Event) → IsAdmitted setting history → mended_now (chronicle setting history) ≡ true
    → has_mend (seen_of (chronicle setting history)) ≡ true
mended_in_window setting [] is mended_ = cc
mended_in_window setting (e ∷ h) is mended_ =
    go s.closed refl (is_some (mended e)) refl (mended_now (chronicle setting h)) refl (λ before. mended_in_window setting h is.0 before) mended_
  where
    s : Seen
    s = (next_step setting (chronicle setting h) e).seen

    go : (c : Bool) → s.closed ≡ c → (m : Bool) → is_some (mended e) ≡ m → (b : Bool) → mended_now (chronicle setting h) ≡ b
        → (b ≡ true → has_mend (seen_of (chronicle setting h)) ≡ true)
        → list_any (λ (x : Seen). is_some (mended x.event))
        (if not s.closed then s ∷ leading (λ (x : Seen). not x.closed) (seen_of (chronicle setting h)) else []) ≡ true
        → has_mend (s ∷ seen_of (chronicle setting h)) ≡ true
    go true closed m is_m b is_b rest any =
        absurd (none
        (subst (λ c. list_any (λ (x : Seen). is_some (mended x.event))
        (if not c then s ∷ leading (λ (x : Seen). not x.closed) (seen_of (chronicle setting h)) else []) ≡ true) closed any))
      where
        none : false ≡ true → ⊥
        none x = cc
    go false open_ true is_m b is_b rest any =
        lift s (window (seen_of (chronicle setting h))) open_
        (in_open (is_stage e) (has_commit (seen_of (chronicle setting h))) s (window (seen_of (chronicle setting h))) (is_some (given e)) (is_some (joined e))
        (is_some (mended e)) (is_commit e)
        (stages_shut setting e h is) (orderly setting e h is).prepares is_m refl)
    go false open_ false is_m true is_b rest any =
        lift s (window (seen_of (chronicle setting h))) open_
        (in_old (is_stage e) s (window (seen_of (chronicle setting h))) (stages_shut setting e h is) (rest refl))
    go false open_ false is_m false is_b rest any =
        absurd (none (is_some (mended e)) (mended_now (chronicle setting h)) is_m is_b
        (subst (λ c. list_any (λ (x : Seen). is_some (mended x.event))
        (if not c then s ∷ leading (λ (x : Seen). not x.closed) (seen_of (chronicle setting h)) else []) ≡ true) open_ any))
      where
        none : (a b : Bool) → a ≡ false → b ≡ false → (a || b) ≡ true → ⊥
        none false false x y z = cc
        none true b x y z = cc
        none false true x y z = cc

no_failure : (f m c : Bool) → (not f || not (m || c)) ≡ true → m ≡ true → f ≡ false
no_failure false m c orderly_ is = refl
no_failure true true c orderly_ is = cc
no_failure true false c orderly_ is = cc

none_of : (o : Option Thing) → is_some o ≡ false → o ≡ None
none_of None is = refl
none_of (Some x) is = cc

-- once something was mended in the era, the next event fails nothing
pub fails_nothing : (setting : Setting) (e : Event) (h : List Event) → IsSteady setting (e ∷ h) → mended_now (chronicle setting h) ≡ true → failure_of e ≡ None
fails_nothing setting e h clean mended_ =
    none_of (failure_of e)
    (no_failure (is_some (failure_of e)) (has_mend (seen_of (chronicle setting h))) (has_commit (seen_of (chronicle setting h)))
    (renews setting e h clean).fails (mended_in_window setting h clean.is.0 mended_))

-- so what failed in the era, and when one of some things failed first, stays
pub failed_stays : (s : Seen) (seen : List Seen) → s.closed ≡ false → failure_of s.event ≡ None
    → failures_since_closing (s ∷ seen) ≡ failures_since_closing seen
failed_stays s seen open_ none = rw (open_) (ap (λ o. cons_option o (failures_since_closing seen)) none)

pub first_stays : (things : List Thing) (s : Seen) (seen : List Seen) → s.closed ≡ false → failure_of s.event ≡ None
    → first_failure things (s ∷ seen) ≡ first_failure things seen
first_stays things s seen open_ none =
    ap (λ c. if c then None else option_or (first_failure things seen) (if list_any (λ y. fails y s.event) things then Some (reference_of s.event) else None))
    open_
    ∙ ap (λ b. option_or (first_failure things seen) (if b then Some (reference_of s.event) else None)) (none_fail things)
    ∙ or_none (first_failure things seen)
  where
    none_fail : (ts : List Thing) → list_any (λ y. fails y s.event) ts ≡ false
    none_fail [] = refl
    none_fail (y ∷ ts) = ap (λ o. map_or o false (same_thing y) || list_any (λ z. fails z s.event) ts) none ∙ none_fail ts

    or_none : (o : Option ℕ) → option_or o None ≡ o
    or_none None = refl
    or_none (Some r) = refl
