-- C9 c at a receipt: the staged root stays new and acts, and no other device that counts begins to act. And at the commit itself nobody is late yet.
use Rattle.std.specs.Prelude.{◌≡◌, ℕ, ◌+◌, ◌*◌, ◌<◌, Bool, true, false, ◌&&◌, ◌||◌, not, List, ◌∷◌, nat_eq, Option, Some, None, is_some, option_map, refl, if◌then◌else◌}
use Rattle.std.specs.List.{list_any}
use Rattle.std.proofs.Common.{arith, ◌∙◌, ap, sym}
use Rattle.std.proofs.lemmas.Bool.{and_parts, and_from, eqb-true, eq-eqb, ltb-true}
use Rattle.sd_num.specs.Lists.{map_or, find_map_or}
use Rattle.sd_plan.specs.declared.topo.Thing.TheVariants as thing
use Rattle.sd_plan.specs.domain.Things.{same_thing}
use Rattle.sd_plan.specs.declared.Plan.{Plan}
use Rattle.sd_sched.specs.declared.Event.{Event}
use Rattle.sd_sched.specs.declared.Event.TheVariants as event
use Rattle.sd_sched.specs.Events.{reference_of, is_commit}
use Rattle.sd_history.specs.World.{Setting, Seen, window, has_commit}
use Rattle.sd_history.specs.Steps.{Step, seen_of}
use Rattle.sd_history.specs.Chronicle.{next_step, chronicle}
use Rattle.sd_safety.specs.invariant.Bounds.{depth, delay, rounds_gap}
use Rattle.sd_safety.specs.invariant.Eras.{plan_now, will_belong, failed_now, is_new, root_failed}
use Rattle.sd_safety.specs.invariant.Clauses.{committer_is_root, member_entered, commit_at, staged_root}
use Rattle.sd_safety.specs.invariant.Guarded.{IsSteady}
use Rattle.sd_safety.proofs.invariant.Sides.{implied}
use Rattle.sd_safety.proofs.windows.Eras.{committing, plan_kept}
use Rattle.sd_safety.proofs.windows.NoClosing.{receipt_closes_none, commit_closes_none}
use Rattle.sd_safety.proofs.windows.Frames.{window_on, in_window_on, staged_on, failed_on}
use Rattle.sd_safety.proofs.windows.Senders.{new_stays}
use Rattle.sd_safety.proofs.invariant.Opening.{gives}

-- C9 c at a receipt: the staged root
pub receipt_keeps_committer : (setting : Setting) (r d c k : ℕ) (history : List Event) → IsSteady setting (event.Recv r d c k ∷ history)
    → committer_is_root setting (chronicle setting history) ≡ true
    → committer_is_root setting (chronicle setting (event.Recv r d c k ∷ history)) ≡ true
receipt_keeps_committer setting r d c k history clean before = gives (has_commit (seen_of (chronicle setting (event.Recv r d c k ∷ history)))) _ shown
  where
    s : Step
    s = next_step setting (chronicle setting history) (event.Recv r d c k)

    shut : (next_step setting (chronicle setting history) (event.Recv r d c k)).seen.closed ≡ false
    shut = receipt_closes_none setting history r d c k

    root_same : staged_root setting (chronicle setting (event.Recv r d c k ∷ history)) ≡ staged_root setting (chronicle setting history)
    root_same = ap (λ o. map_or o 0 (λ (plan : Plan). plan.root))
        (staged_on setting (next_step setting (chronicle setting history) (event.Recv r d c k)) (chronicle setting history) shut refl)

    failed_same : root_failed setting (chronicle setting (event.Recv r d c k ∷ history)) ≡ root_failed setting (chronicle setting history)
    failed_same =
        ap (λ failed. list_any (same_thing (thing.Device (plan_now setting (chronicle setting (event.Recv r d c k ∷ history))).root)) failed)
        (failed_on setting (next_step setting (chronicle setting history) (event.Recv r d c k)) (chronicle setting history) shut refl)
        ∙ ap (λ (plan : Plan). list_any (same_thing (thing.Device plan.root)) (failed_now (chronicle setting history)))
        (plan_kept setting (next_step setting (chronicle setting history) (event.Recv r d c k)) (chronicle setting history) shut)

    shown : has_commit (seen_of (chronicle setting (event.Recv r d c k ∷ history))) ≡ true
        → (nat_eq (staged_root setting (chronicle setting (event.Recv r d c k ∷ history)))
        (if root_failed setting
        (chronicle setting (event.Recv r d c k ∷ history)) then (plan_now setting
        (chronicle setting (event.Recv r d c k ∷ history))).backup_root else (plan_now setting (chronicle setting (event.Recv r d c k ∷ history))).root)
        && is_new (chronicle setting (event.Recv r d c k ∷ history)) (staged_root setting (chronicle setting (event.Recv r d c k ∷ history)))) ≡ true
    shown commit =
        let was = sym
        (in_window_on setting (next_step setting (chronicle setting history) (event.Recv r d c k)) (chronicle setting history) shut
        (λ y. is_commit y.event) refl refl) ∙ commit in
        let parts = and_parts (nat_eq (staged_root setting (chronicle setting history)) _) _
        (implied (has_commit (seen_of (chronicle setting history))) _ before was) in
        and_from _ _
        (eq-eqb _ _
        (root_same ∙ eqb-true (staged_root setting (chronicle setting history)) _ parts.0
        ∙ sym (ap (λ b. if b then (plan_now setting (chronicle setting (event.Recv r d c k ∷ history))).backup_root else (plan_now setting
        (chronicle setting (event.Recv r d c k ∷ history))).root) failed_same
        ∙ ap (λ (plan : Plan). if root_failed setting (chronicle setting history) then plan.backup_root else plan.root)
        (plan_kept setting (next_step setting (chronicle setting history) (event.Recv r d c k)) (chronicle setting history) shut))))
        (ap (is_new (chronicle setting (event.Recv r d c k ∷ history))) root_same
        ∙ new_stays setting (event.Recv r d c k) history clean shut (staged_root setting (chronicle setting history)) parts.1)

-- At the commit itself nobody is late

late_by : (hc wb late new : Bool) → (late ≡ true → ⊥) → (not (hc && wb && late) || new) ≡ true
late_by true true true new never = absurd (never refl)
late_by true true false new never = refl
late_by true false late new never = refl
late_by false wb late new never = refl

commit_now : (s : Seen) (r : ℕ) (w : Option (List Seen)) → is_some w ≡ true → is_commit s.event ≡ true → reference_of s.event ≡ r
    → map_or (option_map (λ v. s ∷ v) w) 0 (λ v. find_map_or (λ x. if is_commit x.event then Some (reference_of x.event) else None) v 0) ≡ r
commit_now s r None some is at = cc
commit_now s r (Some v) some is at =
    ap (λ b. map_or (if b then Some (reference_of s.event) else None) (find_map_or (λ x. if is_commit x.event then Some (reference_of x.event) else None) v 0)
    (λ told. told)) is ∙ at

-- C9 b at a commit: it is not yet late
pub commit_is_in_time : (setting : Setting) (r d c : ℕ) (history : List Event) → IsSteady setting (event.Commit r d c ∷ history) → (x : ℕ)
    → member_entered setting (chronicle setting (event.Commit r d c ∷ history)) x ≡ true
commit_is_in_time setting r d c history clean x =
    late_by (has_commit (seen_of (chronicle setting (event.Commit r d c ∷ history))))
    (will_belong setting (chronicle setting (event.Commit r d c ∷ history)) x) _ _
    (λ late.
    let lt = ltb-true (commit_at (chronicle setting (event.Commit r d c ∷ history)) + rounds_gap setting.net + depth setting.net * delay setting.net) r late in
    let at : commit_at (chronicle setting (event.Commit r d c ∷ history)) ≡ r =
    ap (λ w. map_or w 0 (λ v. find_map_or (λ y. if is_commit y.event then Some (reference_of y.event) else None) v 0))
    (window_on setting (next_step setting (chronicle setting history) (event.Commit r d c)) (chronicle setting history)
    (commit_closes_none setting history r d c clean.is) refl)
    ∙ commit_now (next_step setting (chronicle setting history) (event.Commit r d c)).seen r (window (seen_of (chronicle setting history)))
    (committing setting r d c history clean.is).opened refl refl in
    never (commit_at (chronicle setting (event.Commit r d c ∷ history))) r (rounds_gap setting.net) (depth setting.net * delay setting.net) at lt)
  where
    never : (a r x y : ℕ) → a ≡ r → a + x + y < r → ⊥
    never a r x y same lt = omega (arith, same, lt)
