-- How an event changes the number of the era, and the window: an event that closes no window leaves the era, and one that closes it counts on.
use Rattle.std.specs.Prelude.{◌≡◌, ℕ, ◌+◌, true, false, ◌&&◌, ◌||◌, not, List, ◌∷◌, cond, count_by, nat_eq}
use Rattle.std.proofs.Common.{arith, ◌∙◌, ap}
use Rattle.std.proofs.lemmas.Bool.{or_parts, not-false}
use Rattle.std.proofs.lemmas.List.Sums.{sum_by-cons}
use Rattle.sd_num.specs.Lists.{map_or, same_number}
use Rattle.sd_sched.specs.declared.Event.{Event}
use Rattle.sd_sched.specs.declared.Event.TheVariants as event
use Rattle.sd_sched.specs.Events.{device_of, is_stage, is_commit, is_seal}
use Rattle.sd_history.specs.World.{Setting, Seen, window_is_open, has_commit, plan_numbered, staged, staged_epoch}
use Rattle.sd_history.specs.Steps.{Step, seen_of, given_in}
use Rattle.sd_history.specs.Chronicle.{chronicle}
use Rattle.sd_history.specs.Admitted.{IsAdmitted}
use Rattle.sd_history.specs.Refusals.{window_order_seen, window_order_within, window_order}
use Rattle.sd_history.proofs.Clear.{clear}
use Rattle.sd_safety.specs.invariant.Eras.{era, plan_now}
use Rattle.sd_safety.proofs.invariant.Orders.{orderly}

pub era_after : (s : Step) (steps : List Step) → era (s ∷ steps) ≡ era steps + cond s.seen.closed 1 0
era_after s steps =
    ap (λ n. n + 1) (sum_by-cons (λ (x : Seen). cond x.closed 1 0) s.seen (seen_of steps))
    ∙ turn (cond s.seen.closed 1 0) (count_by (λ (x : Seen). x.closed) (seen_of steps))
  where
    turn : (a b : ℕ) → a + b + 1 ≡ b + 1 + a
    turn a b = omega arith

pub era_kept : (s : Step) (steps : List Step) → s.seen.closed ≡ false → era (s ∷ steps) ≡ era steps
era_kept s steps open_ = era_after s steps ∙ ap (λ b. era steps + cond b 1 0) open_ ∙ nothing (era steps)
  where
    nothing : (n : ℕ) → n + 0 ≡ n
    nothing n = omega arith

pub era_grows : (s : Step) (steps : List Step) → s.seen.closed ≡ true → era (s ∷ steps) ≡ era steps + 1
era_grows s steps closed = era_after s steps ∙ ap (λ b. era steps + cond b 1 0) closed

pub plan_kept : (setting : Setting) (s : Step) (steps : List Step) → s.seen.closed ≡ false → plan_now setting (s ∷ steps) ≡ plan_now setting steps
plan_kept setting s steps open_ = ap (λ n. plan_numbered setting n) (era_kept s steps open_)

-- a stage comes in no open window
pub stages_shut : (setting : Setting) (e : Event) (history : List Event) → IsAdmitted setting (e ∷ history)
    → (is_stage e && window_is_open (seen_of (chronicle setting history))) ≡ false
stages_shut setting e history is =
    let steps = chronicle setting history in
    let order : window_order setting steps e ≡ false =
    (clear setting steps e is.1).in_window in
    let outside : window_order_seen setting (seen_of steps) e ≡ false = (or_parts (window_order_seen setting (seen_of steps) e) _ order).0 in
    let last = or_parts _ (is_seal e && (not (window_is_open (seen_of steps)) || not (has_commit (seen_of steps)))) outside in
    let front = or_parts _ _ last.0 in
    (or_parts (is_stage e && window_is_open (seen_of steps)) _ front.0).0

-- what is known of a commit that is accepted
pub record IsCommitting (setting : Setting) (steps : List Step) (d : ℕ) : Type 0 where
  pub opened : window_is_open (seen_of steps) ≡ true
  pub first_one : has_commit (seen_of steps) ≡ false
  pub root : map_or (staged setting (seen_of steps)) false (λ plan. nat_eq plan.root d) ≡ true
  pub given : same_number (given_in steps d) (staged_epoch (seen_of steps)) ≡ true

pub committing : (setting : Setting) (r d c : ℕ) (history : List Event) → IsAdmitted setting (event.Commit r d c ∷ history)
    → IsCommitting setting (chronicle setting history) d
committing setting r d c history is =
    let steps : List Step = chronicle setting history in
    let e : Event = event.Commit r d c in
    let order : window_order setting steps e ≡ false =
    (clear setting steps e is.1).in_window in
    let outside = or_parts (window_order_seen setting (seen_of steps) e) (window_order_within steps e) order in
    let last = or_parts _ (is_seal e && (not (window_is_open (seen_of steps)) || not (has_commit (seen_of steps)))) outside.0 in
    let front = or_parts _ (is_commit e && map_or (device_of e) false (λ x. not (map_or (staged setting (seen_of steps)) false (λ plan. nat_eq plan.root x))))
    last.0 in
    let prepares = or_parts (not (window_is_open (seen_of steps))) (has_commit (seen_of steps)) (orderly setting e history is).prepares in
    record {
      opened = not-false (window_is_open (seen_of steps)) prepares.0;
      first_one = prepares.1;
      root = not-false (map_or (staged setting (seen_of steps)) false (λ plan. nat_eq plan.root d)) front.1;
      given = not-false (same_number (given_in steps d) (staged_epoch (seen_of steps)))
          (or_parts (not (same_number (given_in steps d) (staged_epoch (seen_of steps)))) false outside.1).0;
    }
