-- What is so where a device is given its duty, joins or is mended, or a thing is mended: a window is open, and has no commit yet. And before a commit C9 asks
-- for nobody
-- who enters.
use Rattle.std.specs.Prelude.{◌≡◌, ℕ, Bool, true, false, ◌&&◌, ◌||◌, not, List, ◌∷◌, is_some, refl}
use Rattle.std.proofs.Common.{◌∙◌, ap, sym}
use Rattle.sd_num.specs.Lists.{same_number}
use Rattle.sd_sched.specs.declared.Event.{Event}
use Rattle.sd_sched.specs.Events.{given, joined, is_commit}
use Rattle.sd_history.specs.Things.{mended}
use Rattle.sd_history.specs.World.{Setting, window_is_open, has_commit, staged_epoch}
use Rattle.sd_history.specs.Steps.{Step, seen_of, given_in}
use Rattle.sd_history.specs.Chronicle.{chronicle}
use Rattle.sd_history.specs.Admitted.{IsAdmitted}
use Rattle.sd_history.specs.Refusals.{past_preparing}
use Rattle.sd_safety.specs.invariant.Eras.{is_old, is_new, is_blank, will_belong}
use Rattle.sd_safety.specs.invariant.Clauses.{member_enters}
use Rattle.sd_safety.proofs.invariant.Orders.{orderly}

-- the window before its commit
pub record IsPreparing (steps : List Step) : Type 0 where
  pub opened : window_is_open (seen_of steps) ≡ true
  pub uncommitted : has_commit (seen_of steps) ≡ false

opened_uncommitted : (opened commit : Bool) → (not opened || commit) ≡ false → (opened ≡ true) × (commit ≡ false)
opened_uncommitted true false is = (refl, refl)
opened_uncommitted true true is = cc
opened_uncommitted false commit is = cc

pub preparing : (setting : Setting) (e : Event) (history : List Event) → IsAdmitted setting (e ∷ history)
    → (is_some (given e) || is_some (joined e) || is_some (mended e) || is_commit e) ≡ true
    → IsPreparing (chronicle setting history)
preparing setting e history is prepares =
    let seen = seen_of (chronicle setting history) in
    let parts = opened_uncommitted (window_is_open seen) (has_commit seen) (sym (ap (λ b. b && past_preparing seen) prepares) ∙ (orderly setting e history is).prepares) in
    record { opened = parts.0; uncommitted = parts.1 }

pub nobody_enters : (setting : Setting) (steps : List Step) → has_commit (seen_of steps) ≡ false → (d : ℕ) → member_enters setting steps d ≡ true
nobody_enters setting steps none d =
    ap (λ b. not (b && will_belong setting steps d)
    || (is_new steps d || ((is_old steps d || is_blank steps d) && same_number (given_in steps d) (staged_epoch (seen_of steps))))) none
