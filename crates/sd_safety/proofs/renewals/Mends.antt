-- A mend keeps the core: no device changes, and one thing fewer is failed.
use Rattle.std.specs.Prelude.{◌≡◌, ℕ, Bool, true, false, ◌||◌, List, [], ◌∷◌, ◌++◌, nat_eq, Some, None, is_some, refl, if◌then◌else◌}
use Rattle.std.proofs.Common.{◌∙◌, ap}
use Rattle.sd_num.specs.Lists.{map_or}
use Rattle.sd_sched.specs.declared.Event.{Event}
use Rattle.sd_sched.specs.declared.Event.TheVariants as event
use Rattle.sd_sched.specs.Events.{given, joined, is_stage, is_commit}
use Rattle.sd_history.specs.Things.{failure_of, mended}
use Rattle.sd_history.specs.World.{Setting, link_has_failed}
use Rattle.sd_history.specs.Steps.{Step, seen_of, flights}
use Rattle.sd_history.specs.Chronicle.{chronicle}
use Rattle.sd_safety.specs.invariant.Invariant.{Core}
use Rattle.sd_safety.specs.invariant.Silences.{EntersSoon}
use Rattle.sd_safety.specs.invariant.Coming.{IsNextEvent, AtNext}
use Rattle.sd_safety.specs.invariant.Kept.{Keeps}
use Rattle.sd_safety.proofs.invariant.Empty.{core_before}
use Rattle.sd_safety.proofs.invariant.Closings.{mended_device_closes_none, mended_link_closes_none}
use Rattle.sd_safety.specs.frame.Frames.{IsElsewhere, IsAlike, IsAlikeAt}
use Rattle.sd_safety.proofs.frame.ElsewhereSteps.{heard_alone}
use Rattle.sd_safety.proofs.frame.PlainSteps.{era_kept, failed_kept, commit_kept, joined_kept, staged_kept, commit_at_kept}
use Rattle.sd_safety.proofs.frame.Steps.{alike_elsewhere}
use Rattle.sd_safety.proofs.frame.Lasting.{core_lasts, shadow_same, messages_same}
use Rattle.sd_safety.proofs.frame.Idles.{step_at}
use Rattle.sd_safety.proofs.renewals.Preparing.{IsPreparing, preparing, nobody_enters}

-- an event that does nothing to any device, closes nothing and leaves no more links failed
module _ {setting : Setting} (enters : AtNext EntersSoon setting) (history : List Event) (e : Event) (comes : IsNextEvent setting history e)
    (prepares : (is_some (given e) || is_some (joined e) || is_some (mended e) || is_commit e) ≡ true) (stays : (step_at setting history e).seen.closed ≡ false)
    (unstaged : is_stage e ≡ false) (uncommitted : is_commit e ≡ false) (unjoined : joined e ≡ None) (unfailed : failure_of e ≡ None)
    (alone : (x : ℕ) → IsElsewhere (step_at setting history e) x) (sent : (step_at setting history e).sent ≡ [])
    (links : (l : ℕ) → link_has_failed (seen_of (chronicle setting (e ∷ history))) l ≡ true
    → link_has_failed (seen_of (chronicle setting history)) l ≡ true) where
  abbrev one : List Step
  one = chronicle setting history

  abbrev two : List Step
  two = chronicle setting (e ∷ history)

  abbrev s : Step
  s = step_at setting history e

  window : IsPreparing (chronicle setting history)
  window = preparing setting e history comes.clean.is prepares

  alike : IsAlike setting (chronicle setting history) (chronicle setting (e ∷ history))
  alike =
      record {
        era_is = era_kept setting one s stays;
        failed_is = failed_kept setting one s stays unfailed;
        commit_is = commit_kept setting one s stays unstaged uncommitted;
        joined_is = λ x. joined_kept setting one s stays unstaged x unjoined;
        links_no_worse = links;
      }

  each : (x : ℕ) → IsAlikeAt (chronicle setting history) (chronicle setting (e ∷ history)) x
  each x = alike_elsewhere setting one s x (alone x)

  pub mend_keeps : Core setting (chronicle setting (e ∷ history))
  mend_keeps =
      let core : Core setting one = core_before setting history e comes in
      core_lasts setting e history comes.fair comes.clean core alike each (staged_kept setting one s stays unstaged)
      (commit_at_kept setting one s stays unstaged uncommitted) (enters history e comes)
      (nobody_enters setting two (alike.commit_is ∙ window.uncommitted))
      (λ x. shadow_same setting one two alike each (λ y. heard_alone one s y (alone y)) x ∙ core.causes.shadow x)
      (messages_same setting one two alike (ap (λ fs. fs ++ flights one) sent) ∙ core.uncommitted.messages) stays

mended_or_not : (b was : Bool) → map_or (if b then Some false else None) was (λ told. told) ≡ true → was ≡ true
mended_or_not true was failed = cc
mended_or_not false was failed = failed

pub mend_device : {setting : Setting} → AtNext EntersSoon setting → (r d : ℕ) → Keeps setting (event.MendDevice r d)
mend_device {setting} enters r d history comes =
    mend_keeps enters history (event.MendDevice r d) comes refl (mended_device_closes_none setting history r d comes.clean) refl refl refl refl
    (λ x. record { changes = refl; unmade = refl; unfailed = refl }) refl (λ l failed. failed)

pub mend_link : {setting : Setting} → AtNext EntersSoon setting → (r l : ℕ) → Keeps setting (event.MendLink r l)
mend_link {setting} enters r l history comes =
    mend_keeps enters history (event.MendLink r l) comes refl (mended_link_closes_none setting history r l comes.clean) refl refl refl refl
    (λ x. record { changes = refl; unmade = refl; unfailed = refl }) refl
    (λ m failed. mended_or_not (nat_eq m l) (link_has_failed (seen_of (chronicle setting history)) m) failed)
