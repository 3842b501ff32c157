-- A seal with which the window stays open keeps the core: the device is sealed, and nothing else changes.
use Rattle.std.specs.Prelude.{◌≡◌, ℕ, false, List, ◌∷◌, ◌++◌, refl}
use Rattle.std.proofs.Common.{◌∙◌, ap}
use Rattle.sd_device.specs.Calls as calls
use Rattle.sd_sched.specs.declared.Event.{Event}
use Rattle.sd_sched.specs.declared.Event.TheVariants as event
use Rattle.sd_history.specs.World.{Setting, staged}
use Rattle.sd_history.specs.Steps.{Step, seen_of, flights}
use Rattle.sd_history.specs.Chronicle.{chronicle}
use Rattle.sd_safety.specs.invariant.Clauses.{just_closed}
use Rattle.sd_safety.specs.invariant.Invariant.{Core}
use Rattle.sd_safety.specs.invariant.Silences.{EntersSoon}
use Rattle.sd_safety.specs.invariant.Coming.{IsNextEvent, AtNext}
use Rattle.sd_safety.specs.invariant.Kept.{KeepsSeal}
use Rattle.sd_safety.proofs.invariant.Empty.{core_before}
use Rattle.sd_safety.specs.frame.Frames.{IsPlain, IsAlike, IsAlikeAt}
use Rattle.sd_safety.proofs.frame.PlainSteps.{staged_kept, commit_at_kept}
use Rattle.sd_safety.proofs.frame.Steps.{alike_plain}
use Rattle.sd_safety.proofs.frame.Alike.{enters_same}
use Rattle.sd_safety.proofs.frame.QuietCalls.{alike_called, given_called, seal_turns_nothing}
use Rattle.sd_safety.proofs.frame.Lasting.{core_lasts, shadow_same, messages_same}
use Rattle.sd_safety.proofs.frame.Idles.{step_at, heard_called, sends_none}

module _ {setting : Setting} (enters : AtNext EntersSoon setting) (r d : ℕ) (history : List Event) (comes : IsNextEvent setting history (event.Seal r d))
    (stays : just_closed (chronicle setting (event.Seal r d ∷ history)) ≡ false) where
  abbrev e : Event
  e = event.Seal r d

  abbrev one : List Step
  one = chronicle setting history

  abbrev two : List Step
  two = chronicle setting (event.Seal r d ∷ history)

  abbrev s : Step
  s = step_at setting history (event.Seal r d)

  plain : IsPlain (step_at setting history (event.Seal r d))
  plain = record { stays = stays; unstaged = refl; uncommitted = refl; unjoined = refl; unfailed = refl; unmended = refl }

  alike : IsAlike setting (chronicle setting history) (chronicle setting (event.Seal r d ∷ history))
  alike = alike_plain setting one s plain

  each : (x : ℕ) → IsAlikeAt (chronicle setting history) (chronicle setting (event.Seal r d ∷ history)) x
  each = alike_called setting e history d calls.Seal refl (λ x. refl) (λ x. refl) (λ past there. seal_turns_nothing past)

  same_plan : staged setting (seen_of (chronicle setting (event.Seal r d ∷ history))) ≡ staged setting (seen_of (chronicle setting history))
  same_plan = staged_kept setting one s stays refl

  pub seal_keeps : Core setting (chronicle setting (event.Seal r d ∷ history))
  seal_keeps =
      let core : Core setting one = core_before setting history e comes in
      core_lasts setting e history comes.fair comes.clean core alike each same_plan (commit_at_kept setting one s stays refl refl) (enters history e comes)
      (λ x. enters_same setting one two alike each same_plan x (given_called setting e history d calls.Seal refl (λ y. refl) (λ y. refl) (λ past there. refl) x)
      ∙ core.committed.entering x)
      (λ x. shadow_same setting one two alike each (heard_called setting e history d calls.Seal refl (λ y. refl) (λ past there. refl)) x ∙ core.causes.shadow x)
      (messages_same setting one two alike (ap (λ fs. fs ++ flights one) (sends_none setting e history d calls.Seal refl (λ past there. refl)))
      ∙ core.uncommitted.messages) stays

pub seal : {setting : Setting} → AtNext EntersSoon setting → KeepsSeal setting false
seal enters r d history comes stays = seal_keeps enters r d history comes stays
