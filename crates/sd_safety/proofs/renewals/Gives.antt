-- A give keeps the core: the device is given a duty, and nothing else changes.
use Rattle.std.specs.Prelude.{◌≡◌, ℕ, List, ◌∷◌, ◌++◌, refl}
use Rattle.std.proofs.Common.{◌∙◌, ap}
use Rattle.sd_num.specs.Lists.{map_or}
use Rattle.sd_plan.specs.declared.Plan.{Plan}
use Rattle.sd_plan.specs.declared.Duty.{Duty}
use Rattle.sd_plan.specs.Duties.{duty_of}
use Rattle.sd_device.specs.Calls as calls
use Rattle.sd_sched.specs.declared.Event.{Event}
use Rattle.sd_sched.specs.declared.Event.TheVariants as event
use Rattle.sd_history.specs.World.{Setting, staged_epoch}
use Rattle.sd_history.specs.Steps.{Calls, Passes, Step, seen_of, act_by, flights}
use Rattle.sd_history.specs.Chronicle.{chronicle}
use Rattle.sd_safety.specs.invariant.Invariant.{Core}
use Rattle.sd_safety.specs.invariant.Silences.{EntersSoon}
use Rattle.sd_safety.specs.invariant.Coming.{IsNextEvent, AtNext}
use Rattle.sd_safety.specs.invariant.Kept.{Keeps}
use Rattle.sd_safety.proofs.invariant.Empty.{core_before}
use Rattle.sd_safety.proofs.invariant.Closings.{give_closes_none}
use Rattle.sd_safety.proofs.windows.Committing.{staged_plan, staged_some}
use Rattle.sd_safety.specs.frame.Frames.{IsPlain, IsAlike, IsAlikeAt}
use Rattle.sd_safety.proofs.frame.PlainSteps.{staged_kept, commit_at_kept}
use Rattle.sd_safety.proofs.frame.Steps.{alike_plain}
use Rattle.sd_safety.proofs.frame.QuietCalls.{alike_called, give_turns_nothing}
use Rattle.sd_safety.proofs.frame.Lasting.{core_lasts, shadow_same, messages_same}
use Rattle.sd_safety.proofs.frame.Idles.{step_at, heard_called, sends_none}
use Rattle.sd_safety.proofs.renewals.Preparing.{IsPreparing, preparing, nobody_enters}

module _ {setting : Setting} (enters : AtNext EntersSoon setting) (r d : ℕ) (history : List Event) (comes : IsNextEvent setting history (event.Give r d)) where
  abbrev e : Event
  e = event.Give r d

  abbrev one : List Step
  one = chronicle setting history

  abbrev two : List Step
  two = chronicle setting (event.Give r d ∷ history)

  abbrev s : Step
  s = step_at setting history (event.Give r d)

  abbrev duty : Duty
  duty = duty_of setting.net (staged_plan setting (chronicle setting history)) (staged_epoch (seen_of (chronicle setting history))) d

  window : IsPreparing (chronicle setting history)
  window = preparing setting e history comes.clean.is refl

  named : act_by setting (chronicle setting history) (event.Give r d)
      ≡ Calls d (calls.Give (duty_of setting.net (staged_plan setting (chronicle setting history)) (staged_epoch (seen_of (chronicle setting history))) d))
  named = ap (λ o. map_or o Passes (λ (plan : Plan). Calls d (calls.Give (duty_of setting.net plan (staged_epoch (seen_of one)) d))))
      (staged_some setting one window.opened)

  plain : IsPlain (step_at setting history (event.Give r d))
  plain = record {
    stays = give_closes_none setting history r d comes.clean;
    unstaged = refl;
    uncommitted = refl;
    unjoined = refl;
    unfailed = refl;
    unmended = refl;
  }

  alike : IsAlike setting (chronicle setting history) (chronicle setting (event.Give r d ∷ history))
  alike = alike_plain setting one s plain

  each : (x : ℕ) → IsAlikeAt (chronicle setting history) (chronicle setting (event.Give r d ∷ history)) x
  each = alike_called setting e history d (calls.Give duty) named (λ x. refl) (λ x. refl) (λ past there. give_turns_nothing past duty)

  pub give_keeps : Core setting (chronicle setting (event.Give r d ∷ history))
  give_keeps =
      let core : Core setting one = core_before setting history e comes in
      core_lasts setting e history comes.fair comes.clean core alike each (staged_kept setting one s plain.stays refl)
      (commit_at_kept setting one s plain.stays refl refl) (enters history e comes)
      (nobody_enters setting two (alike.commit_is ∙ window.uncommitted))
      (λ x. shadow_same setting one two alike each (heard_called setting e history d (calls.Give duty) named (λ y. refl) (λ past there. refl)) x
      ∙ core.causes.shadow x)
      (messages_same setting one two alike (ap (λ fs. fs ++ flights one) (sends_none setting e history d (calls.Give duty) named (λ past there. refl)))
      ∙ core.uncommitted.messages) plain.stays

pub give : {setting : Setting} → AtNext EntersSoon setting → (r d : ℕ) → Keeps setting (event.Give r d)
give enters r d history comes = give_keeps enters r d history comes
