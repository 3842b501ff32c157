-- Each run of a deployed fleet is a history: its calls are the steps of the history, and its answers are what the devices tell there.
use Rattle.std.specs.Prelude.{◌≡◌, ◌≤◌, ◌^◌, List, [], ◌∷◌, map, refl}
use Rattle.std.proofs.Common.{sym, ◌∙◌, ap, subst}
use Rattle.std.proofs.lemmas.List.{length-map}
use Rattle.sd_device.specs.declared.registers.Registers.{Registers}
use Rattle.sd_history.specs.World.{Setting}
use Rattle.sd_history.specs.Steps.{Step}
use Rattle.sd_history.specs.Chronicle.{chronicle}
use Rattle.sd_history.specs.Admitted.{Admits, IsAdmitted}
use Rattle.sd_history.proofs.Admitted.{admitted_is_history}
use Rattle.sd_beside.specs.deployment.Deployment.{Moment, steps_of, IsDeployment}
use Rattle.sd_beside.specs.deployment.Laws.{events_in, IsHistoryOf, IsReplayed}
use Rattle.sd_beside.proofs.deployment.Telling.{call_is, are_told}
use Rattle.sd_beside.proofs.deployment.Admitting.{admits}

module _ {S : Type 0} (Holds : S → Registers → Type 0) (setting : Setting) where
  steps_are : (run : List (Moment S)) → IsDeployment Holds setting run → chronicle setting (events_in run) ≡ steps_of setting run
  steps_are run is = (are_told Holds setting run is).steps_are

  are_admitted : (run : List (Moment S)) → IsDeployment Holds setting run → IsAdmitted setting (events_in run)
  are_admitted [] is = tt
  are_admitted (x ∷ earlier) is = (
    are_admitted earlier is.0,
    subst (λ steps. Admits setting steps x.event) (sym (steps_are earlier is.0)) (admits Holds setting earlier x is.0 is.1),
  )

  calls_are : (run : List (Moment S)) → IsDeployment Holds setting run → map (λ s. s.act) (steps_of setting run) ≡ map (λ x. x.act) run
  calls_are [] is = refl
  calls_are (x ∷ earlier) is =
      ap (λ act. act ∷ map (λ (s : Step). s.act) (steps_of setting earlier))
      (sym (call_is setting (steps_of setting earlier) x.event x.act is.1.call))
      ∙ ap (λ acts. x.act ∷ acts) (calls_are earlier is.0)

  answers_are : (run : List (Moment S)) → map (λ s. s.told) (steps_of setting run) ≡ map (λ x. x.told) run
  answers_are [] = refl
  answers_are (x ∷ earlier) = ap (λ told. x.told ∷ told) (answers_are earlier)

pub is_history : {S : Type 0} (Holds : S → Registers → Type 0) (setting : Setting) → IsHistoryOf Holds setting
is_history Holds setting run is =
    record {
      is = are_admitted Holds setting run is;
      steps = steps_are Holds setting run is;
      calls = calls_are Holds setting run is;
      answers = answers_are Holds setting run;
    }

pub is_replayed : {S : Type 0} (Holds : S → Registers → Type 0) (setting : Setting) → IsReplayed Holds setting
is_replayed {S = S} Holds setting run is few =
    admitted_is_history setting (events_in run) (are_admitted Holds setting run is)
    (subst (λ n. n ≤ 2 ^ 26) (sym (length-map run (λ (x : Moment S). x.event))) few)
