-- By which writes a run writes: by one before its schedule, and by one for each of its steps.
use Rattle.std.proofs.Common.{◌≡◌, ℕ, ◌+◌, List, [], ◌∷◌, Result, Ok, refl, ap, ◌∙◌, subst}
use Rattle.sd_plan.specs.topo.Network.{Network}
use Rattle.sd_plan.specs.declared.Plan.{Plan}
use Rattle.sd_sched.specs.declared.Event.{Event}
use Rattle.sd_history.specs.World.{Setting, setting_over}
use Rattle.sd_io.specs.outside.Pieces.{Pieces}
use Rattle.std.specs.List.{concat}
use Rattle.sd_files.specs.Answering.{AtOnce, InWrites, After}
use Rattle.sd_files.specs.Inputs.{topology_of, plan_in_file}
use Rattle.sd_files.specs.declared.Status.{Status}
use Rattle.sd_files.specs.declared.command_error.Refusal.{Refusal}
use Rattle.sd_files.specs.planfiles.PlanFiles.{AfterAllPlans, AreRead}
use Rattle.sd_files.specs.planfiles.Refusing.{Nothing}
use Rattle.sd_files.specs.work.Works.{Work, InSteps}
use Rattle.sd_commands.specs.replay.Loaded.{AreLoaded, RunsInSteps}
use Rattle.sd_commands.specs.replay.Early.{EndsBefore}
use Rattle.sd_commands.proofs.replay.Lawful.{behind_plans}

same_said : {X : Type 0} (a b : X) (says : Result X Refusal) → says ≡ Ok a → says ≡ Ok b → a ≡ b
same_said a b says one other = cc

same_plans : (net : Network) (place : ℕ) (texts : List (List ℕ)) (plans others : List Plan) → AreRead net place texts plans → AreRead net place texts others
    → plans ≡ others
same_plans net place [] [] [] read too = refl
same_plans net place [] [] (other ∷ others) read too = absurd too
same_plans net place [] (plan ∷ plans) others read too = absurd read
same_plans net place (text ∷ texts) [] others read too = absurd read
same_plans net place (text ∷ texts) (plan ∷ plans) [] read too = absurd too
same_plans net place (text ∷ texts) (plan ∷ plans) (other ∷ others) read too =
    ap (λ (p : Plan). p ∷ plans) (same_said plan other (plan_in_file net place text) read.0 too.0)
    ∙ ap (λ (ps : List Plan). other ∷ ps) (same_plans net (place + 1) texts plans others read.1 too.1)

-- files say one setting
one_setting : (topology : List ℕ) (plans : List (List ℕ)) (one other : Setting) → AreLoaded topology plans one → AreLoaded topology plans other → one ≡ other
one_setting topology plans one other loaded too =
    let same : one.net ≡ other.net = same_said one.net other.net (topology_of topology) loaded.topology_is too.topology_is in
    let read : AreRead other.net 1 plans one.plans = subst (λ (n : Network). AreRead n 1 plans one.plans) same loaded.plans_are in
    ap (λ (n : Network). setting_over n one.plans) same ∙ ap (setting_over other.net) (same_plans other.net 1 plans one.plans other.plans read too.plans_are)

-- a command does not end before its schedule whose files were read and accepted
not_loaded : (topology : List ℕ) (plans : List (List ℕ)) (bytes : List ℕ) (status : Status) → EndsBefore topology plans bytes status → (setting : Setting)
    → AreLoaded topology plans setting → ⊥
not_loaded topology plans bytes status ends setting loaded =
    behind_plans setting.net 1 [] setting.plans plans Nothing bytes status loaded.plans_are loaded.accepted
    (subst (λ (s : Result Network Refusal). After s (λ net. AfterAllPlans net plans Nothing) bytes status) loaded.topology_is ends)

pub cut_before : (work : Setting → Work Event) (topology : List ℕ) (plans : List (List ℕ)) (schedule : List ℕ) (pieces : Pieces) (status : Status)
    → InWrites AtOnce (EndsBefore topology plans) pieces status → RunsInSteps work topology plans schedule pieces
cut_before work topology plans schedule pieces status (ends, once) =
    record { loaded = λ setting loaded. absurd (not_loaded topology plans (concat pieces) status ends setting loaded); ended = λ none. once }

pub cut_loaded : (work : Setting → Work Event) (topology : List ℕ) (plans : List (List ℕ)) (schedule : List ℕ) (pieces : Pieces) (setting : Setting)
    → AreLoaded topology plans setting → InSteps (work setting) schedule pieces → RunsInSteps work topology plans schedule pieces
cut_loaded work topology plans schedule pieces setting loaded steps =
    record {
      loaded = λ other too. subst (λ (s : Setting). InSteps (work s) schedule pieces) (one_setting topology plans setting other loaded too) steps;
      ended = λ none. absurd (none setting loaded);
    }
