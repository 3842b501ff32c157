-- The laws of what `replay` and `order` write: one answer, the status of right files, and reports that tell truly.
use Rattle.std.proofs.Common.{◌≡◌, ℕ, suc, ◌+◌, Bool, true, false, List, [], ◌∷◌, ◌++◌, None, Result, Ok, Err, refl, inl, inr, sym, ap, ◌∙◌, subst, append_assoc, append-nil}
use Rattle.std.specs.Prelude.{◌⊎◌}
use Rattle.sd_plan.specs.topo.Network.{Network, Each}
use Rattle.sd_plan.specs.declared.Plan.{Plan}
use Rattle.sd_checker.specs.Verdicts.{IsVerdict}
use Rattle.sd_checker.specs.Conditions.{IsAccepted}
use Rattle.sd_checker.specs.declared.Verdict.{Verdict}
use Rattle.sd_checker.specs.declared.Verdict.TheVariants.{Accepted, Refused}
use Rattle.sd_checker.proofs.Exclusive.{accepted_unbroken}
use Rattle.sd_checker.proofs.Unique.{one_verdict}
use Rattle.sd_sched.specs.declared.Event.{Event}
use Rattle.sd_history.specs.World.{Setting, setting_over}
use Rattle.sd_history.specs.Chronicle.{chronicle}
use Rattle.sd_replay.specs.Tallies.{shows_trouble, tally_of}
use Rattle.sd_files.specs.Answering.{Allowed, After}
use Rattle.sd_files.specs.Inputs.{topology_of, plan_in_file}
use Rattle.sd_files.specs.declared.Status.{Status}
use Rattle.sd_files.specs.declared.Status.TheVariants.{Done, Broken}
use Rattle.sd_files.specs.declared.command_error.Refusal.{Refusal}
use Rattle.sd_files.specs.planfiles.PlanFiles.{AfterAllPlans, AfterJudged, AfterPlans, AfterVerdict, AreRead}
use Rattle.sd_files.specs.work.Works.{Reading, Work, IsOutcome, reading, status_for}
use Rattle.sd_files.specs.Single.{IsOne}
use Rattle.sd_files.proofs.Single.{judged_one}
use Rattle.sd_commands.specs.replay.Promises.{Completes, ReportsTruly}
use Rattle.sd_commands.specs.replay.Replays.{IsOrder, IsReplay, IsRun, order_work, replay_work, shows_disorder, status_if}
use Rattle.sd_commands.specs.replay.Loaded.{AreLoaded}
use Rattle.sd_commands.proofs.replay.Reading.{history_tells, read_as_replay, reading_is_history}

-- One answer

after_one : {X : Type 0} (says : Result X Refusal) (Then : X → Allowed) → ((x : X) → IsOne (Then x)) → IsOne (After says Then)
after_one (Ok x) Then one bytes other status also is too = one x bytes other status also is too
after_one (Err why) Then one bytes other status also (printed, answered) (printed', answered') = (answered ∙ sym answered', printed ∙ sym printed')

plans_one : (net : Network) (place : ℕ) (front : List Plan) (texts : List (List ℕ)) (Then : List Plan → Allowed) → ((plans : List Plan) → IsOne (Then plans))
    → IsOne (AfterPlans net place front texts Then)
plans_one net place front [] Then one bytes other status also is too = one front bytes other status also is too
plans_one net place front (text ∷ texts) Then one bytes other status also is too =
    after_one (plan_in_file net place text) (λ plan. AfterJudged net place plan (AfterPlans net (place + 1) (front ++ plan ∷ []) texts Then))
    (λ plan. judged_one net place plan (AfterPlans net (place + 1) (front ++ plan ∷ []) texts Then)
    (plans_one net (place + 1) (front ++ plan ∷ []) texts Then one)) bytes other status also is too

one_run : (work : Setting → Work Event) (topology : List ℕ) (plans : List (List ℕ)) (schedule : List ℕ) → IsOne (IsRun work topology plans schedule)
one_run work topology plans schedule bytes other status also is too =
    after_one (topology_of topology) (λ net. AfterAllPlans net plans (λ accepted. IsOutcome (work (setting_over net accepted)) schedule))
    (λ net. plans_one net 1 [] plans (λ accepted. IsOutcome (work (setting_over net accepted)) schedule)
    (λ accepted b o s a (printed, answered) (printed', answered'). (answered ∙ sym answered', printed ∙ sym printed'))) bytes other status also is too

pub one_replay : (topology : List ℕ) (plans : List (List ℕ)) (schedule : List ℕ) → IsOne (IsReplay topology plans schedule)
one_replay topology plans schedule bytes other status also is too = one_run replay_work topology plans schedule bytes other status also is too

pub one_order : (topology : List ℕ) (plans : List (List ℕ)) (schedule : List ℕ) → IsOne (IsOrder topology plans schedule)
one_order topology plans schedule bytes other status also is too = one_run order_work topology plans schedule bytes other status also is too

-- Right files

-- what is written of plans that were read and accepted is what follows them
pub behind_plans : (net : Network) (place : ℕ) (front plans : List Plan) (texts : List (List ℕ)) (Then : List Plan → Allowed) (bytes : List ℕ) (status : Status)
    → AreRead net place texts plans → Each (IsAccepted net) plans
    → AfterPlans net place front texts Then bytes status → Then (front ++ plans) bytes status
behind_plans net place front [] [] Then bytes status read accepted written = subst (λ (ps : List Plan). Then ps bytes status) (sym (append-nil front)) written
behind_plans net place front (plan ∷ plans) [] Then bytes status read accepted written = absurd read
behind_plans net place front [] (text ∷ texts) Then bytes status read accepted written = absurd read
behind_plans net place front (plan ∷ plans) (text ∷ texts) Then bytes status read accepted written =
    let Next : Plan → Allowed = λ p. AfterPlans net (place + 1) (front ++ p ∷ []) texts Then in
    let (verdict, says, told) = subst (λ (s : Result Plan Refusal). After s (λ p. AfterJudged net place p (Next p)) bytes status) read.0 written in
    subst (λ (ps : List Plan). Then ps bytes status) (append_assoc front (plan ∷ []) plans)
    (by verdict says told (behind_plans net (place + 1) (front ++ plan ∷ []) plans texts Then bytes status read.1 (λ i x is. accepted (suc i) x is)))
  where
    by : (verdict : Verdict) → IsVerdict net plan verdict
        → AfterVerdict net place verdict (AfterPlans net (place + 1) (front ++ plan ∷ []) texts Then) bytes status
        → (AfterPlans net (place + 1) (front ++ plan ∷ []) texts Then bytes status → Then ((front ++ plan ∷ []) ++ plans) bytes status)
        → Then ((front ++ plan ∷ []) ++ plans) bytes status
    by Accepted says told next = next told
    by (Refused breach) says told next = absurd (accepted_unbroken net plan breach (accepted 0 plan refl) says)

-- over files that were read and accepted the outcome is that of the schedule
pub run_over : (work : Setting → Work Event) (topology : List ℕ) (plans : List (List ℕ)) (schedule : List ℕ) (setting : Setting) (bytes : List ℕ)
    (status : Status) → AreLoaded topology plans setting → IsRun work topology plans schedule bytes status
    → IsOutcome (work setting) schedule bytes status
run_over work topology plans schedule setting bytes status loaded written =
    let Then : Network → List Plan → Allowed = λ net accepted. IsOutcome (work (setting_over net accepted)) schedule in
    behind_plans setting.net 1 [] setting.plans plans (Then setting.net) bytes status loaded.plans_are loaded.accepted
    (subst (λ (s : Result Network Refusal). After s (λ net. AfterAllPlans net plans (Then net)) bytes status) loaded.topology_is written)

either : (trouble : Bool) (status : Status) → status ≡ status_if trouble → (status ≡ Done) ⊎ (status ≡ Broken)
either true status is = inr is
either false status is = inl is

pub replay_completes : Completes IsReplay
replay_completes topology plans schedule right bytes status written =
    let work = replay_work right.setting in
    let (printed, answered) = run_over replay_work topology plans schedule right.setting bytes status right.loaded written in
    either (shows_trouble (tally_of right.setting (chronicle right.setting (reading work schedule).taken))) status
    (answered ∙ ap (status_for work (reading work schedule).taken) right.unrefused)

pub order_completes : Completes IsOrder
order_completes topology plans schedule right bytes status written =
    let work = order_work right.setting in
    let (printed, answered) = run_over order_work topology plans schedule right.setting bytes status right.loaded written in
    let unrefused : (reading work schedule).refused ≡ None = ap (λ (r : Reading Event). r.refused) (read_as_replay right.setting schedule) ∙ right.unrefused in
    either (shows_disorder right.setting (chronicle right.setting (reading work schedule).taken)) status
    (answered ∙ ap (status_for work (reading work schedule).taken) unrefused)

-- Reports

pub reports_truly : (topology : List ℕ) (plans : List (List ℕ)) (schedule : List ℕ) (setting : Setting) → AreLoaded topology plans setting
    → ReportsTruly setting (reading (replay_work setting) schedule).taken
reports_truly topology plans schedule setting loaded =
    history_tells setting (reading (replay_work setting) schedule).taken (reading_is_history setting schedule)

pub order_reports_truly : (topology : List ℕ) (plans : List (List ℕ)) (schedule : List ℕ) (setting : Setting) → AreLoaded topology plans setting
    → ReportsTruly setting (reading (order_work setting) schedule).taken
order_reports_truly topology plans schedule setting loaded =
    subst (λ (r : Reading Event). ReportsTruly setting r.taken) (sym (read_as_replay setting schedule)) (reports_truly topology plans schedule setting loaded)
