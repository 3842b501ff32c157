-- The sentences of the headline hold of all that `replay` and `order` may write, whatever their files say.
use Rattle.std.specs.Prelude.{◌≡◌, ℕ, ◌+◌, ◌^◌, ◌≤◌, Bool, true, false, List, [], ◌∷◌, ◌++◌, length, count_by, nat_lt, Option, None, Some, Result, Ok, Err, refl, if◌then◌else◌}
use Rattle.std.proofs.Common.{arith, sym, ap, ◌∙◌, subst, length-append}
use Rattle.sd_plan.specs.topo.Network.{Network, Each}
use Rattle.sd_plan.specs.topo.Limits.{IsNetwork}
use Rattle.sd_topotext.specs.Meaning.{network_of}
use Rattle.sd_topotext.specs.Reading.{tree_of as toml_of}
use Rattle.sd_topotext.proofs.Meant.{meant_is_network}
use Rattle.sd_plan.specs.Plans.{Fits}
use Rattle.sd_plan.specs.declared.Plan.{Plan}
use Rattle.serde_json.specs.Data.{Data}
use Rattle.sd_plantext.specs.Meaning.{plan_of}
use Rattle.sd_plantext.specs.Reading.{tree_of as json_of}
use Rattle.sd_plantext.proofs.Sound.{plan_ok}
use Rattle.sd_checker.specs.Text.{refused_line}
use Rattle.sd_checker.specs.Verdicts.{IsVerdict}
use Rattle.sd_checker.specs.Conditions.{IsAccepted}
use Rattle.sd_checker.specs.declared.Breach.{Breach}
use Rattle.sd_checker.specs.declared.Verdict.{Verdict}
use Rattle.sd_checker.specs.declared.Verdict.TheVariants.{Accepted, Refused}
use Rattle.sd_files.specs.Answering.{Allowed, After}
use Rattle.sd_files.specs.Inputs.{refused_for, in_file, topology_of, plan_in_file}
use Rattle.sd_files.specs.Reasons.{refusal_line}
use Rattle.sd_files.specs.declared.Status.{Status}
use Rattle.sd_files.specs.declared.command_error.FileFault.{FileFault}
use Rattle.sd_files.specs.declared.command_error.FileFault.TheVariants as fault
use Rattle.sd_files.specs.declared.command_error.Input.{Input}
use Rattle.sd_files.specs.declared.command_error.Input.TheVariants as input
use Rattle.sd_files.specs.declared.command_error.Refusal.{Refusal}
use Rattle.sd_files.specs.planfiles.PlanFiles.{AfterVerdict, AfterJudged, AfterPlans, AfterAllPlans}
use Rattle.sd_files.proofs.planfiles.Reading.{each_more}
use Rattle.sd_sched.specs.declared.Event.{Event}
use Rattle.sd_history.specs.World.{Setting, setting_over}
use Rattle.sd_files.specs.work.Works.{Work, IsOutcome}
use Rattle.sd_headline.specs.Headlines.{whole_lines, none_before, is_alarm, is_broken, is_interval_alarm, is_disorder, is_dishonest, no_early_alarm, no_early_interval, no_early_disorder}
use Rattle.sd_headline.specs.Runs.{IsRunOf}
use Rattle.sd_headline.specs.Works.{PrintsEvents, PrintsWaits}
use Rattle.sd_headline.proofs.Behind.{none_at_all}
use Rattle.sd_headline.proofs.Quiet.{IsQuiet}
use Rattle.sd_headline.proofs.Refused.{refusal_quiet, breach_quiet}
use Rattle.sd_headline.proofs.Sentences.{events_keep_interval, events_keep_alarm, waits_keep_interval, waits_keep_alarm, waits_keep_order}
use Rattle.sd_headline.proofs.Texts.{lines_are}

-- Files

-- what a file says is what its text means
file_says : {X F : Type 0} (file : Input) (Fault : F → FileFault) (meaning : List ℕ → Result X F) (text : List ℕ) (x : X)
    → in_file file Fault meaning text ≡ Ok x → meaning text ≡ Ok x
unfolding in_file
file_says {X} {F} file Fault meaning text x same = by (nat_lt (2 ^ 26) (length text)) (meaning text) same
  where
    by : (long : Bool) (means : Result X F) → (if long then Err (record { input = file; fault = fault.TooLong }) else refused_for file Fault means) ≡ Ok x
        → means ≡ Ok x
    by true means same = cc
    by false (Ok y) same = cc
    by false (Err why) same = cc

-- the network of a topology's text
pub text_is_network : (text : List ℕ) (net : Network) → topology_of text ≡ Ok net → IsNetwork net
text_is_network text net same = meant_is_network (toml_of text) net (file_says input.Topology fault.Topology (λ t. network_of (toml_of t)) text net same)

pub plan_fits : (net : Network) (place : ℕ) (text : List ℕ) (plan : Plan) → plan_in_file net place text ≡ Ok plan → Fits net plan
unfolding plan_of
plan_fits net place text plan same = by (json_of text) (file_says (input.Plan place) fault.Plan (λ t. plan_of net (json_of t)) text plan same)
  where
    by : (tree : Option Data) → plan_of net tree ≡ Ok plan → Fits net plan
    by None same = cc
    by (Some d) same = plan_ok net d plan same

-- What is said of lines of refusals, and of what may be written after files that are not refused, is said of all that may be written.
module _ (Says : List ℕ → Type 0) (bytes : List ℕ) (status : Status) (refused : (why : Refusal) → Says (refusal_line why)) where
  after_file : {X : Type 0} (says : Result X Refusal) (Then : X → Allowed) → ((x : X) → says ≡ Ok x → Then x bytes status → Says bytes)
      → After says Then bytes status → Says bytes
  after_file (Ok x) Then behind written = behind x refl written
  after_file (Err why) Then behind written = subst Says (sym written.0) (refused why)

  module _ (net : Network) (breached : (place : ℕ) (breach : Breach) → Says (refused_line net place breach)) where
    after_verdict : (place : ℕ) (plan : Plan) (verdict : Verdict) (Then : Allowed) → IsVerdict net plan verdict
        → (IsAccepted net plan → Then bytes status → Says bytes) → AfterVerdict net place verdict Then bytes status → Says bytes
    after_verdict place plan Accepted Then is behind written = behind is written
    after_verdict place plan (Refused breach) Then is behind written = subst Says (sym written.0) (breached place breach)

    after_plans : (place : ℕ) (front : List Plan) (texts : List (List ℕ)) (Then : List Plan → Allowed) → Each (Fits net) front → Each (IsAccepted net) front
        → ((plans : List Plan) → length front + length texts ≡ length plans → Each (Fits net) plans → Each (IsAccepted net) plans → Then plans bytes status
        → Says bytes) → AfterPlans net place front texts Then bytes status → Says bytes
    after_plans place front [] Then fit accepted behind written = behind front (omega arith) fit accepted written
    after_plans place front (text ∷ texts) Then fit accepted behind written =
        after_file (plan_in_file net place text) (λ plan. AfterJudged net place plan (AfterPlans net (place + 1) (front ++ plan ∷ []) texts Then))
        (λ plan same judged.
        after_verdict place plan judged.0 (AfterPlans net (place + 1) (front ++ plan ∷ []) texts Then) judged.1
        (λ is. after_plans (place + 1) (front ++ plan ∷ []) texts Then
        (each_more (Fits net) front (front ++ plan ∷ []) plan fit (plan_fits net place text plan same) refl)
        (each_more (IsAccepted net) front (front ++ plan ∷ []) plan accepted is refl)
        (λ plans count. behind plans (let longer = length-append front (plan ∷ []) in omega (arith, longer, count))))
        judged.2) written

-- Runs

-- what is said of lines of refusals, and of the reading of a schedule over each fair setting, is said of all that a run may write
run_says : (Says : List ℕ → Type 0) (work : Setting → Work Event) (topology : List ℕ) (plans : List (List ℕ)) (schedule : List ℕ) (bytes : List ℕ)
    (status : Status)
    → ((text : List ℕ) → IsQuiet text → Says text)
    → ((net : Network) (accepted : List Plan) → IsNetwork net → length plans ≡ length accepted → Each (Fits net) accepted → Each (IsAccepted net) accepted
    → IsOutcome (work (setting_over net accepted)) schedule bytes status → Says bytes)
    → IsRunOf work topology plans schedule bytes status → Says bytes
run_says Says work topology plans schedule bytes status quiet outcome written =
    after_file Says bytes status (λ why. quiet (refusal_line why) (refusal_quiet why)) (topology_of topology)
    (λ net. AfterAllPlans net plans (λ accepted. IsOutcome (work (setting_over net accepted)) schedule))
    (λ net same.
    let is : IsNetwork net = text_is_network topology net same in
    after_plans Says bytes status (λ why. quiet (refusal_line why) (refusal_quiet why)) net
    (λ place breach. quiet (refused_line net place breach) (breach_quiet net is place breach)) 1 [] plans
    (λ accepted. IsOutcome (work (setting_over net accepted)) schedule) (λ i x none. cc) (λ i x none. cc)
    (λ accepted count fit accept. outcome net accepted is (omega (arith, count)) fit accept)) written

passes_quietly : (bad first : List ℕ → Bool) (text : List ℕ) (quiet : IsQuiet text) → count_by bad quiet.ls ≡ 0
    → none_before bad first (whole_lines text) ≡ true
passes_quietly bad first text quiet none = ap (none_before bad first) (lines_are quiet.are) ∙ none_at_all bad first quiet.ls none

module _ (work : Setting → Work Event) (topology : List ℕ) (plans : List (List ℕ)) (schedule bytes : List ℕ) (status : Status)
    (written : IsRunOf work topology plans schedule bytes status) where
  -- Runs that print the lines of each event

  -- no alarm of an interval stands before the first line that names starts, drifts or delays as broken
  pub run_keeps_interval : ((setting : Setting) → PrintsEvents setting (work setting)) → no_early_interval bytes ≡ true
  run_keeps_interval prints =
      run_says (λ text. no_early_interval text ≡ true) work topology plans schedule bytes status
      (λ text quiet. passes_quietly is_interval_alarm is_dishonest text quiet quiet.intervals)
      (λ net accepted is count fit accept outcome. ap no_early_interval outcome.0
      ∙ events_keep_interval (setting_over net accepted) is (work (setting_over net accepted)) (prints (setting_over net accepted)) schedule) written

  -- no alarm stands before the first line of a premise
  pub run_keeps_alarm : ((setting : Setting) → PrintsEvents setting (work setting)) → 1 ≤ length plans → no_early_alarm bytes ≡ true
  run_keeps_alarm prints some =
      run_says (λ text. no_early_alarm text ≡ true) work topology plans schedule bytes status
      (λ text quiet. passes_quietly is_alarm is_broken text quiet quiet.alarms)
      (λ net accepted is count fit accept outcome.
      ap no_early_alarm outcome.0
      ∙ events_keep_alarm (setting_over net accepted) is (work (setting_over net accepted)) (prints (setting_over net accepted))
      (record { network = is; some_plan = omega (arith, count, some); fit = fit; accepted = accept }) schedule) written

  -- Runs that print the lines of commit wait after those

  pub order_keeps_interval : ((setting : Setting) → PrintsWaits setting (work setting)) → no_early_interval bytes ≡ true
  order_keeps_interval prints =
      run_says (λ text. no_early_interval text ≡ true) work topology plans schedule bytes status
      (λ text quiet. passes_quietly is_interval_alarm is_dishonest text quiet quiet.intervals)
      (λ net accepted is count fit accept outcome. ap no_early_interval outcome.0
      ∙ waits_keep_interval (setting_over net accepted) is (work (setting_over net accepted)) (prints (setting_over net accepted)) schedule) written

  pub order_keeps_alarm : ((setting : Setting) → PrintsWaits setting (work setting)) → 1 ≤ length plans → no_early_alarm bytes ≡ true
  order_keeps_alarm prints some =
      run_says (λ text. no_early_alarm text ≡ true) work topology plans schedule bytes status
      (λ text quiet. passes_quietly is_alarm is_broken text quiet quiet.alarms)
      (λ net accepted is count fit accept outcome.
      ap no_early_alarm outcome.0
      ∙ waits_keep_alarm (setting_over net accepted) is (work (setting_over net accepted)) (prints (setting_over net accepted))
      (record { network = is; some_plan = omega (arith, count, some); fit = fit; accepted = accept }) schedule) written

  -- nor does a disorder stand before the first line that names starts, drifts or delays as broken
  pub order_keeps_order : ((setting : Setting) → PrintsWaits setting (work setting)) → no_early_disorder bytes ≡ true
  order_keeps_order prints =
      run_says (λ text. no_early_disorder text ≡ true) work topology plans schedule bytes status
      (λ text quiet. passes_quietly is_disorder is_dishonest text quiet quiet.disorders)
      (λ net accepted is count fit accept outcome. ap no_early_disorder outcome.0
      ∙ waits_keep_order (setting_over net accepted) is (work (setting_over net accepted)) (prints (setting_over net accepted)) schedule) written
