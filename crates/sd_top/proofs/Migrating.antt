-- The migration law: what a command answers is carried from a network with one version to the same with another, file by file.
use Rattle.std.proofs.Common.{◌≡◌, ℕ, List, [], ◌∷◌, map, Option, Some, None, Result, Ok, Err, ap, sym, ◌∙◌, subst, arith}
use Rattle.std.specs.Prelude.{◌≢◌, All}
use Rattle.serde_json.specs.Data.{Data}
use Rattle.sd_plan.specs.topo.Network.{Network}
use Rattle.sd_plan.proofs.topo.Versions.{with_version}
use Rattle.sd_plan.specs.declared.Absent.{Absent}
use Rattle.sd_plan.specs.declared.Plan.{Plan}
use Rattle.sd_plan.specs.Plans.{nothing_absent}
use Rattle.sd_plantext.specs.Reading.{tree_of}
use Rattle.sd_plantext.specs.declared.fault.PlanFault.{PlanFault}
use Rattle.sd_plantext.proofs.Versions.{plan_of-with_version, absent_of-with_version, plan_text-with_version}
use Rattle.sd_checker.specs.declared.Verdict.{Verdict}
use Rattle.sd_checker.specs.declared.Verdict.TheVariants.{Accepted, Refused}
use Rattle.sd_checker.proofs.Versions.{accepted_line-with_version, refused_line-with_version, IsVerdict-with_version}
use Rattle.sd_drill.specs.declared.Budget.{Budget}
use Rattle.sd_drill.proofs.Versions.{IsDrill-with_version}
use Rattle.sd_files.specs.planfiles.PlanFiles.{AfterJudged, AfterPlan, AfterVerdict}
use Rattle.sd_planner.proofs.Versions.{IsGreedy-with_version}
use Rattle.sd_files.specs.Answering.{Allowed, After}
use Rattle.sd_files.specs.Inputs.{topology_of, in_file, plan_in_file, absent_in_file}
use Rattle.sd_files.specs.Texts.{Texts}
use Rattle.sd_files.specs.declared.Status.{Status}
use Rattle.sd_files.specs.declared.command_error.FileFault.TheVariants as fault
use Rattle.sd_files.specs.declared.command_error.Input.TheVariants as input
use Rattle.sd_files.specs.declared.command_error.Refusal.{Refusal}
use Rattle.sd_files.specs.work.Works.{IsOutcome}
use Rattle.sd_commands.specs.twoway.Twoways.{twoway_work}
use Rattle.sd_commands.specs.replay.Replays.{IsOrder, IsReplay}
use Rattle.sd_commands.proofs.replay.Migrating.{order_with_version, replay_with_version}
use Rattle.sd_top.specs.Checks.{IsCheck, IsJudged, verdict_text}
use Rattle.sd_top.specs.Drills.{IsDrill, IsDrilled}
use Rattle.sd_top.specs.Migration.{IsMigrated, IsMigration}
use Rattle.sd_top.specs.Plannings.{IsPlanning, IsPlanOf, IsRenewal, planned_text, first_root, renewed_root}
use Rattle.sd_top.specs.Promise.{Answers}
use Rattle.sd_top.specs.Twoways.{IsTwoway}
use Rattle.sd_top.specs.Versions.{MigrationLaw}
use Rattle.sd_top.specs.Words.{Command, File, OfTopology, OfPlan, OfAbsent, OfExchanges, files_of, name_of, plans_and_schedule}
use Rattle.sd_top.proofs.Staying.{plans_stay, schedule_stays}
use Rattle.sd_top.specs.Words.Command.{Solo, Plan as PlanOf, Check, Renew, Replay, Case, Migrate, Order, Twoway, Drill}

-- what comes after a file that says the same
after_carried : {X : Type 0} (before after : Result X Refusal) (Then Later : X → Allowed) (bytes : List ℕ) (status : Status) → before ≡ after
    → ((x : X) → Then x bytes status → Later x bytes status) → After before Then bytes status
    → After after Later bytes status
after_carried {X = X} before after Then Later bytes status same carried written =
    subst (λ (s : Result X Refusal). After s Later bytes status) same (by before written)
  where
    by : (says : Result X Refusal) → After says Then bytes status → After says Later bytes status
    by (Ok x) h = carried x h
    by (Err why) h = h

-- after a topology that is read with another version
topology_carried : (text other : List ℕ) (old new : Network) (Then Later : Network → Allowed) (bytes : List ℕ) (status : Status) → topology_of text ≡ Ok old
    → topology_of other ≡ Ok new → (Then old bytes status → Later new bytes status)
    → After (topology_of text) Then bytes status → After (topology_of other) Later bytes status
topology_carried text other old new Then Later bytes status reads rereads carried written =
    subst (λ (s : Result Network Refusal). After s Later bytes status) (sym rereads)
    (carried (subst (λ (s : Result Network Refusal). After s Then bytes status) reads written))

module _ (v w : ℕ) (net : Network) where
  plan_file : (place : ℕ) (text : List ℕ) → plan_in_file (with_version v net) place text ≡ plan_in_file (with_version w net) place text
  plan_file place text =
      ap (λ (meaning : Option Data → Result Plan PlanFault). in_file (input.Plan place) fault.Plan (λ t. meaning (tree_of t)) text)
      (plan_of-with_version v w net)

  absent_file : (text : List ℕ) → absent_in_file (with_version v net) text ≡ absent_in_file (with_version w net) text
  absent_file text =
      ap (λ (meaning : Option Data → Result Absent PlanFault). in_file input.Absent fault.Plan (λ t. meaning (tree_of t)) text) (absent_of-with_version v w net)

  verdict_line : (verdict : Verdict) → verdict_text (with_version v net) verdict ≡ verdict_text (with_version w net) verdict
  verdict_line Accepted = accepted_line-with_version v w net
  verdict_line (Refused breach) = refused_line-with_version v w net 1 breach

  judged_carried : (plan : Plan) (bytes : List ℕ) (status : Status) → IsJudged (with_version v net) plan bytes status
      → IsJudged (with_version w net) plan bytes status
  judged_carried plan bytes status (verdict, says, printed, answered) =
      (verdict, IsVerdict-with_version v w net plan verdict says, printed ∙ verdict_line verdict, answered)

  verdict_carried : (plan : Plan) (budget : Budget) (verdict : Verdict) (bytes : List ℕ) (status : Status)
      → AfterVerdict (with_version v net) 1 verdict (IsDrilled (with_version v net) budget plan) bytes status
      → AfterVerdict (with_version w net) 1 verdict (IsDrilled (with_version w net) budget plan) bytes status
  verdict_carried plan budget Accepted bytes status (is, done) = (IsDrill-with_version v w net plan budget bytes is, done)
  verdict_carried plan budget (Refused breach) bytes status (printed, answered) = (printed ∙ refused_line-with_version v w net 1 breach, answered)

  drilled_carried : (budget : Budget) (plan : Plan) (bytes : List ℕ) (status : Status)
      → AfterJudged (with_version v net) 1 plan (IsDrilled (with_version v net) budget plan) bytes status
      → AfterJudged (with_version w net) 1 plan (IsDrilled (with_version w net) budget plan) bytes status
  drilled_carried budget plan bytes status (verdict, says, told) =
      (verdict, IsVerdict-with_version v w net plan verdict says, verdict_carried plan budget verdict bytes status told)

  planned_line : (plan : Plan) (verdict : Verdict) → planned_text (with_version v net) plan verdict ≡ planned_text (with_version w net) plan verdict
  planned_line plan Accepted = plan_text-with_version v w net plan
  planned_line plan (Refused breach) = refused_line-with_version v w net 1 breach

  planning_carried : (root : ℕ) (absent : Absent) (bytes : List ℕ) (status : Status) → IsPlanning (with_version v net) root absent bytes status
      → IsPlanning (with_version w net) root absent bytes status
  planning_carried root absent bytes status (plan, verdict, greedy, says, printed, answered) = (
    plan,
    verdict,
    IsGreedy-with_version v w net root absent plan greedy,
    IsVerdict-with_version v w net plan verdict says,
    printed
        ∙ planned_line plan verdict,
    answered,
  )

  module _ (text other : List ℕ) (reads : topology_of text ≡ Ok (with_version v net)) (rereads : topology_of other ≡ Ok (with_version w net)) (bytes : List ℕ)
      (status : Status) where
    migration_stays : IsMigration text bytes status → IsMigration other bytes status
    migration_stays written =
        topology_carried text other (with_version v net) (with_version w net) IsMigrated IsMigrated bytes status reads rereads (λ h. h) written

    plan_stays : IsPlanOf text bytes status → IsPlanOf other bytes status
    plan_stays written =
        topology_carried text other (with_version v net) (with_version w net) (λ n. IsPlanning n (first_root n) nothing_absent)
        (λ n. IsPlanning n (first_root n) nothing_absent) bytes status reads rereads
        (planning_carried (first_root net) nothing_absent bytes status) written

    check_stays : (plan plan' : List ℕ) → plan' ≡ plan → IsCheck text plan bytes status → IsCheck other plan' bytes status
    check_stays plan plan' same written =
        subst (λ (p : List ℕ). IsCheck other p bytes status) (sym same)
        (
        topology_carried text other (with_version v net) (with_version w net) (λ n. After (plan_in_file n 1 plan) (IsJudged n))
        (λ n. After (plan_in_file n 1 plan) (IsJudged n)) bytes status reads rereads
        (
        after_carried (plan_in_file (with_version v net) 1 plan) (plan_in_file (with_version w net) 1 plan) (IsJudged (with_version v net))
        (IsJudged (with_version w net)) bytes status (plan_file 1 plan)
        (λ p. judged_carried p bytes status)
        )
        written
        )

    -- a network's version is in nothing that is said of exchanges
    twoway_stays : (exchanges exchanges' : List ℕ) → exchanges' ≡ exchanges → IsTwoway text exchanges bytes status → IsTwoway other exchanges' bytes status
    twoway_stays exchanges exchanges' same written =
        subst (λ (x : List ℕ). IsTwoway other x bytes status) (sym same)
        (topology_carried text other (with_version v net) (with_version w net) (λ n. IsOutcome (twoway_work n) exchanges)
        (λ n. IsOutcome (twoway_work n) exchanges) bytes status reads rereads (λ h. h) written)

    drill_stays : (budget : Budget) (plan plan' : List ℕ) → plan' ≡ plan → IsDrill text plan budget bytes status → IsDrill other plan' budget bytes status
    drill_stays budget plan plan' same written =
        subst (λ (p : List ℕ). IsDrill other p budget bytes status) (sym same)
        (
        topology_carried text other (with_version v net) (with_version w net) (λ n. AfterPlan n 1 plan (IsDrilled n budget))
        (λ n. AfterPlan n 1 plan (IsDrilled n budget)) bytes status reads rereads
        (
        after_carried (plan_in_file (with_version v net) 1 plan) (plan_in_file (with_version w net) 1 plan)
        (λ p. AfterJudged (with_version v net) 1 p (IsDrilled (with_version v net) budget p))
        (λ p. AfterJudged (with_version w net) 1 p (IsDrilled (with_version w net) budget p)) bytes status (plan_file 1 plan)
        (λ p. drilled_carried budget p bytes status)
        )
        written
        )

    renewal_over : (plan absent : List ℕ) → IsRenewal text plan absent bytes status → IsRenewal other plan absent bytes status
    renewal_over plan absent written =
        topology_carried text other (with_version v net) (with_version w net)
        (λ n. After (plan_in_file n 1 plan) (λ old. After (absent_in_file n absent) (λ left. IsPlanning n (renewed_root old left) left)))
        (λ n. After (plan_in_file n 1 plan) (λ old. After (absent_in_file n absent) (λ left. IsPlanning n (renewed_root old left) left))) bytes status reads
        rereads
        (
        after_carried (plan_in_file (with_version v net) 1 plan) (plan_in_file (with_version w net) 1 plan)
        (λ old. After (absent_in_file (with_version v net) absent) (λ left. IsPlanning (with_version v net) (renewed_root old left) left))
        (λ old. After (absent_in_file (with_version w net) absent) (λ left. IsPlanning (with_version w net) (renewed_root old left) left)) bytes status
        (plan_file 1 plan)
        (
        λ old. after_carried (absent_in_file (with_version v net) absent) (absent_in_file (with_version w net) absent)
        (λ left. IsPlanning (with_version v net) (renewed_root old left) left)
        (λ left. IsPlanning (with_version w net) (renewed_root old left) left) bytes status (absent_file absent)
        (λ left. planning_carried (renewed_root old left) left bytes status)
        )
        )
        written

    renewal_stays : (plan plan' absent absent' : List ℕ) → plan' ≡ plan → absent' ≡ absent → IsRenewal text plan absent bytes status
        → IsRenewal other plan' absent' bytes status
    renewal_stays plan plan' absent absent' same_plan same_absent written =
        subst (λ (p : List ℕ). IsRenewal other p absent' bytes status) (sym same_plan)
        (subst (λ (a : List ℕ). IsRenewal other plan a bytes status) (sym same_absent) (renewal_over plan absent written))

-- a command over its files
module _ (topology : List ℕ) (before after : Texts) (net : Network) (v w : ℕ) (reads : topology_of (before topology) ≡ Ok (with_version v net))
    (rereads : topology_of (after topology) ≡ Ok (with_version w net))
    (elsewhere : (other : List ℕ) → other ≢ topology → after other ≡ before other) (bytes : List ℕ) (status : Status) where
  reads_at : (name : List ℕ) → name ≡ topology → topology_of (before name) ≡ Ok (with_version v net)
  reads_at name same = subst (λ (t : List ℕ). topology_of (before t) ≡ Ok (with_version v net)) (sym same) reads

  rereads_at : (name : List ℕ) → name ≡ topology → topology_of (after name) ≡ Ok (with_version w net)
  rereads_at name same = subst (λ (t : List ℕ). topology_of (after t) ≡ Ok (with_version w net)) (sym same) rereads

  -- a command over plans and a schedule, which are the files after its topology
  schedule_stays_over : (Writes : (topology : List ℕ) (plans : List (List ℕ)) (schedule : List ℕ) → Allowed) (text other : List ℕ)
      → ((plans : List (List ℕ)) (schedule : List ℕ) → Writes text plans schedule bytes status → Writes other plans schedule bytes status)
      → (plans : List (List ℕ)) (schedule : List ℕ) (others : List File) → others ≡ plans_and_schedule plans schedule
      → All (λ file. name_of file ≢ topology) others → Writes text (map before plans) (before schedule) bytes status
      → Writes other (map after plans) (after schedule) bytes status
  schedule_stays_over Writes text other carried plans schedule others are apart written =
      let apart_all = subst (λ (fs : List File). All (λ file. name_of file ≢ topology) fs) are apart in
      subst (λ (p : List (List ℕ)). Writes other p (after schedule) bytes status) (sym (plans_stay topology before after elsewhere schedule plans apart_all))
      (
      subst (λ (s : List ℕ). Writes other (map before plans) s bytes status) (sym (schedule_stays topology before after elsewhere schedule plans apart_all))
      (carried (map before plans) (before schedule) written)
      )

  answers_stay : (command : Option Command) (others : List File) → files_of command ≡ OfTopology topology ∷ others
      → All (λ file. name_of file ≢ topology) others → Answers command before bytes status → Answers command after bytes status
  answers_stay None others files apart written = cc
  answers_stay (Some (Solo schedule)) others files apart written = cc
  answers_stay (Some (PlanOf name)) others files apart written =
      let same : name ≡ topology = cc in
      plan_stays v w net (before name) (after name) (reads_at name same) (rereads_at name same) bytes status written
  answers_stay (Some (Check name plan)) others files apart written =
      let same : name ≡ topology = cc in
      let rest : others ≡ OfPlan plan ∷ [] = cc in
      let elsewhere_all = subst (λ (fs : List File). All (λ file. name_of file ≢ topology) fs) rest apart in
      check_stays v w net (before name) (after name) (reads_at name same) (rereads_at name same) bytes status (before plan) (after plan)
      (elsewhere plan (elsewhere_all 0 (OfTopology []) (omega arith))) written
  answers_stay (Some (Renew name plan absent)) others files apart written =
      let same : name ≡ topology = cc in
      let rest : others ≡ OfPlan plan ∷ OfAbsent absent ∷ [] = cc in
      let elsewhere_all = subst (λ (fs : List File). All (λ file. name_of file ≢ topology) fs) rest apart in
      renewal_stays v w net (before name) (after name) (reads_at name same) (rereads_at name same) bytes status (before plan) (after plan) (before absent)
      (after absent) (elsewhere plan (elsewhere_all 0 (OfTopology []) (omega arith)))
      (elsewhere absent (elsewhere_all 1 (OfTopology []) (omega arith))) written
  answers_stay (Some (Replay name plans schedule)) others files apart written =
      let same : name ≡ topology = cc in
      let rest : others ≡ plans_and_schedule plans schedule = cc in
      schedule_stays_over IsReplay (before name) (after name)
      (λ ps s. replay_with_version v w net (before name) (after name) (reads_at name same) (rereads_at name same) ps s bytes status) plans schedule others
      rest apart written
  answers_stay (Some (Case number fabric)) others files apart written = cc
  answers_stay (Some (Migrate name)) others files apart written =
      let same : name ≡ topology = cc in
      migration_stays v w net (before name) (after name) (reads_at name same) (rereads_at name same) bytes status written
  answers_stay (Some (Order name plans schedule)) others files apart written =
      let same : name ≡ topology = cc in
      let rest : others ≡ plans_and_schedule plans schedule = cc in
      schedule_stays_over IsOrder (before name) (after name)
      (λ ps s. order_with_version v w net (before name) (after name) (reads_at name same) (rereads_at name same) ps s bytes status) plans schedule others
      rest apart written
  answers_stay (Some (Twoway name exchanges)) others files apart written =
      let same : name ≡ topology = cc in
      let rest : others ≡ OfExchanges exchanges ∷ [] = cc in
      let elsewhere_all = subst (λ (fs : List File). All (λ file. name_of file ≢ topology) fs) rest apart in
      twoway_stays v w net (before name) (after name) (reads_at name same) (rereads_at name same) bytes status (before exchanges) (after exchanges)
      (elsewhere exchanges (elsewhere_all 0 (OfTopology []) (omega arith))) written
  answers_stay (Some (Drill name plan budget)) others files apart written =
      let same : name ≡ topology = cc in
      let rest : others ≡ OfPlan plan ∷ [] = cc in
      let elsewhere_all = subst (λ (fs : List File). All (λ file. name_of file ≢ topology) fs) rest apart in
      drill_stays v w net (before name) (after name) (reads_at name same) (rereads_at name same) bytes status budget (before plan) (after plan)
      (elsewhere plan (elsewhere_all 0 (OfTopology []) (omega arith))) written

pub migration_law : MigrationLaw
migration_law command topology others files apart before after rewritten bytes status = (
  answers_stay topology before after rewritten.network rewritten.network.version 2 rewritten.reads rewritten.rereads rewritten.elsewhere bytes status command
      others files apart,
  answers_stay topology after before rewritten.network 2 rewritten.network.version rewritten.rereads rewritten.reads
      (λ other unlike. sym (rewritten.elsewhere other unlike)) bytes status command others files apart,
)
