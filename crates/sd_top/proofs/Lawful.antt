-- The laws of the answers.
use Rattle.std.proofs.Common.{◌≡◌, ℕ, List, Result, Ok, ap, ◌∙◌, subst}
use Rattle.sd_commands.proofs.solo.Contained.{reports_contain}
use Rattle.sd_plan.specs.topo.Network.{Network}
use Rattle.sd_plan.specs.declared.Absent.{Absent}
use Rattle.sd_plan.specs.declared.Plan.{Plan}
use Rattle.sd_plan.specs.Plans.{nothing_absent}
use Rattle.sd_checker.specs.Verdicts.{IsVerdict}
use Rattle.sd_checker.specs.Conditions.{IsAccepted}
use Rattle.sd_checker.specs.declared.Verdict.{Verdict}
use Rattle.sd_checker.specs.declared.Verdict.TheVariants.{Accepted, Refused}
use Rattle.sd_checker.proofs.Exclusive.{accepted_unbroken}
use Rattle.sd_drill.specs.declared.Budget.{Budget}
use Rattle.sd_files.specs.planfiles.PlanFiles.{AfterJudged, AfterPlan, AfterVerdict}
use Rattle.sd_planner.proofs.Single.{same_greedy}
use Rattle.sd_files.specs.Answering.{Allowed, After}
use Rattle.sd_files.specs.Inputs.{topology_of, plan_in_file, absent_in_file}
use Rattle.sd_files.specs.declared.Status.{Status}
use Rattle.sd_files.specs.declared.Status.TheVariants.{Done}
use Rattle.sd_files.specs.declared.command_error.Refusal.{Refusal}
use Rattle.sd_top.specs.Checks.{CheckCompletes, IsJudged, verdict_status}
use Rattle.sd_top.specs.Drills.{DrillCompletes, IsDrilled}
use Rattle.sd_top.specs.Laws.{Laws}
use Rattle.sd_top.specs.Migration.{IsMigrated, MigrationCompletes}
use Rattle.sd_top.specs.Plannings.{IsPlanning, IsPlannable, PlanCompletes, RenewalCompletes, first_root, renewed_root}
use Rattle.sd_files.specs.work.Works.{IsOutcome, reading, status_for}
use Rattle.sd_top.specs.Schedules.{SoloCompletes, solo_work}
use Rattle.sd_top.specs.Twoways.{TwowayCompletes}
use Rattle.sd_commands.specs.twoway.Twoways.{twoway_work}
use Rattle.sd_gen.proofs.command.Lawful.{case_completes}
use Rattle.sd_commands.proofs.replay.Lawful.{order_completes, replay_completes}
use Rattle.sd_commands.proofs.exchanges.Covering.{none_is_honest}
use Rattle.sd_top.proofs.Judged.{after_file, verdict_done}
use Rattle.sd_top.proofs.Migrating.{migration_law}
use Rattle.sd_top.proofs.Slack.{slack_keeps_plans, slack_raises_no_bound}
use Rattle.sd_top.proofs.Unique.{one_answer}

-- a greedy plan that is accepted
planning_done : (net : Network) (root : ℕ) (absent : Absent) (bytes : List ℕ) (status : Status) → IsPlannable net root absent
    → IsPlanning net root absent bytes status → status ≡ Done
planning_done net root absent bytes status right (plan, verdict, greedy, says, printed, answered) =
    verdict_done net plan verdict status (subst (IsAccepted net) (same_greedy net root absent right.plan plan right.greedy greedy) right.accepted) says answered

solo_completes : SoloCompletes
solo_completes schedule right bytes status (printed, answered) = answered ∙ ap (status_for solo_work (reading solo_work schedule).taken) right

migration_completes : MigrationCompletes
migration_completes topology net read bytes status written =
    let (means, answered) = after_file (topology_of topology) net IsMigrated bytes status read written in answered

check_completes : CheckCompletes
check_completes topology plan right bytes status written =
    let over = after_file (topology_of topology) right.network (λ net. After (plan_in_file net 1 plan) (IsJudged net)) bytes status right.has_network written in
    let (verdict, says, printed, answered) =
    after_file (plan_in_file right.network 1 plan) right.plan (IsJudged right.network) bytes status right.has_plan over in
    verdict_done right.network right.plan verdict status right.accepted says answered

plan_completes : PlanCompletes
plan_completes topology right bytes status written =
    planning_done right.network (first_root right.network) nothing_absent bytes status right.plannable
    (after_file (topology_of topology) right.network (λ net. IsPlanning net (first_root net) nothing_absent) bytes status right.has_network written)

renewal_completes : RenewalCompletes
renewal_completes topology plan absent right bytes status written =
    let over =
    after_file (topology_of topology) right.network
    (λ net. After (plan_in_file net 1 plan) (λ old. After (absent_in_file net absent) (λ left. IsPlanning net (renewed_root old left) left))) bytes status
    right.has_network written in
    let without =
    after_file (plan_in_file right.network 1 plan) right.old
    (λ old. After (absent_in_file right.network absent) (λ left. IsPlanning right.network (renewed_root old left) left)) bytes status right.has_plan over in
    planning_done right.network (renewed_root right.old right.left) right.left bytes status right.plannable
    (after_file (absent_in_file right.network absent) right.left
    (λ left. IsPlanning right.network (renewed_root right.old left) left) bytes status right.has_absent without)

twoway_completes : TwowayCompletes
twoway_completes topology exchanges right bytes status written =
    let (printed, answered) =
    after_file (topology_of topology) right.network (λ net. IsOutcome (twoway_work net) exchanges) bytes status right.has_network written in
    answered ∙ ap (status_for (twoway_work right.network) (reading (twoway_work right.network) exchanges).taken) right.unrefused

drill_done : (net : Network) (plan : Plan) (budget : Budget) (verdict : Verdict) (bytes : List ℕ) (status : Status) → IsAccepted net plan
    → IsVerdict net plan verdict → AfterVerdict net 1 verdict (IsDrilled net budget plan) bytes status → status ≡ Done
drill_done net plan budget Accepted bytes status accepted says (is, done) = done
drill_done net plan budget (Refused breach) bytes status accepted says told = absurd (accepted_unbroken net plan breach accepted says)

drill_completes : DrillCompletes
drill_completes topology plan budget right bytes status written =
    let over = after_file (topology_of topology) right.network (λ net. AfterPlan net 1 plan (IsDrilled net budget)) bytes status right.has_network written in
    let (verdict, says, drilled) =
    after_file (plan_in_file right.network 1 plan) right.plan
    (λ p. AfterJudged right.network 1 p (IsDrilled right.network budget p)) bytes status right.has_plan over in
    drill_done right.network right.plan budget verdict bytes status right.accepted says drilled

pub laws : Laws
laws =
    record {
      one_answer = one_answer;
      solo_completes = solo_completes;
      plan_completes = plan_completes;
      check_completes = check_completes;
      renewal_completes = renewal_completes;
      migration_completes = migration_completes;
      twoway_completes = twoway_completes;
      drill_completes = drill_completes;
      replay_completes = replay_completes;
      order_completes = order_completes;
      case_completes = case_completes;
      migration_law = migration_law;
      reports_contain = reports_contain;
      none_is_honest = none_is_honest;
      slack_keeps_plans = slack_keeps_plans;
      slack_raises_no_bound = slack_raises_no_bound;
    }
