-- Over the same texts a command has one answer: a plan has one verdict, and there is one greedy plan.
use Rattle.std.proofs.Common.{◌≡◌, ℕ, List, map, Some, None, Result, Ok, Err, ap, sym, ◌∙◌, subst}
use Rattle.sd_plan.specs.topo.Network.{Network}
use Rattle.sd_topotext.specs.Meaning.{network_of}
use Rattle.sd_topotext.specs.Reading.{tree_of}
use Rattle.sd_plan.specs.declared.Absent.{Absent}
use Rattle.sd_plan.specs.declared.Plan.{Plan}
use Rattle.sd_plan.specs.Plans.{nothing_absent}
use Rattle.sd_checker.specs.Verdicts.{IsVerdict}
use Rattle.sd_checker.specs.declared.Verdict.{Verdict}
use Rattle.sd_checker.specs.declared.Verdict.TheVariants.{Accepted, Refused}
use Rattle.sd_drill.specs.declared.Budget.{Budget}
use Rattle.sd_drill.proofs.Unique.{one_drill}
use Rattle.sd_files.specs.planfiles.PlanFiles.{AfterJudged, AfterVerdict}
use Rattle.sd_checker.proofs.Unique.{one_verdict}
use Rattle.sd_planner.proofs.Single.{same_greedy}
use Rattle.sd_files.specs.Answering.{Allowed, After}
use Rattle.sd_files.specs.Inputs.{topology_of, plan_in_file, absent_in_file}
use Rattle.sd_files.specs.declared.Status.{Status}
use Rattle.sd_files.specs.declared.command_error.Refusal.{Refusal}
use Rattle.sd_files.specs.work.Works.{IsOutcome}
use Rattle.sd_commands.specs.twoway.Twoways.{twoway_work}
use Rattle.sd_gen.proofs.command.Lawful.{one_case}
use Rattle.sd_commands.proofs.replay.Lawful.{one_order, one_replay}
use Rattle.sd_top.specs.Checks.{IsJudged, verdict_status, verdict_text}
use Rattle.sd_top.specs.Drills.{IsDrilled}
use Rattle.sd_top.specs.Migration.{IsMigrated}
use Rattle.sd_top.specs.Plannings.{IsPlanning, first_root, planned_text, renewed_root}
use Rattle.sd_top.specs.Unique.{HasOneAnswer}
use Rattle.sd_top.specs.Words.Command.{Solo, Plan as PlanOf, Check, Renew, Replay, Case, Migrate, Order, Twoway, Drill}

-- at most one status, and bytes that are alike
abbrev IsOne : (List ℕ → List ℕ → Type 0) → Allowed → Type 0
IsOne Like Writes = (bytes other : List ℕ) (status also : Status) → Writes bytes status → Writes other also → (status ≡ also) × Like bytes other

-- after a file there is one answer, where there is one after what it says
after_one : {X : Type 0} (Like : List ℕ → List ℕ → Type 0) (same : (bytes other : List ℕ) → bytes ≡ other
    → Like bytes other) (says : Result X Refusal) (Then : X → Allowed) → ((x : X) → IsOne Like (Then x)) → IsOne Like (After says Then)
after_one Like same (Ok x) Then one bytes other status also is too = one x bytes other status also is too
after_one Like same (Err why) Then one bytes other status also (printed, answered) (printed', answered') =
    (answered ∙ sym answered', same bytes other (printed ∙ sym printed'))

-- the same bytes
equal : (bytes other : List ℕ) → bytes ≡ other → bytes ≡ other
equal bytes other same = same

judged_one : (net : Network) (plan : Plan) → IsOne (λ bytes other. bytes ≡ other) (IsJudged net plan)
judged_one net plan bytes other status also (verdict, says, printed, answered) (verdict', says', printed', answered') =
    let same : verdict ≡ verdict' = one_verdict net plan verdict verdict' says says' in
    (answered ∙ ap verdict_status same ∙ sym answered', printed ∙ ap (verdict_text net) same ∙ sym printed')

planning_one : (net : Network) (root : ℕ) (absent : Absent) → IsOne (λ bytes other. bytes ≡ other) (IsPlanning net root absent)
planning_one net root absent bytes other status also (plan, verdict, greedy, says, printed, answered) (plan', verdict', greedy', says', printed', answered') =
    let one : plan ≡ plan' = same_greedy net root absent plan plan' greedy greedy' in
    let same : verdict ≡ verdict' = one_verdict net plan' verdict verdict' (subst (λ (p : Plan). IsVerdict net p verdict) one says) says' in (
      answered ∙ ap verdict_status same ∙ sym answered',
      printed ∙ ap (λ (p : Plan). planned_text net p verdict) one ∙ ap (planned_text net plan') same
          ∙ sym printed',
    )

migrated_one : (net : Network) → IsOne (λ bytes other. network_of (tree_of bytes) ≡ network_of (tree_of other)) (IsMigrated net)
migrated_one net bytes other status also (means, answered) (means', answered') = (answered ∙ sym answered', means ∙ sym means')

bounds_one : (exchanges : List ℕ) (net : Network) → IsOne (λ bytes other. bytes ≡ other) (IsOutcome (twoway_work net) exchanges)
bounds_one exchanges net bytes other status also (printed, answered) (printed', answered') = (answered ∙ sym answered', printed ∙ sym printed')

drilled_one : (net : Network) (budget : Budget) (plan : Plan) → IsOne (λ bytes other. bytes ≡ other) (AfterJudged net 1 plan (IsDrilled net budget plan))
drilled_one net budget plan bytes other status also (verdict, says, first) (verdict', says', second) =
    by verdict first
    (subst (λ (v : Verdict). AfterVerdict net 1 v (IsDrilled net budget plan) other also) (sym (one_verdict net plan verdict verdict' says says')) second)
  where
    by : (v : Verdict) → AfterVerdict net 1 v (IsDrilled net budget plan) bytes status → AfterVerdict net 1 v (IsDrilled net budget plan) other also
        → (status ≡ also) × (bytes ≡ other)
    by Accepted (is, done) (is', done') = (done ∙ sym done', one_drill net plan budget bytes other is is')
    by (Refused breach) (printed, answered) (printed', answered') = (answered ∙ sym answered', printed ∙ sym printed')

pub one_answer : HasOneAnswer
one_answer None texts bytes other status also (printed, answered) (printed', answered') = (answered ∙ sym answered', printed ∙ sym printed')
one_answer (Some (Solo schedule)) texts bytes other status also (printed, answered) (printed', answered') = (answered ∙ sym answered', printed ∙ sym printed')
one_answer (Some (PlanOf topology)) texts bytes other status also is too =
    after_one (λ b o. b ≡ o) equal (topology_of (texts topology)) (λ net. IsPlanning net (first_root net) nothing_absent)
    (λ net. planning_one net (first_root net) nothing_absent) bytes other status also is too
one_answer (Some (Check topology plan)) texts bytes other status also is too =
    after_one (λ b o. b ≡ o) equal (topology_of (texts topology)) (λ net. After (plan_in_file net 1 (texts plan)) (IsJudged net))
    (λ net. after_one (λ b o. b ≡ o) equal (plan_in_file net 1 (texts plan)) (IsJudged net) (judged_one net)) bytes other status also is too
one_answer (Some (Renew topology plan absent)) texts bytes other status also is too =
    after_one (λ b o. b ≡ o) equal (topology_of (texts topology))
    (λ net. After (plan_in_file net 1 (texts plan)) (λ old. After (absent_in_file net (texts absent)) (λ left. IsPlanning net (renewed_root old left) left)))
    (
    λ net. after_one (λ b o. b ≡ o) equal (plan_in_file net 1 (texts plan))
    (λ old. After (absent_in_file net (texts absent)) (λ left. IsPlanning net (renewed_root old left) left))
    (λ old. after_one (λ b o. b ≡ o) equal (absent_in_file net (texts absent)) (λ left. IsPlanning net (renewed_root old left) left)
    (λ left. planning_one net (renewed_root old left) left))
    )
    bytes other status also is too
one_answer (Some (Replay topology plans schedule)) texts bytes other status also is too =
    one_replay (texts topology) (map texts plans) (texts schedule) bytes other status also is too
one_answer (Some (Case number fabric)) texts bytes other status also is too = one_case number fabric.leaves fabric.spines bytes other status also is too
one_answer (Some (Migrate topology)) texts bytes other status also is too =
    after_one (λ b o. network_of (tree_of b) ≡ network_of (tree_of o)) (λ b o same. ap (λ (l : List ℕ). network_of (tree_of l)) same)
    (topology_of (texts topology)) IsMigrated migrated_one bytes other status also is too
one_answer (Some (Order topology plans schedule)) texts bytes other status also is too =
    one_order (texts topology) (map texts plans) (texts schedule) bytes other status also is too
one_answer (Some (Twoway topology exchanges)) texts bytes other status also is too =
    after_one (λ b o. b ≡ o) equal (topology_of (texts topology)) (λ net. IsOutcome (twoway_work net) (texts exchanges))
    (bounds_one (texts exchanges)) bytes other status also is too
one_answer (Some (Drill topology plan budget)) texts bytes other status also is too =
    after_one (λ b o. b ≡ o) equal (topology_of (texts topology))
    (λ net. After (plan_in_file net 1 (texts plan)) (λ p. AfterJudged net 1 p (IsDrilled net budget p)))
    (λ net. after_one (λ b o. b ≡ o) equal (plan_in_file net 1 (texts plan)) (λ p. AfterJudged net 1 p (IsDrilled net budget p)) (drilled_one net budget)) bytes
    other status also is too
