-- The laws of what `case` writes: one answer, and the status where both plans are accepted.
use Rattle.std.specs.Prelude.{◌≡◌, ◌⊎◌, ℕ, Bool, true, false, List, [], ◌∷◌, if◌then◌else◌}
use Rattle.std.proofs.Common.{sym, ◌∙◌, subst, inl, inr}
use Rattle.sd_plan.specs.topo.Network.{Network}
use Rattle.sd_plan.specs.declared.Absent.{Absent}
use Rattle.sd_plan.specs.declared.Plan.{Plan}
use Rattle.sd_plan.specs.Plans.{nothing_absent}
use Rattle.sd_checker.specs.Verdicts.{IsVerdict}
use Rattle.sd_checker.specs.Conditions.{IsAccepted}
use Rattle.sd_checker.specs.declared.Verdict.{Verdict}
use Rattle.sd_checker.specs.declared.Verdict.TheVariants.{Accepted, Refused}
use Rattle.sd_checker.proofs.Exclusive.{accepted_unbroken}
use Rattle.sd_planner.specs.Greedy.{IsGreedy}
use Rattle.sd_planner.proofs.Single.{same_greedy}
use Rattle.sd_gen.specs.fabric.Fabrics.{fabric, second_absent}
use Rattle.sd_replay.specs.Tallies.{shows_trouble}
use Rattle.sd_history.specs.World.{setting_over}
use Rattle.sd_files.specs.Answering.{Allowed}
use Rattle.sd_files.specs.declared.Status.{Status}
use Rattle.sd_files.specs.declared.Status.TheVariants.{Broken, Done}
use Rattle.sd_files.specs.planfiles.PlanFiles.{AfterJudged, AfterVerdict}
use Rattle.sd_files.specs.Single.{IsOne}
use Rattle.sd_files.proofs.Single.{judged_one}
use Rattle.sd_gen.specs.command.Cases.{AfterGreedy, IsTallied, case_tally}
use Rattle.sd_gen.specs.command.Laws.{CaseCompletes}
use Rattle.sd_gen.specs.command.OneCase.{HasOneCase}

-- One answer

greedy_one : (net : Network) (place root : ℕ) (absent : Absent) (Then : Plan → Allowed) → ((plan : Plan) → IsOne (Then plan))
    → IsOne (AfterGreedy net place root absent Then)
greedy_one net place root absent Then one bytes other status also (plan, greedy, fits, judged) (plan', greedy', fits', judged') =
    judged_one net place plan (Then plan) (one plan) bytes other status also judged
    (subst (λ (p : Plan). AfterJudged net place p (Then p) other also) (same_greedy net root absent plan' plan greedy' greedy) judged')

pub one_case : HasOneCase
one_case number leaves spines =
    let net = fabric leaves spines in
    greedy_one net 1 0 nothing_absent
    (λ first. AfterGreedy net 2 1 second_absent (λ second. IsTallied (case_tally (setting_over net (first ∷ second ∷ [])) number)))
    (λ first.
    greedy_one net 2 1 second_absent (λ second. IsTallied (case_tally (setting_over net (first ∷ second ∷ [])) number))
    (λ second b o s a (printed, answered) (printed', answered'). (answered ∙ sym answered', printed ∙ sym printed')))

-- Plans that are accepted

verdict_passed : (net : Network) (place : ℕ) (plan : Plan) (verdict : Verdict) (Then : Allowed) (bytes : List ℕ) (status : Status) → IsAccepted net plan
    → IsVerdict net plan verdict → AfterVerdict net place verdict Then bytes status
    → Then bytes status
verdict_passed net place plan Accepted Then bytes status accepted says written = written
verdict_passed net place plan (Refused breach) Then bytes status accepted says written = absurd (accepted_unbroken net plan breach accepted says)

greedy_passed : (net : Network) (place root : ℕ) (absent : Absent) (Then : Plan → Allowed) (plan : Plan) (bytes : List ℕ) (status : Status)
    → IsGreedy net root absent plan → IsAccepted net plan
    → AfterGreedy net place root absent Then bytes status → Then plan bytes status
greedy_passed net place root absent Then plan bytes status greedy accepted (other, greedy', fits, (verdict, says, written)) =
    let same : other ≡ plan = same_greedy net root absent other plan greedy' greedy in
    subst (λ (p : Plan). Then p bytes status) same
    (verdict_passed net place other verdict (Then other) bytes status (subst (IsAccepted net) (sym same) accepted) says written)

either : (trouble : Bool) (status : Status) → status ≡ (if trouble then Broken else Done) → (status ≡ Done) ⊎ (status ≡ Broken)
either true status is = inr is
either false status is = inl is

pub case_completes : CaseCompletes
case_completes number leaves spines right bytes status written =
    let net = fabric leaves spines in
    let behind =
    greedy_passed net 1 0 nothing_absent
    (λ first. AfterGreedy net 2 1 second_absent (λ second. IsTallied (case_tally (setting_over net (first ∷ second ∷ [])) number)))
    right.first bytes status right.first_greedy right.first_accepted written in
    let tally = case_tally (setting_over net (right.first ∷ right.second ∷ [])) number in
    let told =
    greedy_passed net 2 1 second_absent (λ second. IsTallied (case_tally (setting_over net (right.first ∷ second ∷ [])) number)) right.second bytes status
    right.second_greedy right.second_accepted behind in
    either (shows_trouble tally) status told.1
