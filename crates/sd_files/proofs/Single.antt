-- There is one answer where a plan was judged, if what follows has one.
use Rattle.std.specs.Prelude.{◌≡◌, ℕ, List}
use Rattle.std.proofs.Common.{sym, ◌∙◌, subst}
use Rattle.sd_plan.specs.topo.Network.{Network}
use Rattle.sd_plan.specs.declared.Plan.{Plan}
use Rattle.sd_checker.specs.declared.Verdict.{Verdict}
use Rattle.sd_checker.specs.declared.Verdict.TheVariants.{Accepted, Refused}
use Rattle.sd_checker.proofs.Unique.{one_verdict}
use Rattle.sd_files.specs.Answering.{Allowed}
use Rattle.sd_files.specs.Single.{IsOne}
use Rattle.sd_files.specs.planfiles.PlanFiles.{AfterJudged, AfterVerdict}

verdict_one : (net : Network) (place : ℕ) (verdict : Verdict) (Then : Allowed) → IsOne Then → IsOne (AfterVerdict net place verdict Then)
verdict_one net place Accepted Then one bytes other status also is too = one bytes other status also is too
verdict_one net place (Refused breach) Then one bytes other status also (printed, answered) (printed', answered') =
    (answered ∙ sym answered', printed ∙ sym printed')

-- after the verdict that is its own
pub judged_one : (net : Network) (place : ℕ) (plan : Plan) (Then : Allowed) → IsOne Then → IsOne (AfterJudged net place plan Then)
judged_one net place plan Then one bytes other status also (verdict, says, first) (verdict', says', second) =
    verdict_one net place verdict Then one bytes other status also first
    (subst (λ (v : Verdict). AfterVerdict net place v Then other also) (sym (one_verdict net plan verdict verdict' says says')) second)
