-- The plans of a case are judged, and lead to what comes after them.
use Rattle.std.specs.Prelude.{◌≡◌, ℕ, List, [], ◌∷◌, Result, Ok}
use Rattle.std.proofs.Common.{subst}
use Rattle.sd_history.specs.World.{setting_over}
use Rattle.sd_plan.specs.topo.Network.{Network}
use Rattle.sd_plan.specs.declared.Absent.{Absent}
use Rattle.sd_plan.specs.declared.Plan.{Plan}
use Rattle.sd_plan.specs.Plans.{nothing_absent}
use Rattle.sd_checker.specs.Text.{refused_line}
use Rattle.sd_checker.specs.declared.Breach.{Breach}
use Rattle.sd_checker.specs.declared.Verdict.TheVariants.{Accepted, Refused}
use Rattle.sd_planner.specs.Planning.{IsPlanned}
use Rattle.sd_planner.specs.declared.Planned.{Planned}
use Rattle.sd_planner.specs.declared.Planned.TheVariants as planned
use Rattle.sd_gen.specs.fabric.Fabrics.{second_absent}
use Rattle.sd_files.specs.Answering.{Allowed}
use Rattle.sd_files.specs.Writes.{IsAllowed}
use Rattle.sd_files.specs.declared.Status.{Status}
use Rattle.sd_files.specs.declared.Status.TheVariants.{PlanRefused}
use Rattle.sd_files.specs.declared.command_error.Answer.{Answer}
use Rattle.sd_files.specs.declared.command_error.CommandError.{CommandError}
use Rattle.sd_files.specs.planfiles.SetupError.{made_of}
use Rattle.sd_files.specs.planfiles.Refusing.{Nothing}
use Rattle.sd_files.specs.declared.planfiles.setup_error.SetupError.{SetupError}
use Rattle.sd_gen.specs.command.Cases.{AfterBoth, AfterGreedy, IsCaseOver, IsTallied, case_tally}
use Rattle.sd_files.proofs.Shared.{makes_more, verdict_more}
use Rattle.sd_gen.specs.command.Planned.{AreMade, IsMade}

module _ (net : Network) where
  greedy_more : (place root : ℕ) (absent : Absent) (Then More : Plan → Allowed) (bytes : List ℕ) (status : Status)
      → ((plan : Plan) → Then plan bytes status → More plan bytes status)
      → AfterGreedy net place root absent Then bytes status → AfterGreedy net place root absent More bytes status
  greedy_more place root absent Then More bytes status more (plan, greedy, fits, (verdict, says, written)) =
      (plan, greedy, fits, (verdict, says, verdict_more net place verdict (Then plan) (More plan) bytes status (more plan) written))

  -- a plan that was made leads to what comes after it
  goes_on : (place root : ℕ) (absent : Absent) (Then : Plan → Allowed) (plan : Plan) (bytes : List ℕ) (status : Status) → IsMade net root absent plan
      → Then plan bytes status → AfterGreedy net place root absent Then bytes status
  goes_on place root absent Then plan bytes status made written = (plan, made.greedy, made.fits, (Accepted, made.accepted, written))

  -- the line of a plan that the checker refuses
  pub plan_refused : (place root : ℕ) (absent : Absent) (what : Planned) (plan : Plan) (breach : Breach) (answer : Answer) → IsPlanned net root absent what
      → what ≡ planned.NoPlan plan breach
      → answer.text.items ≡ refused_line net place breach → answer.status ≡ PlanRefused → IsAllowed (AfterGreedy net place root absent Nothing) (Ok answer)
  plan_refused place root absent what plan breach answer is same printed answered =
      let (greedy, fits, says) = subst (IsPlanned net root absent) same is in
      (plan, greedy, fits, (Refused breach, says, (printed, answered)))

  -- a case whose plans are not both accepted ends before its schedule
  pub case_early : (number : ℕ) (early : SetupError) → IsAllowed (AfterBoth net Nothing) (made_of early) → IsAllowed (IsCaseOver net number) (made_of early)
  case_early number early =
      makes_more (AfterBoth net Nothing) (IsCaseOver net number) (made_of early) (λ bytes status.
      greedy_more 1 0 nothing_absent (λ first. AfterGreedy net 2 1 second_absent (λ second. Nothing (first ∷ second ∷ [])))
      (λ first. AfterGreedy net 2 1 second_absent (λ second. IsTallied (case_tally (setting_over net (first ∷ second ∷ [])) number))) bytes status (λ first.
      greedy_more 2 1 second_absent (λ second. Nothing (first ∷ second ∷ []))
      (λ second. IsTallied (case_tally (setting_over net (first ∷ second ∷ [])) number)) bytes status (λ second none. absurd none)))

  -- the tally of its schedule over both plans
  pub case_told : (number : ℕ) (plans : List Plan) (made : Result Answer CommandError) → AreMade net plans
      → IsAllowed (IsTallied (case_tally (setting_over net plans) number)) made → IsAllowed (IsCaseOver net number) made
  case_told number plans made both =
      makes_more (IsTallied (case_tally (setting_over net plans) number)) (IsCaseOver net number) made (λ bytes status written.
      let of_both : IsTallied (case_tally (setting_over net (both.first ∷ both.second ∷ [])) number) bytes status =
      subst (λ (ps : List Plan). IsTallied (case_tally (setting_over net ps) number) bytes status) both.are written in
      goes_on 1 0 nothing_absent (λ first. AfterGreedy net 2 1 second_absent (λ second. IsTallied (case_tally (setting_over net (first ∷ second ∷ [])) number)))
      both.first bytes status both.first_made
      (goes_on 2 1 second_absent
      (λ second. IsTallied (case_tally (setting_over net (both.first ∷ second ∷ [])) number)) both.second bytes status both.second_made
      of_both))
