-- The line of a case has no alarm where it has no broken line.
use Rattle.std.specs.Prelude.{◌≡◌, ℕ, zero, suc, true, List, [], ◌∷◌}
use Rattle.std.proofs.Common.{ap, ◌∙◌, arith, subst}
use Rattle.sd_history.specs.World.{setting_over}
use Rattle.sd_plan.specs.topo.Network.{Network, Each}
use Rattle.sd_plan.specs.topo.Limits.{IsNetwork}
use Rattle.sd_plan.specs.Plans.{Fits, nothing_absent}
use Rattle.sd_plan.specs.declared.Absent.{Absent}
use Rattle.sd_plan.specs.declared.Plan.{Plan}
use Rattle.sd_checker.specs.Verdicts.{IsVerdict}
use Rattle.sd_checker.specs.Conditions.{IsAccepted}
use Rattle.sd_checker.specs.declared.Verdict.{Verdict}
use Rattle.sd_checker.specs.declared.Verdict.TheVariants.{Accepted, Refused}
use Rattle.sd_history.specs.World.{Setting}
use Rattle.sd_safety.specs.invariant.Coming.{IsFair}
use Rattle.sd_gen.specs.fabric.Fabrics.{fabric, second_absent}
use Rattle.sd_gen.specs.Drafts.{history_of}
use Rattle.sd_files.specs.Answering.{Allowed}
use Rattle.sd_files.specs.declared.Status.{Status}
use Rattle.sd_files.specs.planfiles.PlanFiles.{AfterVerdict}
use Rattle.sd_gen.specs.command.Cases.{AfterGreedy, IsTallied, case_tally}
use Rattle.sd_gen.specs.declared.command.FabricSize.{FabricSize}
use Rattle.sd_gen.proofs.command.Histories.{case_is_history}
use Rattle.sd_gen.proofs.command.Sized.{fabric_is_network}
use Rattle.sd_headline.specs.Headlines.{no_case_alarm}
use Rattle.sd_headline.proofs.Cases.{breach_is_calm, tally_is_calm}
use Rattle.sd_top.specs.Promised.{CaseKeepsAlarms}

-- what holds of two plans holds of each of both
each_of_both : (P : Plan → Type 0) (first second : Plan) → P first → P second → Each P (first ∷ second ∷ [])
each_of_both P first second one two zero plan at = let same : first ≡ plan = cc at in subst P same one
each_of_both P first second one two (suc zero) plan at = let same : second ≡ plan = cc at in subst P same two
each_of_both P first second one two (suc (suc i)) plan at = cc at

module _ (net : Network) (is : IsNetwork net) (bytes : List ℕ) (status : Status) where
  after_verdict : (place : ℕ) (plan : Plan) (verdict : Verdict) (Then : Allowed) → IsVerdict net plan verdict
      → (IsAccepted net plan → Then bytes status → no_case_alarm bytes ≡ true)
      → AfterVerdict net place verdict Then bytes status → no_case_alarm bytes ≡ true
  after_verdict place plan Accepted Then says behind written = behind says written
  after_verdict place plan (Refused breach) Then says behind written = ap no_case_alarm written.0 ∙ breach_is_calm net is place breach

  after_greedy : (place root : ℕ) (absent : Absent) (Then : Plan → Allowed)
      → ((plan : Plan) → Fits net plan → IsAccepted net plan → Then plan bytes status → no_case_alarm bytes ≡ true)
      → AfterGreedy net place root absent Then bytes status → no_case_alarm bytes ≡ true
  after_greedy place root absent Then behind (plan, greedy, fits, (verdict, says, written)) =
      after_verdict place plan verdict (Then plan) says (behind plan fits) written

  tallied : (number : ℕ) (first second : Plan) → Fits net first → IsAccepted net first → Fits net second → IsAccepted net second
      → IsTallied (case_tally (setting_over net (first ∷ second ∷ [])) number) bytes status → no_case_alarm bytes ≡ true
  tallied number first second fits accepted fits' accepted' told =
      let setting : Setting = setting_over net (first ∷ second ∷ []) in
      let sound : IsFair setting =
      record {
        network = is;
        some_plan = omega arith;
        fit = each_of_both (Fits net) first second fits fits';
        accepted = each_of_both (IsAccepted net) first second accepted accepted';
      } in
      ap no_case_alarm told.0 ∙ tally_is_calm setting sound (history_of setting number) (case_is_history setting number)

pub case_keeps_alarms : (number : ℕ) (sizes : FabricSize) → CaseKeepsAlarms number sizes
case_keeps_alarms number sizes within bytes status written =
    let net = fabric sizes.leaves sizes.spines in
    let is : IsNetwork net = fabric_is_network sizes within in
    after_greedy net is bytes status 1 0 nothing_absent
    (λ first. AfterGreedy net 2 1 second_absent (λ second. IsTallied (case_tally (setting_over net (first ∷ second ∷ [])) number))) (λ first fits accepted.
    after_greedy net is bytes status 2 1 second_absent (λ second. IsTallied (case_tally (setting_over net (first ∷ second ∷ [])) number))
    (λ second fits' accepted'. tallied net is bytes status number first second fits accepted fits' accepted')) written
