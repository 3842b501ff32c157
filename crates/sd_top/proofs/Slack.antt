-- The laws of less slack.
use Rattle.std.specs.Prelude.{◌≡◌, ℕ, List, Ok, Err, Result, Option}
use Rattle.std.proofs.Common.{refl, sym, ap, ◌∙◌}
use Rattle.serde_json.specs.Data.{Data}
use Rattle.sd_plan.specs.topo.Network.{Network}
use Rattle.sd_plan.specs.declared.Plan.{Plan}
use Rattle.sd_plantext.specs.Reading.{tree_of as json_of}
use Rattle.sd_plantext.specs.declared.fault.PlanFault.{PlanFault}
use Rattle.sd_bound.proofs.slack.Accepted.{stays_accepted}
use Rattle.sd_bound.proofs.slack.Bounded.{no_bound_rises}
use Rattle.sd_bound.specs.slack.Tighter.{IsTighter}
use Rattle.sd_files.specs.Answering.{After}
use Rattle.sd_checker.specs.Conditions.{IsAccepted}
use Rattle.sd_checker.specs.declared.Verdict.TheVariants.{Accepted, Refused}
use Rattle.sd_files.specs.Inputs.{topology_of, plan_in_file, in_file}
use Rattle.sd_files.specs.declared.Status.TheVariants.{Done}
use Rattle.sd_files.specs.declared.command_error.FileFault.TheVariants as fault
use Rattle.sd_files.specs.declared.command_error.Input.TheVariants as input
use Rattle.sd_files.specs.declared.command_error.Refusal.{Refusal}
use Rattle.sd_top.specs.Checks.{IsJudged}
use Rattle.sd_top.specs.Slack.{SlackKeepsPlans, SlackRaisesNoBound}
use Rattle.sd_top.proofs.Judged.{after_file, verdict_done}
use Rattle.sd_top.proofs.SamePlans.{same_plans}

-- what is answered with Done
judged_done : (net : Network) (plan : Plan) (bytes : List ℕ) → IsJudged net plan bytes Done → IsAccepted net plan
judged_done net plan bytes (Accepted, says, printed, answered) = says
judged_done net plan bytes (Refused breach, says, printed, answered) = cc

read_done : (net : Network) (says : Result Plan Refusal) (bytes : List ℕ) → After says (IsJudged net) bytes Done
    → (plan : Plan) × (says ≡ Ok plan) × IsAccepted net plan
read_done net (Ok plan) bytes judged = (plan, refl, judged_done net plan bytes judged)
read_done net (Err why) bytes (printed, answered) = cc

-- the text of a plan says the same over both
plan_same : (before after : Network) → IsTighter before after → (text : List ℕ) → plan_in_file before 1 text ≡ plan_in_file after 1 text
plan_same before after tighter text =
    ap (λ (meaning : Option Data → Result Plan PlanFault). in_file (input.Plan 1) fault.Plan (λ t. meaning (json_of t)) text)
    (same_plans before after tighter)

pub slack_keeps_plans : SlackKeepsPlans
slack_keeps_plans before after plan both bytes written other status again =
    let over = after_file (topology_of before) both.network (λ net. After (plan_in_file net 1 plan) (IsJudged net)) bytes Done both.reads written in
    let (read, says, accepted) = read_done both.network (plan_in_file both.network 1 plan) bytes over in
    let reread : plan_in_file both.tightened 1 plan ≡ Ok read = sym (plan_same both.network both.tightened both.tighter plan) ∙ says in
    let under = after_file (topology_of after) both.tightened (λ net. After (plan_in_file net 1 plan) (IsJudged net)) other status both.rereads again in
    let (verdict, judged, printed, answered) = after_file (plan_in_file both.tightened 1 plan) read (IsJudged both.tightened) other status reread under in
    verdict_done both.tightened read verdict status (stays_accepted both.network both.tightened both.tighter read accepted) judged answered

pub slack_raises_no_bound : SlackRaisesNoBound
slack_raises_no_bound before after text both plan says = (
  sym (plan_same both.network both.tightened both.tighter text) ∙ says,
  λ budget f g same d w listed. no_bound_rises both.network both.tightened both.tighter plan budget f g same d w listed,
)
