use Rattle.std.proofs.Common.{ap, Ok, Err}
use Rattle.sd_plan.specs.topo.Topologies.{network}
use Rattle.sd_plan.specs.declared.Plan.{Plan}
use Rattle.sd_plantext.specs.Meaning.{plan_of}
use Rattle.sd_plantext.specs.Reading.{tree_of}
use Rattle.sd_files.specs.Inputs.{refused_for}
use Rattle.sd_files.specs.declared.command_error.FileFault.TheVariants as fault
use Rattle.sd_files.specs.declared.command_error.Input.TheVariants as input
use Rattle.sd_files.proofs.Loading.{unread_says, text_says, plan_fails}
use Rattle.sd_files.proofs.load.load_plan.Goals as goal

pub returns-in-Err-clause-says : goal.returns-in-Err-clause-says
returns-in-Err-clause-says g c =
    unread_says (λ (p : Plan). p) (input.Plan c.args.place) fault.Plan
    (λ t. plan_of (network c.args.topo.now) (tree_of t)) _ c.args.name.now c.in-Err.fault c.unread.result
    c.unread.ensures (λ is. c.in-Err.ensures.too_long (ap Err is))

pub returns-in-Ok-read_plan-clause-says : goal.returns-in-Ok-read_plan-clause-says
returns-in-Ok-read_plan-clause-says g c =
    text_says (λ (p : Plan). p) (input.Plan c.args.place) fault.Plan
    (λ t. plan_of (network c.args.topo.now) (tree_of t)) _ c.args.name.now c.in-Ok.text.items c.as_slice.result.now _
    (Ok c.in-Ok-read_plan.plan) c.as_slice.ensures.value c.as_slice.ensures.len c.in-Ok.ensures.whole c.in-Ok.ensures.short
    (ap (refused_for (input.Plan c.args.place) fault.Plan) c.in-Ok-read_plan.ensures.given)

pub returns-clause-says : goal.returns-clause-says
returns-clause-says g c =
    text_says (λ (p : Plan). p) (input.Plan c.args.place) fault.Plan
    (λ t. plan_of (network c.args.topo.now) (tree_of t)) _ c.args.name.now c.in-Ok.text.items c.as_slice.result.now _
    (Err c.by_plan.result) c.as_slice.ensures.value c.as_slice.ensures.len c.in-Ok.ensures.whole c.in-Ok.ensures.short
    (plan_fails (λ (p : Plan). p) (input.Plan c.args.place) c.in-Err-read_plan.fault _ c.by_plan.result c.by_plan.ensures c.in-Err-read_plan.ensures.given)
