use Rattle.std.proofs.Common.{ap, Ok, Err}
use Rattle.sd_plan.specs.topo.Topologies.{network}
use Rattle.sd_plan.specs.declared.Absent.{Absent}
use Rattle.sd_plantext.specs.Meaning.{absent_of}
use Rattle.sd_plantext.specs.Reading.{tree_of}
use Rattle.sd_files.specs.Inputs.{refused_for}
use Rattle.sd_files.specs.declared.command_error.FileFault.TheVariants as fault
use Rattle.sd_files.specs.declared.command_error.Input.TheVariants as input
use Rattle.sd_files.proofs.Loading.{unread_says, text_says, plan_fails}
use Rattle.sd_files.proofs.load.load_absent.Goals as goal

pub returns-in-Err-clause-says : goal.returns-in-Err-clause-says
returns-in-Err-clause-says g c =
    unread_says (λ (a : Absent). a) input.Absent fault.Plan
    (λ t. absent_of (network c.args.topo.now) (tree_of t)) _ c.args.name.now c.in-Err.fault c.unread.result
    c.unread.ensures (λ is. c.in-Err.ensures.too_long (ap Err is))

pub returns-in-Ok-read_absent-clause-says : goal.returns-in-Ok-read_absent-clause-says
returns-in-Ok-read_absent-clause-says g c =
    text_says (λ (a : Absent). a) input.Absent fault.Plan (λ t. absent_of (network c.args.topo.now) (tree_of t)) _ c.args.name.now c.in-Ok.text.items
    c.as_slice.result.now _ (Ok c.in-Ok-read_absent.absent) c.as_slice.ensures.value c.as_slice.ensures.len c.in-Ok.ensures.whole c.in-Ok.ensures.short
    (ap (refused_for input.Absent fault.Plan) c.in-Ok-read_absent.ensures.given)

pub returns-clause-says : goal.returns-clause-says
returns-clause-says g c =
    text_says (λ (a : Absent). a) input.Absent fault.Plan (λ t. absent_of (network c.args.topo.now) (tree_of t)) _ c.args.name.now c.in-Ok.text.items
    c.as_slice.result.now _ (Err c.by_plan.result) c.as_slice.ensures.value c.as_slice.ensures.len c.in-Ok.ensures.whole c.in-Ok.ensures.short
    (plan_fails (λ (a : Absent). a) input.Absent c.in-Err-read_absent.fault _ c.by_plan.result c.by_plan.ensures c.in-Err-read_absent.ensures.given)
