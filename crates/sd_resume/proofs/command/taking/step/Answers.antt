use Rattle.sd_resume.proofs.command.Takings.{is_refused, is_taken}
use Rattle.sd_resume.proofs.command.taking.step.Goals as goal

pub returns-in-Ok : goal.returns-in-Ok
returns-in-Ok c =
    λ setting events played. is_taken c.args.replay.now c.step.new.self setting events c.args.line.now played c.step.result c.in-Ok.field-0 c.in-Ok.is
    c.step.ensures.line c.step.ensures.refusal c.step.ensures.accepted

pub returns-in-Err-Apply : goal.returns-in-Err-Apply
returns-in-Err-Apply c =
    λ setting events played. is_refused c.args.replay.now c.step.new.self setting events c.args.line.now played c.in-Err-Apply.field-0
    c.in-Err-Apply.field-0-0 c.in-Err-Apply.field-0-is c.in-Err-Apply.ensures.refused
