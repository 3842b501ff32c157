use Rattle.sd_gen.proofs.command.Driven.{refused, never_line}
use Rattle.sd_gen.proofs.command.case_run.CaseRunDriven.offer.Goals as goal

pub returns-in-Err-Apply : goal.returns-in-Err-Apply
returns-in-Err-Apply c = λ setting run stands.
    refused _ setting run c.args.event.now c.in-Err-Apply.field-0 c.in-Err-Apply.field-0-0 c.in-Err-Apply.field-0-is
    (c.in-Err-Apply.ensures.answered.refused setting run stands)

pub unreachable-requires : goal.unreachable-requires
unreachable-requires c =
    never_line c.args.self.now.replay c.step_outcome.new.self c.args.event.now c.in-Err-Line.field-0 c.in-Err-Line.field-0-0 c.in-Err-Line.field-0-is
    c.args.self.now.replay.run c.in-Err-Line.ensures.answered.refused
