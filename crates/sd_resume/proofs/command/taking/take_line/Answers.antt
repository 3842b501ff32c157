use Rattle.std.proofs.Common.{codes}
use Rattle.sd_files.proofs.work.Stepping.{next_line, next_end, next_long, next_past}
use Rattle.sd_resume.specs.command.Played.{StepsOn}
use Rattle.sd_resume.proofs.command.Takings.{on_line, on_end, on_refused}
use Rattle.sd_resume.proofs.command.taking.take_line.Goals as goal

pub returns-in-Ok-Some-clause-steps : goal.returns-in-Ok-Some-clause-steps
returns-in-Ok-Some-clause-steps g c =
    next_line (StepsOn c.args.word.now c.args.replay.now c.take_lent.new.replay c.take_lent.result) _ _ c.in-Ok-Some.field-0 c.in-Ok-Some.line
    c.in-Ok-Some.field-0-is c.in-Ok-Some.ensures.answer
    (on_line c.args.word.now c.args.replay.now c.take_lent.new.replay c.take_lent.result c.in-Ok-Some.line.now c.take_lent.ensures.comes)

pub returns-in-Ok-None-clause-steps : goal.returns-in-Ok-None-clause-steps
returns-in-Ok-None-clause-steps g c =
    next_end (StepsOn c.args.word.now c.args.replay.now c.args.replay.now c.at_end.result) _ _ c.in-Ok-None.field-0 c.in-Ok-None.field-0-is
    c.in-Ok-None.ensures.answer (on_end c.args.word.now c.args.replay.now c.args.replay.now c.at_end.result c.at_end.ensures.comes)

pub returns-in-Err-LongLine-clause-steps : goal.returns-in-Err-LongLine-clause-steps
returns-in-Err-LongLine-clause-steps g c =
    next_long (StepsOn c.args.word.now c.args.replay.now c.args.replay.now c.refuse.result) _ _ c.in-Err-LongLine.field-0 c.in-Err-LongLine.field-0-is
    c.in-Err-LongLine.ensures.answer
    (on_refused c.args.word.now c.args.replay.now c.args.replay.now c.refuse.result (codes "LongLine") c.refuse.ensures.comes)

pub returns-in-Err-Limit-clause-steps : goal.returns-in-Err-Limit-clause-steps
returns-in-Err-Limit-clause-steps g c =
    next_past (StepsOn c.args.word.now c.args.replay.now c.args.replay.now c.refuse-in-Err-Limit.result) _ _ c.in-Err-Limit.field-0 c.args.reader.now.within
    c.in-Err-Limit.field-0-is c.in-Err-Limit.ensures.answer
    (on_refused c.args.word.now c.args.replay.now c.args.replay.now c.refuse-in-Err-Limit.result (codes "Limit") c.refuse-in-Err-Limit.ensures.comes)
