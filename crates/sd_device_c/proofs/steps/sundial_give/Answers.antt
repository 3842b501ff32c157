use Rattle.sd_device_c.specs.Answers.{MayGive, HasGiveFault}
use Rattle.sd_device_c.proofs.Owing.{answers_fault, give_not}
use Rattle.sd_device_c.proofs.steps.sundial_give.Goals as goal

pub returns-in-Err-clause-answer : goal.returns-in-Err-clause-answer
returns-in-Err-clause-answer c =
    answers_fault
    (MayGive c.args.device.now c.args.duty.now)
    (HasGiveFault c.args.device.now c.args.duty.now)
    c.code.result
    c.in-Err.fault
    c.code.ensures
    c.in-Err.ensures.err
    (give_not c.args.device.now c.args.duty.now c.in-Err.fault c.in-Err.ensures.err)
