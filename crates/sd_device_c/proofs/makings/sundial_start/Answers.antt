use Rattle.sd_device_c.proofs.Owing.{start_answer, start_made}
use Rattle.sd_device_c.proofs.makings.sundial_start.Goals as goal

pub returns-in-Ok-clause-made : goal.returns-in-Ok-clause-made
returns-in-Ok-clause-made c = λ done.
    start_made c.args.duty.now c.args.counter c.args.clock c.args.eps c.from.result c.from-2.result c.in-Ok.made c.from.ensures c.from-2.ensures
    c.in-Ok.ensures.ok

pub returns-in-Err-clause-answer : goal.returns-in-Err-clause-answer
returns-in-Err-clause-answer c =
    start_answer c.args.duty.now c.args.counter c.args.clock c.args.eps c.from.result c.from-2.result c.code.result c.in-Err.fault c.from.ensures c.from-2.ensures
    c.code.ensures c.in-Err.ensures.err
