use Rattle.std.proofs.Common.{refl, sym, ◌∙◌, inr, length}
use Rattle.sd_device_c.specs.declared.faults.Fault.TheVariants.{WrongSize}
use Rattle.sd_device_c.specs.Kept.{MayKeep, HasKeepFault}
use Rattle.sd_device_c.proofs.Owing.{answers_fault}
use Rattle.sd_device_c.proofs.keeping.sundial_keep.Goals as goal

pub returns-then-bytes-size_of_kept-clause-answer : goal.returns-then-bytes-size_of_kept-clause-answer
returns-then-bytes-size_of_kept-clause-answer c =
    let device = c.args.device.now in
    let ports = length c.args.ports.now in
    let size = length c.args.bytes.now in
    answers_fault (MayKeep device ports size) (HasKeepFault device ports size) c.code-then-bytes-size_of_kept.result WrongSize
    c.code-then-bytes-size_of_kept.ensures
    (inr (refl, λ is. c.if-bytes-size_of_kept.true (is ∙ sym c.size_of_kept.ensures)))
    (λ may. c.if-bytes-size_of_kept.true (may.1 ∙ sym c.size_of_kept.ensures))
