use Rattle.std.proofs.Common.{arith, refl, inl, inr, length}
use Rattle.sd_device_c.specs.declared.faults.Fault.TheVariants.{NotKept, TooLate}
use Rattle.sd_device_c.specs.Plain.{rates_from}
use Rattle.sd_device_c.specs.Pauses.{advance, is_in_time}
use Rattle.sd_device_c.specs.Kept.{Says, AreKept, AreInTime, HasRestoreFault}
use Rattle.sd_device_c.proofs.Owing.{answers_fault}
use Rattle.sd_device_c.proofs.Saying.{answers_done, says_read, says_only, read_kept, read_late, told_true, told_false}
use Rattle.sd_device_c.proofs.keeping.sundial_restore.Goals as goal

pub returns-clause-said : goal.returns-clause-said
returns-clause-said c = λ done.
    says_read (length c.args.ports.now) c.args.bytes.now c.in-Some.of_ports.now c.in-Some.state.device c.read_ports.new.ports c.in-Some.state.lowered
    c.in-Some.state.ticked c.in-Some.ensures.some c.read_ports.ensures c.read_ports.auto.ports

pub returns-clause-only : goal.returns-clause-only
returns-clause-only c = λ done.
    says_only c.args.bytes.now c.in-Some.state.device c.read_ports.new.ports c.in-Some.state.lowered c.in-Some.state.ticked
    (returns-clause-said c done).bytes

pub returns-clause-answer : goal.returns-clause-answer
returns-clause-answer c =
    let says : Says c.args.bytes.now c.in-Some.state.device c.read_ports.new.ports c.in-Some.state.lowered c.in-Some.state.ticked =
    returns-clause-said c refl in
    let told = is_in_time (rates_from c.in-Some.state.device.rates) c.args.tick (advance c.in-Some.state.ticked c.args.hardware) in
    answers_done (AreInTime c.args.tick c.args.hardware (length c.args.ports.now) c.args.bytes.now)
    (HasRestoreFault c.args.tick c.args.hardware (length c.args.ports.now) c.args.bytes.now)
    (c.in-Some.state.device, c.read_ports.new.ports, c.in-Some.state.lowered, c.in-Some.state.ticked, c.read_ports.auto.ports, says, told_true told c.sundial_in_time.result c.sundial_in_time.ensures.told c.if-sundial_in_time-eq0.false)

pub returns-in_default-clause-answer : goal.returns-in_default-clause-answer
returns-in_default-clause-answer c =
    let count = length c.args.ports.now in
    let kept = c.args.bytes.now in
    let none : AreKept count kept → ⊥ = c.in_default.ensures.none in
    answers_fault (AreInTime c.args.tick c.args.hardware count kept) (HasRestoreFault c.args.tick c.args.hardware count kept) c.code.result NotKept
    c.code.ensures (inl (refl, none)) (λ are. none (are.0, are.1, are.2, are.3, are.4, are.5))

pub returns-then-sundial_in_time-eq0-clause-answer : goal.returns-then-sundial_in_time-eq0-clause-answer
returns-then-sundial_in_time-eq0-clause-answer c =
    let count = length c.args.ports.now in
    let kept = c.args.bytes.now in
    let state = c.in-Some.state in
    let told = is_in_time (rates_from state.device.rates) c.args.tick (advance state.ticked c.args.hardware) in
    let late : AreInTime c.args.tick c.args.hardware count kept → ⊥ =
    read_late c.args.tick c.args.hardware count kept c.in-Some.of_ports.now state.device state.lowered state.ticked c.in-Some.ensures.some
    (told_false told c.sundial_in_time.result c.sundial_in_time.ensures.told c.if-sundial_in_time-eq0.true) in
    answers_fault (AreInTime c.args.tick c.args.hardware count kept) (HasRestoreFault c.args.tick c.args.hardware count kept)
    c.code-then-sundial_in_time-eq0.result TooLate c.code-then-sundial_in_time-eq0.ensures
    (inr
    (refl, read_kept count kept c.in-Some.of_ports.now state.device state.lowered state.ticked (λ i. omega (arith, c.type_inv.bytes i)) c.in-Some.ensures.some, late))
    late
