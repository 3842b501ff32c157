use Rattle.std.proofs.Common.{arith, refl, length}
use Rattle.sd_device_c.specs.Kept.{Says, AreKept, IsNotKept}
use Rattle.sd_device_c.proofs.Saying.{answers_done, says_read, says_only, shows_spoiling}
use Rattle.sd_device_c.proofs.keeping.sundial_kept.Goals as goal

pub returns-clause-said : goal.returns-clause-said
returns-clause-said c = λ done.
    says_read (length c.args.ports.now) c.args.bytes.now c.in-Some.of_ports.now c.in-Some.state.device c.read_ports.new.ports c.in-Some.state.lowered
    c.in-Some.state.ticked c.in-Some.ensures.some c.read_ports.ensures c.read_ports.auto.ports

pub returns-clause-answer : goal.returns-clause-answer
returns-clause-answer c =
    let says : Says c.args.bytes.now c.in-Some.state.device c.read_ports.new.ports c.in-Some.state.lowered c.in-Some.state.ticked =
    returns-clause-said c refl in
    answers_done (AreKept (length c.args.ports.now) c.args.bytes.now) (IsNotKept (length c.args.ports.now) c.args.bytes.now)
    (c.in-Some.state.device, c.read_ports.new.ports, c.in-Some.state.lowered, c.in-Some.state.ticked, c.read_ports.auto.ports, says)

pub returns-clause-only : goal.returns-clause-only
returns-clause-only c = λ done.
    says_only c.args.bytes.now c.in-Some.state.device c.read_ports.new.ports c.in-Some.state.lowered c.in-Some.state.ticked
    (returns-clause-said c done).bytes

pub returns-clause-spoiled : goal.returns-clause-spoiled
returns-clause-spoiled c = λ done.
    shows_spoiling (length c.args.ports.now) c.args.bytes.now c.in-Some.state.device c.read_ports.new.ports c.in-Some.state.lowered
    c.in-Some.state.ticked (returns-clause-said c done).bytes (λ i. omega (arith, c.type_inv.bytes i))
