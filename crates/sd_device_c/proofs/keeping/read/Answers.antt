use Rattle.std.proofs.Common.{arith, ◌≡◌, ◌+◌, ◌*◌, length}
use Rattle.sd_device_c.proofs.Saying.{unchecked, unheaded, unsized, unsound, is_read, no_result}
use Rattle.sd_device_c.proofs.keeping.read.Goals as goal

pub returns-in_err-body-clause-none : goal.returns-in_err-body-clause-none
returns-in_err-body-clause-none c =
    no_result c.from_residual.result (unchecked c.args.ports c.args.bytes.now c.in_err-body.ensures.none)

pub returns-in_err-rest-clause-none : goal.returns-in_err-rest-clause-none
returns-in_err-rest-clause-none c =
    no_result c.from_residual-in_err-rest.result
    (unheaded c.args.ports c.args.bytes.now c.in_ok-body.body.now c.in_ok-body.ensures.some c.in_err-rest.ensures.none)

pub returns-then-rest-ports-clause-none : goal.returns-then-rest-ports-clause-none
returns-then-rest-ports-clause-none c =
    unsized c.args.ports c.args.bytes.now c.in_ok-body.body.now c.in_ok-rest.rest.now c.in_ok-body.ensures.some c.in_ok-rest.ensures.some
    (λ long. c.if-rest-ports.true long)

pub returns-in_default-clause-none : goal.returns-in_default-clause-none
returns-in_default-clause-none c =
    unsound c.args.ports c.args.bytes.now c.in_ok-body.body.now c.in_ok-rest.rest.now c.next_state.result.1.now c.next_state.result.0.device
    c.next_state.result.0.lowered c.next_state.result.0.ticked c.in_ok-body.ensures.some c.in_ok-rest.ensures.some c.next_state.ensures.bytes
    c.in_default.ensures.err.1

pub returns-clause-some : goal.returns-clause-some
returns-clause-some c =
    let long : length c.in_ok-rest.rest.now ≡ 298 + 17 * c.args.ports = omega (arith, c.if-rest-ports.false) in
    is_read c.args.ports c.args.bytes.now c.in_ok-body.body.now c.in_ok-rest.rest.now c.next_state.result.1.now c.next_state.result.0.device
    c.next_state.result.0.lowered c.next_state.result.0.ticked c.in_ok-body.ensures.some c.in_ok-rest.ensures.some c.next_state.ensures.bytes long
    (c.in-Ok.field-0, c.in-Ok.ensures.ok)
