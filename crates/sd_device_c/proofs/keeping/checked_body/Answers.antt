use Rattle.std.proofs.Common.{arith, sym, ◌∙◌, ◌≤◌, length}
use Rattle.sd_device_c.proofs.Saying.{last_is, is_checked, not_checked, too_short, no_result}
use Rattle.sd_device_c.proofs.keeping.checked_body.Goals as goal

pub returns-in_err-body-clause-none : goal.returns-in_err-body-clause-none
returns-in_err-body-clause-none c =
    no_result c.from_residual.result (too_short c.args.bytes.now c.in_err-body.ensures.cases)

pub returns-then-from_le_bytes-crc-clause-some : goal.returns-then-from_le_bytes-crc-clause-some
returns-then-from_le_bytes-crc-clause-some c =
    let long : 4 ≤ length c.args.bytes.now = omega (arith, c.in_ok-body.ensures.cases.2) in
    is_checked c.args.bytes.now c.in_ok-body.body.now c.from_le_bytes.result
    (last_is c.args.bytes.now c.in_ok-body.body.now c.in_ok-body.check.now c.from_le_bytes.result c.from_le_bytes.type_inv long
    (λ i. omega (arith, c.type_inv.bytes i)) c.in_ok-body.ensures.cases.0 c.in_ok-body.ensures.cases.1 c.from_le_bytes.ensures)
    (c.if-from_le_bytes-crc.true ∙ c.crc.ensures)

pub returns-else-from_le_bytes-crc-clause-none : goal.returns-else-from_le_bytes-crc-clause-none
returns-else-from_le_bytes-crc-clause-none c =
    let long : 4 ≤ length c.args.bytes.now = omega (arith, c.in_ok-body.ensures.cases.2) in
    not_checked c.args.bytes.now c.in_ok-body.body.now c.from_le_bytes.result
    (last_is c.args.bytes.now c.in_ok-body.body.now c.in_ok-body.check.now c.from_le_bytes.result c.from_le_bytes.type_inv long
    (λ i. omega (arith, c.type_inv.bytes i)) c.in_ok-body.ensures.cases.0 c.in_ok-body.ensures.cases.1 c.from_le_bytes.ensures)
    (λ right. c.if-from_le_bytes-crc.false (right ∙ sym c.crc.ensures))
