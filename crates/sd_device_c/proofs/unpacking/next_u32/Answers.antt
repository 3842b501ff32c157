use Rattle.std.proofs.Common.{arith}
use Rattle.sd_device_c.proofs.Bytes.{next_4}
use Rattle.sd_device_c.proofs.unpacking.next_u32.Goals as goal

pub returns-clause-bytes : goal.returns-clause-bytes
returns-clause-bytes c =
    next_4 c.args.bytes.now c.in-Some.number.now c.in-Some.rest.now c.from_le_bytes.result c.from_le_bytes.type_inv c.requires
    (λ i. omega (arith, c.type_inv.bytes i)) c.in-Some.ensures.cases.0 c.in-Some.ensures.cases.1 c.from_le_bytes.ensures
