use Rattle.std.proofs.Common.{arith}
use Rattle.sd_device_c.specs.Ports.{IsLowered}
use Rattle.sd_device_c.proofs.Lowering.{one_more}
use Rattle.sd_device_c.proofs.ports.lower_all.Goals as goal

pub loop-port-preserved : goal.loop-port-preserved
loop-port-preserved c =
    one_more
    (IsLowered c.args.by)
    c.args.ports.now
    c.loop-port.ports
    c.loop-port.port-index
    _
    c.lower.result
    (grind (arith, c.loop-port-test.true, c.loop-port.auto.ports, c.loop-port.auto.port-index-end))
    c.loop-port.invariant
    c.lower.ensures
