use Rattle.std.proofs.Common.{◌≡◌, take, drop}
use Rattle.std.specs.List.{AllZip}
use Rattle.sd_device_c.specs.Ports.{IsLowered}
use Rattle.sd_device_c.proofs.ports.lower_all.Given as goal

-- the ports so far are lowered, and the others as they were
abbrev pub invariant-loop-port : goal.invariant-loop-port
invariant-loop-port l =
    AllZip (IsLowered l.by) (take l.port-index l.fn.ports) (take l.port-index l.ports)
    × (drop l.port-index l.ports ≡ drop l.port-index l.fn.ports)
