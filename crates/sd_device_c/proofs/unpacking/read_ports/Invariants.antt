use Rattle.std.proofs.Common.{◌≡◌, ◌+◌, ◌*◌, ◌++◌, take, length}
use Rattle.std.specs.List.{flat_map}
use Rattle.sd_device_c.specs.Kept.{port_bytes}
use Rattle.sd_device_c.proofs.unpacking.read_ports.Given as goal

-- the ports so far are read, and the rest is that of the others
abbrev pub invariant-loop-port : goal.invariant-loop-port
invariant-loop-port l =
    record {
      bytes : l.bytes ≡ flat_map port_bytes (take l.port-index l.ports) ++ l.rest;
      size : 17 * l.port-index + length l.rest ≡ 17 * length l.ports;
    }
