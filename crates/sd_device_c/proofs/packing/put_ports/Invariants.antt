use Rattle.std.proofs.Common.{◌≡◌, ◌+◌, ◌*◌, ◌++◌, take, length}
use Rattle.std.specs.List.{flat_map}
use Rattle.sd_device_c.specs.Kept.{port_bytes}
use Rattle.sd_device_c.proofs.packing.put_ports.Given as goal

-- the ports so far are written
abbrev pub invariant-loop-port : goal.invariant-loop-port
invariant-loop-port l =
    record {
      end : l.at ≡ l.initial.at + 17 * l.port-index;
      bytes : take l.at l.bytes ≡ take l.initial.at l.initial.bytes ++ flat_map port_bytes (take l.port-index l.ports);
      size : length l.bytes ≡ length l.initial.bytes;
    }
