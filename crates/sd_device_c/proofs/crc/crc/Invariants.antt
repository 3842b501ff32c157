use Rattle.std.proofs.Common.{◌≡◌, ◌-◌, ◌^◌, take}
use Rattle.std.specs.List.{fold}
use Rattle.sd_device_c.specs.Crc.{fed}
use Rattle.sd_device_c.proofs.crc.crc.Given as goal

-- the register is that of the bytes so far
abbrev pub invariant-loop-byte : goal.invariant-loop-byte
invariant-loop-byte l = l.register ≡ fold fed (2 ^ 32 - 1) (take l.byte-index l.bytes)
