use Rattle.std.proofs.Common.{◌≡◌, bit_xor}
use Rattle.sd_device_c.specs.Crc.{turns}
use Rattle.sd_device_c.proofs.crc.feed.Given as goal

-- the register has moved on by this many bits
abbrev pub invariant-loop : goal.invariant-loop
invariant-loop l = l.after ≡ turns l.counter (bit_xor l.register l.byte)
