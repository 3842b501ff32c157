-- The checksum of bytes: the CRC of 32 bits that zlib, gzip and Ethernet have.
use Rattle.std.specs.Prelude.{ℕ, zero, suc, ◌-◌, ◌/◌, ◌%◌, ◌^◌, List, nat_eq, bit_xor, if◌then◌else◌}
use Rattle.std.specs.List.{fold}

-- the register moves on by one bit: where a one leaves it, the divisor is taken away
unfoldable pub turned : ℕ → ℕ
turned register = if nat_eq (register % 2) 1 then bit_xor (register / 2) 0xEDB88320 else register / 2

-- the register has moved on by this many bits
unfoldable pub turns : ℕ → ℕ → ℕ
turns zero register = register
turns (suc k) register = turned (turns k register)

-- the register after one more byte, which goes in by its lowest bit
unfoldable pub fed : ℕ → ℕ → ℕ
fed register byte = turns 8 (bit_xor register byte)

-- the checksum: the register begins as ones, and is turned over at the end
unfoldable pub crc_of : List ℕ → ℕ
crc_of bytes = 2 ^ 32 - 1 - fold fed (2 ^ 32 - 1) bytes
