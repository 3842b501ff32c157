use Rattle.std.proofs.Common.{◌≡◌, ◌+◌, ◌*◌, ◌^◌, ◌<◌, length, drop, true}
use Rattle.std.specs.List.{list_all}
use Rattle.sd_num.specs.Decimals.{value, is_digit}
use Rattle.sd_num.proofs.decimals.value_of.Given as goal

-- the number so far is that of the bytes so far
abbrev pub invariant-loop-byte : goal.invariant-loop-byte
invariant-loop-byte l = record {
  meaning : value l.bytes ≡ l.value * 10 ^ length (drop l.byte-index l.bytes) + value (drop l.byte-index l.bytes);
  small : l.value < 2 ^ 64;
  digits : list_all is_digit (drop l.byte-index l.bytes) ≡ true;
}
