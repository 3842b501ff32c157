use Rattle.std.proofs.Common.{◌≡◌, ◌+◌, ◌^◌, ◌<◌, take, drop, true}
use Rattle.std.specs.List.{list_all}
use Rattle.sd_num.specs.Decimals.{value, is_digit}
use Rattle.sd_num.specs.Digits.{leading_digits}
use Rattle.sd_num.proofs.decimals.leading_number.Given as goal

-- all bytes so far are digits, and the number so far is theirs
abbrev pub invariant-loop-place : goal.invariant-loop-place
invariant-loop-place l = record {
  further : leading_digits l.bytes ≡ l.place + leading_digits (drop l.place l.bytes);
  meaning : l.value ≡ value (take l.place l.bytes);
  digits : list_all is_digit (take l.place l.bytes) ≡ true;
  small : l.value < 10 ^ l.place;
}
