use Rattle.std.proofs.Common.{◌≡◌, drop, map, string_bytes}
use Rattle.sd_ctl_top.specs.Words.{slash_from}
use Rattle.sd_ctl_top.proofs.words.slash_in.Given as goal

-- no word so far is a slash
abbrev pub invariant-loop-place : goal.invariant-loop-place
invariant-loop-place l = slash_from l.place (map string_bytes (drop l.place l.words)) ≡ slash_from 0 (map string_bytes l.words)
