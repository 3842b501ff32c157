use Rattle.std.proofs.Common.{◌≡◌, drop, map, string_bytes}
use Rattle.sd_ctl_top.specs.Words.{same_words}
use Rattle.sd_ctl_top.proofs.words.are_same.Given as goal

-- the words so far are the same
abbrev pub invariant-loop-place : goal.invariant-loop-place
invariant-loop-place l =
    same_words (map string_bytes (drop l.place l.one)) (map string_bytes (drop l.place l.other))
    ≡ same_words (map string_bytes l.one) (map string_bytes l.other)
