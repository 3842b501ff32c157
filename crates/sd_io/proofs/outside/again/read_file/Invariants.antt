use Rattle.std.proofs.Common.{◌≡◌, length}
use Rattle.std.specs.Io.KnownBytes.{Keeps}
use Rattle.sd_io.specs.outside.Reasons.{Interruptions}
use Rattle.sd_io.proofs.outside.again.read_file.Given as goal

-- each call so far was interrupted, and took nothing
abbrev pub invariant-loop : goal.invariant-loop
invariant-loop g l = record {
  room : length l.buf ≡ length l.initial.buf;
  kept : Keeps (g.S.SystemFile.left l.initial.source) (g.S.SystemFile.left l.source);
  interrupted : Interruptions g.S.SystemFile.fails l.counter l.initial.source l.source;
}
