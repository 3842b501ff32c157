use Rattle.std.specs.Io.KnownBytes.{Keeps}
use Rattle.sd_io.specs.outside.Reasons.{Interruptions, WriteFails}
use Rattle.sd_io.proofs.outside.again.write_again.Given as goal

-- each call so far was interrupted, and added nothing
abbrev pub invariant-loop : goal.invariant-loop
invariant-loop g l = record {
  kept : Keeps (g.W.SystemWriter.taken l.initial.writer) (g.W.SystemWriter.taken l.writer);
  interrupted : Interruptions (WriteFails g.W.SystemWriter.answers l.bytes) l.counter l.initial.writer l.writer;
}
