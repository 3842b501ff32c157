use Rattle.std.proofs.Common.{arith}
use Rattle.sd_io.proofs.outside.Written.{Appends-more}
use Rattle.sd_io.proofs.outside.again.write_whole.Goals as goal

pub loop-done-preserved : goal.loop-done-preserved
loop-done-preserved g c = record {
  within = omega (arith, c.in_ok-done.ensures.some);
  added = Appends-more _ _ _ c.args.bytes.now c.loop-done.done c.in_ok-done.field-0 c.loop-done.invariant.added c.in_ok-done.ensures.bytes;
}
