use Rattle.std.proofs.Common.{arith}
use Rattle.sd_io.proofs.stream.Ranges.{passed_range}
use Rattle.sd_io.proofs.stream.buffer.Buffer.pass.Goals as goal

pub returns-clause-rest : goal.returns-clause-rest
returns-clause-rest c = let old = c.args.self.now in passed_range old.bytes.items old.start old.end c.args.past (omega arith)
