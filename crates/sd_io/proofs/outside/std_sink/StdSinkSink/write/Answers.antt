use Rattle.std.proofs.Common.{[], refl}
use Rattle.sd_io.specs.outside.Pieces.{piece_of}
use Rattle.sd_io.proofs.outside.std_sink.StdSinkSink.write.Goals as goal

pub returns-in-Err-clause-front : goal.returns-in-Err-clause-front
returns-in-Err-clause-front g c = record { whole = []; others = piece_of c.args.bytes.now; begun = []; are = refl; front = tt; added = refl }
