use Rattle.std.proofs.Common.{rules, [], refl, take}
use Rattle.sd_io.specs.outside.Pieces.{piece_of}
use Rattle.sd_io.proofs.outside.Cutting.{begun_by}
use Rattle.sd_io.proofs.outside.mem_sink.MemSinkSink.write.Goals as goal

pub returns-then-is_some-clause-front : goal.returns-then-is_some-clause-front
returns-then-is_some-clause-front c =
    record {
      whole = [];
      others = piece_of c.args.bytes.now;
      begun = piece_of (take c.min-count.result c.args.bytes.now);
      are = refl;
      front = begun_by c.args.bytes.now c.min-count.result;
      added = search rules;
    }
