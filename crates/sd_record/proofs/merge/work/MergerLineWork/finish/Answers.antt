use Rattle.std.proofs.Common.{subst, ◌∙◌, Err}
use Rattle.sd_io.specs.outside.Pieces.{AddsPieces, Pieces, piece_of}
use Rattle.sd_files.specs.Writes.{Adds}
use Rattle.sd_files.specs.declared.command_error.IoError.{IoError}
use Rattle.sd_files.specs.declared.command_error.IoError.TheVariants.{Sink}
use Rattle.sd_record.proofs.merge.Working.{all_written, last_due}
use Rattle.sd_record.proofs.merge.work.MergerLineWork.finish.Goals as goal

pub returns-in-Ok-clause-writes : goal.returns-in-Ok-clause-writes
returns-in-Ok-clause-writes g c =
    λ work xs does.
    subst (AddsPieces (g.O.Sink.written c.args.out.now) (g.O.Sink.written c.send_all.new.out))
    (last_due c.args.self.now c.as_slice.result.now work xs does
    (c.as_slice.ensures.value
    ∙ all_written c.args.self.now c.end_all.new.self c.settle.new.logs c.clear.new.self.items c.settle.new.text.items c.in_ok-end_all.ensures
    c.in_ok-settle.ensures c.clear.ensures.items work xs does))
    c.in-Ok.ensures.writes

pub returns-in-Err-clause-writes : goal.returns-in-Err-clause-writes
returns-in-Err-clause-writes g c =
    λ work xs does.
    (let written : Adds {T = Unit {0}} (piece_of c.as_slice.result.now) (g.O.Sink.written c.args.out.now) (g.O.Sink.written c.send_all.new.out) (Err Sink) =
    subst (λ (why : IoError). Adds {T = Unit {0}} (piece_of c.as_slice.result.now) (g.O.Sink.written c.args.out.now) (g.O.Sink.written c.send_all.new.out) (Err why))
    c.in-Err.ensures.only c.in-Err.ensures.writes in
    subst (λ (pieces : Pieces). Adds {T = Unit {0}} pieces (g.O.Sink.written c.args.out.now) (g.O.Sink.written c.send_all.new.out) (Err Sink))
    (last_due c.args.self.now c.as_slice.result.now work xs does
    (c.as_slice.ensures.value
    ∙ all_written c.args.self.now c.end_all.new.self c.settle.new.logs c.clear.new.self.items c.settle.new.text.items c.in_ok-end_all.ensures
    c.in_ok-settle.ensures c.clear.ensures.items work xs does))
    written)
