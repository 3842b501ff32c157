use Rattle.std.proofs.Common.{arith}
use Rattle.std.proofs.KnownBytes.{Keeps-refl}
use Rattle.sd_io.specs.stream.Buffered.{buffered}
use Rattle.sd_io.specs.stream.Reader.{text_left}
use Rattle.sd_io.proofs.stream.Left.{line_left, past_line}
use Rattle.sd_io.proofs.stream.Windows.{line_in_window, line_of_window}
use Rattle.sd_io.proofs.stream.reader.LineReader+S.pass_line.Goals as goal

pub returns-clause-answer : goal.returns-clause-answer
returns-clause-answer g c =
    let old = c.args.self.now in
    let is = line_in_window old.before (buffered old.buffer) c.args.len old.within c.requires in
    let line = line_of_window old.before (buffered old.buffer) c.args.len c.requires in
    rw line (line_left old.before (text_left g.S.Shelf old) _ (buffered old.buffer) c.args.len (Keeps-refl (text_left g.S.Shelf old)) is)

pub returns-clause-past : goal.returns-clause-past
returns-clause-past g c =
    let old = c.args.self.now in
    let is = line_in_window old.before (buffered old.buffer) c.args.len old.within c.requires in
    rw c.pass.ensures.shelf
    (past_line old.before _ (text_left g.S.Shelf old) _ (buffered old.buffer) _ c.args.len (Keeps-refl (text_left g.S.Shelf old)) is c.pass.ensures.rest
    (omega (arith, c.pass.ensures.before)))
