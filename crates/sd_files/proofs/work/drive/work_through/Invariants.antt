use Rattle.std.proofs.Common.{◌≡◌, ◌≤◌, ◌-◌, ◌^◌, [], IfSome}
use Rattle.sd_io.specs.stream.Reader.{bytes_before}
use Rattle.sd_files.specs.work.Works.{Work}
use Rattle.sd_files.specs.work.Comes.{HasCome}
use Rattle.sd_files.specs.work.Progresses.{HasAccepted}
use Rattle.sd_files.proofs.work.drive.work_through.Given as goal

-- the lines so far were taken and written, and nothing else of the shelf has changed
abbrev pub invariant-lines : goal.invariant-lines
invariant-lines g l =
    let shelf = g.S.Shelf in
    let sink = g.O.Sink in
    record {
      come :
          (w : Work g.row.W-Item.Denot) → g.W.LineWork.does l.fn.work w []
          → IfSome (shelf.rest l.fn.shelf)
          (λ text. HasCome shelf w (HasAccepted g.W.LineWork l.progress w) text l.reader (sink.written l.fn.out) (sink.written l.out));
      within : bytes_before l.reader ≤ 2 ^ 32;
      counted : l.progress.taken ≤ bytes_before l.reader;
      steady : shelf.faults l.reader.shelf.now ≡ shelf.faults l.fn.shelf;
      sink_steady : sink.faults l.out ≡ sink.faults l.fn.out;
      same_held : shelf.held l.reader.shelf.now ≡ shelf.held l.fn.shelf;
      same_names : shelf.serves l.reader.shelf.now ≡ shelf.serves l.fn.shelf;
      same_shelf : l.reader.shelf.ghost_name ≡ l.initial.reader.shelf.ghost_name;
    }

-- each line takes at least its newline
abbrev pub decreases-lines : goal.decreases-lines
decreases-lines g l = 2 ^ 32 - bytes_before l.reader
