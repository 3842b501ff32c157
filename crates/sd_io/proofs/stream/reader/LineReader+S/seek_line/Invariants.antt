use Rattle.std.proofs.Common.{◌≡◌, ◌≤◌, ◌+◌, ◌-◌, ◌^◌, IfErr, Err, length}
use Rattle.std.specs.Io.KnownBytes.{Keeps}
use Rattle.sd_io.specs.stream.Lines.{line_len}
use Rattle.sd_io.specs.stream.Buffered.{buffered}
use Rattle.sd_io.specs.stream.Reader.{text_left, bytes_before, buffered_answer}
use Rattle.sd_io.proofs.stream.reader.LineReader+S.seek_line.Given as goal

-- the text that is left stays, and so does a refusal that stood in the buffer; the bytes that were searched hold no newline
abbrev pub invariant-turns : goal.invariant-turns
invariant-turns g l =
    let shelf = g.S.Shelf in
    record {
      left : Keeps (text_left shelf l.fn.self) (text_left shelf l.self);
      before : bytes_before l.self ≡ bytes_before l.fn.self;
      repeats : IfErr (buffered_answer l.fn.self) (λ f. buffered_answer l.self ≡ Err f);
      searched : l.searched ≤ line_len (buffered l.self.buffer);
      among : l.searched ≤ length (buffered l.self.buffer);
      short : l.searched ≤ 4096;
      within : bytes_before l.self + l.searched ≤ 2 ^ 32;
      steady : shelf.faults l.self.shelf.now ≡ shelf.faults l.fn.self.shelf.now;
      same_shelf : l.self.shelf.ghost_name ≡ l.fn.self.shelf.ghost_name;
      same_held : shelf.held l.self.shelf.now ≡ shelf.held l.fn.self.shelf.now;
      same_names : shelf.serves l.self.shelf.now ≡ shelf.serves l.fn.self.shelf.now;
    }

abbrev pub decreases-turns : goal.decreases-turns
decreases-turns g l = 8192 - length (buffered l.self.buffer)
