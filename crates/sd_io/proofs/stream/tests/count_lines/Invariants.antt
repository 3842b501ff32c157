use Rattle.std.proofs.Common.{◌≡◌, ◌≤◌, ◌-◌, ◌^◌}
use Rattle.sd_io.specs.stream.Reader.{shelf_of, text_left, bytes_before}
use Rattle.sd_io.proofs.stream.Counted.{Counted}
use Rattle.sd_io.proofs.stream.tests.count_lines.Given as goal

abbrev pub invariant-lines : goal.invariant-lines
invariant-lines g l =
    let shelf = g.S.Shelf in
    record {
      counted : Counted (shelf.rest l.fn.shelf) (text_left shelf l.reader) l.count;
      within : bytes_before l.reader ≤ 2 ^ 32;
      fits : l.count ≤ bytes_before l.reader;
      steady : shelf.faults (shelf_of l.reader).now ≡ shelf.faults l.fn.shelf;
      same_shelf : (shelf_of l.reader).ghost_name ≡ (shelf_of l.initial.reader).ghost_name;
      same_held : shelf.held (shelf_of l.reader).now ≡ shelf.held l.fn.shelf;
      same_names : shelf.serves (shelf_of l.reader).now ≡ shelf.serves l.fn.shelf;
    }

abbrev pub decreases-lines : goal.decreases-lines
decreases-lines g l = 2 ^ 32 - bytes_before l.reader
