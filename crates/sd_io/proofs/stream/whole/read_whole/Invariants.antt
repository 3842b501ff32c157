use Rattle.std.proofs.Common.{◌≡◌, ◌+◌, ◌^◌, ◌≤◌, ◌-◌, vec_len, IsTrue, length}
use Rattle.std.specs.Io.KnownBytes.{Consumes}
use Rattle.sd_io.proofs.stream.whole.read_whole.Given as goal

-- what was read so far is what the shelf gave
abbrev pub invariant-loop-piece : goal.invariant-loop-piece
invariant-loop-piece g l =
    let shelf = g.S.Shelf in
    record {
      read : Consumes (shelf.rest l.fn.shelf) (shelf.rest l.shelf) l.bytes.items;
      short : vec_len l.bytes ≤ 2 ^ 26 + 4096;
      room : 4096 ≡ length l.piece;
      begun : IsTrue (shelf.begun l.shelf);
      steady : shelf.faults l.shelf ≡ shelf.faults l.fn.shelf;
      same_held : shelf.held l.shelf ≡ shelf.held l.fn.shelf;
      same_names : shelf.serves l.shelf ≡ shelf.serves l.fn.shelf;
    }

abbrev pub decreases-loop-piece : goal.decreases-loop-piece
decreases-loop-piece g l = 2 ^ 26 + 1 - vec_len l.bytes
