use Rattle.std.proofs.Common.{◌≡◌, ◌≤◌, ◌-◌, ◌^◌, [], IfSome}
use Rattle.sd_io.specs.stream.Reader.{bytes_before}
use Rattle.sd_history.specs.World.{Setting}
use Rattle.sd_resume.specs.command.Played.{HasPlayed}
use Rattle.sd_resume.proofs.command.Reaching.{HasReached}
use Rattle.sd_resume.proofs.command.playing.play_begun.Given as goal

-- the lines so far were played, and nothing else of the shelf has changed
abbrev pub invariant-lines : goal.invariant-lines
invariant-lines g l =
    let shelf = g.S.Shelf in
    record {
      come :
          (setting : Setting) → HasPlayed l.fn.replay setting []
          → IfSome (shelf.rest l.fn.shelf) (λ text. HasReached shelf l.fn.word setting text l.reader l.replay);
      within : bytes_before l.reader ≤ 2 ^ 32;
      steady : shelf.faults l.reader.shelf.now ≡ shelf.faults l.fn.shelf;
      same_held : shelf.held l.reader.shelf.now ≡ shelf.held l.fn.shelf;
      same_names : shelf.serves l.reader.shelf.now ≡ shelf.serves l.fn.shelf;
      same_shelf : l.reader.shelf.ghost_name ≡ l.initial.reader.shelf.ghost_name;
    }

-- each line takes at least its newline
abbrev pub decreases-lines : goal.decreases-lines
decreases-lines g l = 2 ^ 32 - bytes_before l.reader
