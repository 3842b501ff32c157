-- What one line of a text does.
use Rattle.std.specs.Prelude.{ℕ, ◌+◌, List, [], ◌∷◌, length, Result, Ok, Err, codes, if◌then◌else◌}
use Rattle.std.specs.List.{list_any}
use Rattle.sd_io.specs.outside.Pieces.{Pieces, piece_of}
use Rattle.sd_files.specs.declared.Status.{Status}
use Rattle.sd_files.specs.declared.Status.TheVariants.{InputRefused}
use Rattle.sd_files.specs.work.Works.{Work, judged, refused_line}

-- what comes next in a text: a line that gives something, or the end of the run with its last pieces and its status
pub data Step (E : Type 0) : Type 0 where
  Next : E → Step E
  Last : (pieces : Pieces) → Status → Step E

module _ {E : Type 0} (work : Work E) where
  -- the step at which the text is refused
  abbrev pub refused_step : List E → List ℕ → Step E
  refused_step taken why = Last (piece_of (refused_line work (length taken + 1) why)) InputRefused

  -- the step that a line makes: it is accepted, or the text is refused
  abbrev pub step_for : List E → Result E (List ℕ) → Step E
  step_for taken (Ok x) = Next x
  step_for taken (Err why) = refused_step taken why

  -- the step where the text has ended
  abbrev pub end_step : List E → Step E
  end_step taken = if list_any work.ends taken then Last (work.last_pieces taken) (work.last_status taken) else refused_step taken (codes "NoEnd")

  -- the step after these, of the lines from a place of the text on
  abbrev pub step_of : ℕ → ℕ → List E → List (List ℕ) → Step E
  step_of total start taken [] = end_step taken
  step_of total start taken (line ∷ others) = step_for taken (judged work total start taken line)

  -- what a step writes: a line is written for by one write, where there is something to write
  abbrev pub step_pieces : List E → Step E → Pieces
  step_pieces taken (Next x) = piece_of (work.bytes taken x)
  step_pieces taken (Last pieces status) = pieces
