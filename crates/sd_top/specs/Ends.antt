-- What a command leaves at the sink, before its end is a status.
use Rattle.std.specs.Prelude.{ℕ, List, Option, IfSome, Result}
use Rattle.sd_io.specs.outside.Pieces.{Pieces}
use Rattle.sd_files.specs.Texts.{texts_of}
use Rattle.sd_files.specs.declared.Status.{Status}
use Rattle.sd_files.specs.declared.command_error.IoError.{IoError}
use Rattle.sd_files.specs.work.Ending.{LeavesAt}
use Rattle.sd_top.specs.Promise.{WritesOf, task_of}
use Rattle.sd_top.specs.Words.{command_of}

-- the command of the words, where the texts are told
unfoldable pub MeetsResult : Option (List ℕ → Option (List ℕ)) → List (List ℕ) → Option Pieces → Option Pieces → Result Status IoError → Type 0
MeetsResult held words old new result =
    IfSome held (λ h. LeavesAt (task_of (command_of words)).in_steps (WritesOf (task_of (command_of words)) (texts_of h)) old new result)
