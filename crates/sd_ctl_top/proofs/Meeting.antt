-- What a command leaves at the sink is what it answers, and then what the run answers.
use Rattle.std.proofs.Common.{◌≡◌, ℕ, ◌∙◌, false, List, Option, Some, None, Result, Ok, Err, ap, arith, refl, sym, subst}
use Rattle.std.specs.Prelude.{IfSome, IsTrue}
use Rattle.sd_io.specs.outside.Causes.{RisesFor}
use Rattle.sd_io.specs.outside.Pieces.{Pieces}
use Rattle.sd_drill_text.proofs.Commands.{leaves_written}
use Rattle.sd_files.proofs.work.Leaving.{leaves_once}
use Rattle.sd_files.specs.Answering.{Allowed, AtOnce, InWrites}
use Rattle.sd_files.specs.Statuses.{is_among, stop_of}
use Rattle.sd_files.specs.Stops.{status_of}
use Rattle.sd_files.specs.Texts.{Texts, texts_of}
use Rattle.sd_files.specs.Writes.{IsAllowed, HasOutput, WritesOnce}
use Rattle.sd_files.specs.declared.Status.{Status}
use Rattle.sd_files.specs.declared.Status.TheVariants.{ShelfFault, SinkFault, Memory}
use Rattle.sd_files.specs.declared.command_error.Answer.{Answer}
use Rattle.sd_files.specs.declared.command_error.CommandError.{CommandError}
use Rattle.sd_files.specs.declared.command_error.IoError.{IoError}
use Rattle.sd_files.specs.declared.command_error.IoError.TheVariants as stop
use Rattle.sd_files.specs.work.Ending.{LeavesAt}
use Rattle.sd_files.specs.work.Leaving.{Leaves}
use Rattle.sd_ctl_top.specs.Promise.{IsUsageLine, IsVersionLine, MeetsOutcome, MeetsResult, task_of}
use Rattle.sd_ctl_top.specs.Words.{Command, command_of}
use Rattle.sd_ctl_top.specs.Words.Command.{Search, Renew, Why, Bounds, Resume, Record, Merge, Version}

-- the command of the words meets its task
pub meets : (held : Option (List ℕ → Option (List ℕ))) (words : List (List ℕ)) (command : Option Command) (old new : Option Pieces)
    (result : Result Status IoError) → command ≡ command_of words
    → IfSome held (λ h. LeavesAt (task_of command).in_steps ((task_of command).Writes (texts_of h)) old new result) → MeetsResult held words old new result
unfolding MeetsResult
meets None words command old new result is leaves = tt
meets (Some h) words command old new result is leaves =
    subst (λ (c : Option Command). LeavesAt (task_of c).in_steps ((task_of c).Writes (texts_of h)) old new result) is leaves

-- what was made is written by one write
pub made_once : (held : Option (List ℕ → Option (List ℕ))) (Answers : Texts → Allowed) (made : Result Answer CommandError) (old new : Option Pieces)
    (result : Result Status IoError) → IfSome held (λ h. IsAllowed (Answers (texts_of h)) made) → WritesOnce (HasOutput made) old new result
    → IfSome held (λ h. LeavesAt false (InWrites AtOnce (Answers (texts_of h))) old new result)
made_once None Answers made old new result makes writes = tt
made_once (Some h) Answers made old new result makes writes = leaves_once (Answers (texts_of h)) made old new result makes writes

-- a line that no file has a part in
line_once : (held : Option (List ℕ → Option (List ℕ))) (IsLine : Allowed) (old new : Option Pieces) (result : Result Status IoError)
    → WritesOnce IsLine old new result
    → IfSome held (λ h. LeavesAt false (InWrites AtOnce IsLine) old new result)
line_once None IsLine old new result writes = tt
line_once (Some h) IsLine old new result writes = leaves_written IsLine old new result writes

-- words that are no command
pub usage_meets : (held : Option (List ℕ → Option (List ℕ))) (words : List (List ℕ)) (old new : Option Pieces) (result : Result Status IoError)
    → None ≡ command_of words → WritesOnce IsUsageLine old new result → MeetsResult held words old new result
usage_meets held words old new result is writes = meets held words None old new result is (line_once held IsUsageLine old new result writes)

pub version_meets : (held : Option (List ℕ → Option (List ℕ))) (words : List (List ℕ)) (old new : Option Pieces) (result : Result Status IoError)
    → Some Version ≡ command_of words → WritesOnce IsVersionLine old new result → MeetsResult held words old new result
version_meets held words old new result is writes =
    meets held words (Some Version) old new result is (line_once held IsVersionLine old new result writes)

-- no command answers a status of a run that was stopped
pub never_stopped : (command : Option Command) (status : Status) → IsTrue (is_among (task_of command).gives status) → stop_of status ≡ None
never_stopped None ShelfFault among = cc
never_stopped None SinkFault among = cc
never_stopped None Memory among = cc
never_stopped (Some (Search topology settings)) ShelfFault among = cc
never_stopped (Some (Search topology settings)) SinkFault among = cc
never_stopped (Some (Search topology settings)) Memory among = cc
never_stopped (Some (Renew topology plan absent settings)) ShelfFault among = cc
never_stopped (Some (Renew topology plan absent settings)) SinkFault among = cc
never_stopped (Some (Renew topology plan absent settings)) Memory among = cc
never_stopped (Some (Why topology)) ShelfFault among = cc
never_stopped (Some (Why topology)) SinkFault among = cc
never_stopped (Some (Why topology)) Memory among = cc
never_stopped (Some (Bounds topology plan budget)) ShelfFault among = cc
never_stopped (Some (Bounds topology plan budget)) SinkFault among = cc
never_stopped (Some (Bounds topology plan budget)) Memory among = cc
never_stopped (Some (Resume topology plans left schedule opening)) ShelfFault among = cc
never_stopped (Some (Resume topology plans left schedule opening)) SinkFault among = cc
never_stopped (Some (Resume topology plans left schedule opening)) Memory among = cc
never_stopped (Some (Record topology plans log)) ShelfFault among = cc
never_stopped (Some (Record topology plans log)) SinkFault among = cc
never_stopped (Some (Record topology plans log)) Memory among = cc
never_stopped (Some (Merge logs feed)) ShelfFault among = cc
never_stopped (Some (Merge logs feed)) SinkFault among = cc
never_stopped (Some (Merge logs feed)) Memory among = cc
never_stopped (Some Version) ShelfFault among = cc
never_stopped (Some Version) SinkFault among = cc
never_stopped (Some Version) Memory among = cc
never_stopped _ _ among = refl

-- a run that ended
pub ended_is : (held : Option (List ℕ → Option (List ℕ))) (words : List (List ℕ)) (old new : Option Pieces) (status : Status)
    → IsTrue (is_among (task_of (command_of words)).gives status) → MeetsResult held words old new (Ok status) → MeetsOutcome held words old new status
unfolding MeetsResult MeetsOutcome
ended_is None words old new status among meets = tt
ended_is (Some h) words old new status among meets =
    subst
    (λ (why : Option IoError).
    Leaves why (task_of (command_of words)).in_steps ((task_of (command_of words)).Writes (texts_of h)) old new status)
    (sym (never_stopped (command_of words) status among)) meets

-- a run that was stopped
pub stopped_is : (held : Option (List ℕ → Option (List ℕ))) (words : List (List ℕ)) (old new : Option Pieces) (why : IoError) (status : Status)
    → status ≡ status_of why → MeetsResult held words old new (Err why) → MeetsOutcome held words old new status
unfolding MeetsResult MeetsOutcome
stopped_is None words old new why status is meets = tt
stopped_is (Some h) words old new stop.Shelf status is meets = rw is meets
stopped_is (Some h) words old new stop.Sink status is meets = rw is meets
stopped_is (Some h) words old new stop.Memory status is meets = rw is meets

-- the count of a run that ended stays
pub ended_rises : (words : List (List ℕ)) (status blamed : Status) (why : IoError) (before now : ℕ)
    → IsTrue (is_among (task_of (command_of words)).gives status) → stop_of blamed ≡ Some why → now ≡ before → RisesFor (status ≡ blamed) before now
ended_rises words status blamed why before now among stops same =
    record {
      later = omega (arith, same);
      rose = λ is. let none : stop_of status ≡ None = never_stopped (command_of words) status among in
          let some : stop_of status ≡ Some why = ap stop_of is ∙ stops in cc;
      steady = λ none. same;
    }

-- that of one which was stopped rose where it is blamed: by the shelf, or by the sink
pub stopped_rises : (why blamed : IoError) (status : Status) (before now : ℕ) → status ≡ status_of why → RisesFor ((λ (r : Result Status IoError). r ≡ Err blamed) (Err why)) before now
    → RisesFor (status ≡ status_of blamed) before now
stopped_rises stop.Shelf stop.Shelf status before now is r = record { later = r.later; rose = λ e. r.rose refl; steady = λ none. absurd (none is) }
stopped_rises stop.Sink stop.Sink status before now is r = record { later = r.later; rose = λ e. r.rose refl; steady = λ none. absurd (none is) }
stopped_rises stop.Memory stop.Memory status before now is r = record { later = r.later; rose = λ e. r.rose refl; steady = λ none. absurd (none is) }
stopped_rises stop.Shelf stop.Sink status before now is r = record { later = r.later; rose = λ e. cc; steady = λ none. r.steady (λ e. cc) }
stopped_rises stop.Shelf stop.Memory status before now is r = record { later = r.later; rose = λ e. cc; steady = λ none. r.steady (λ e. cc) }
stopped_rises stop.Sink stop.Shelf status before now is r = record { later = r.later; rose = λ e. cc; steady = λ none. r.steady (λ e. cc) }
stopped_rises stop.Sink stop.Memory status before now is r = record { later = r.later; rose = λ e. cc; steady = λ none. r.steady (λ e. cc) }
stopped_rises stop.Memory stop.Shelf status before now is r = record { later = r.later; rose = λ e. cc; steady = λ none. r.steady (λ e. cc) }
stopped_rises stop.Memory stop.Sink status before now is r = record { later = r.later; rose = λ e. cc; steady = λ none. r.steady (λ e. cc) }
