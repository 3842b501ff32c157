-- How a run ends: its exit code, and what is written on standard error.
use Rattle.std.specs.Prelude.{◌≡◌, ℕ, List, Option, None, Some}
use Rattle.std.specs.Process.{exit_status}
use Rattle.std.specs.declared.io.Error.{Error}
use Rattle.std.specs.declared.process.ExitCode.{ExitCode}
use Rattle.sd_io.specs.declared.outside.LastFault.{LastFault}
use Rattle.sd_files.specs.Statuses.{code_of}
use Rattle.sd_files.specs.declared.Status.{Status}
use Rattle.sd_files.specs.edge.Complaints.{complaint_of}

-- one call writes the complaint, where there is one; else there is no call
abbrev pub WritesIfSome : {S C : Type 0} → (S → C → S → Type 0) → Option C → S → S → Type 0
WritesIfSome writes None old new = new ≡ old
WritesIfSome writes (Some complaint) old new = writes old complaint new

-- the exit code is that of a status, and the complaint is that of the same status
pub record EndsRun {S : Type 0} (writes : S → List ℕ × Option Error → S → Type 0) (words : List (List ℕ)) (old new : S) (code : ExitCode) : Type 0 where
  pub status : Status
  pub fault : Option LastFault
  pub reason : Option Error
  pub exit : exit_status code ≡ code_of status
  pub says : WritesIfSome writes (complaint_of status words fault reason) old new
