-- What the adapters of the system are seen as.
use Rattle.std.specs.Prelude.{ℕ, Bool, List, Option}
use Rattle.std.specs.declared.io.Error.{Error}
use Rattle.sd_io.specs.declared.outside.file_shelf.LastFault.{LastFault}

-- what is seen of a shelf over files: the system's files, the one that is open, whether one is, what it has left, where the
-- system's type tells that, how many times `begin` was called, the last fault, and the count of faults
pub record Opened (Files File : Type 0) : Type 0 where
  pub files : Files
  pub file : Option File
  pub begun : Bool
  pub left : Option (List ℕ)
  pub begins : ℕ
  pub last_fault : Option LastFault
  pub faults : ℕ

-- what is seen of a sink over a writer: the writer, what it holds, where its type tells that, why its last fault came, and the
-- count of faults
pub record Counted (Writer : Type 0) : Type 0 where
  pub writer : Writer
  pub taken : Option (List ℕ)
  pub last_fault : Option Error
  pub faults : ℕ
