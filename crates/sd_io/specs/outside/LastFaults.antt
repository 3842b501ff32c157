-- What the adapters of the system keep of a call that failed.
use Rattle.std.specs.Prelude.{◌≡◌, ℕ, Option, Some, Result, Ok, Err}
use Rattle.std.specs.declared.io.Error.{Error}
use Rattle.sd_io.specs.declared.outside.file_shelf.LastFault.{LastFault}

-- after a call on the file with this number: the last fault is one of this file, for the reason that the call failed for, and else
-- the one before
abbrev pub KeepsFault : {T E : Type 0} → (Error → Type 0) → ℕ → Option LastFault → Option LastFault → Result T E → Type 0
KeepsFault fails file old new (Ok _) = new ≡ old
KeepsFault fails file old new (Err _) = (reason : Error) × fails reason × (new ≡ Some (record { file = file; reason = reason }))

-- after a write: the last reason is the one that it failed for, and else the one before
abbrev pub KeepsReason : {T E : Type 0} → (Error → Type 0) → Option Error → Option Error → Result T E → Type 0
KeepsReason fails old new (Ok _) = new ≡ old
KeepsReason fails old new (Err _) = (reason : Error) × fails reason × (new ≡ Some reason)
