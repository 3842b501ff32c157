-- Calls of the system that are made again where a signal interrupted them.
use Rattle.std.specs.Prelude.{◌≡◌, ℕ, zero, suc, ◌-◌, ◌^◌, ◌≤◌, List, length, drop, Option, None, Some, Result, Ok, Err}
use Rattle.std.specs.IoError.{error_kind}
use Rattle.std.specs.declared.io.Error.{Error}
use Rattle.std.specs.declared.io.ErrorKind.TheVariants.{Interrupted, WriteZero}

-- this many calls in a row, each of which a signal interrupted
abbrev pub Interruptions : {S : Type 0} → (S → Error → S → Type 0) → ℕ → S → S → Type 0
Interruptions fails zero old new = old ≡ new
Interruptions {S} fails (suc count) old new =
    (last : S) × (reason : Error) × Interruptions fails count old last × fails last reason new × (error_kind reason ≡ Interrupted)

-- the last of several calls failed for this reason: a signal interrupted all before it, and not this one, or they were 2^64 - 1
pub record FailsFor {S : Type 0} (fails : S → Error → S → Type 0) (old : S) (reason : Error) (new : S) : Type 0 where
  pub count : ℕ
  pub last : S
  pub interrupted : Interruptions fails count old last
  pub failed : fails last reason new
  pub patient : error_kind reason ≡ Interrupted → 2 ^ 64 - 1 ≤ count

-- the last of several calls gave this: a signal interrupted all before it
pub record GivesAfter {S : Type 0} (fails : S → Error → S → Type 0) (gives : S → S → Type 0) (old new : S) : Type 0 where
  pub count : ℕ
  pub last : S
  pub interrupted : Interruptions fails count old last
  pub given : gives last new

-- the file that is open is one that the system opened by a call on this name
abbrev pub IsFileNamed : {S F : Type 0} → (S → List ℕ → Error → S → Type 0) → (S → List ℕ → F → S → Type 0) → List ℕ → S → Option F → S → Type 0
IsFileNamed refuses opens name old None new = ⊥
IsFileNamed refuses opens name old (Some file) new = GivesAfter (λ a e b. refuses a name e b) (λ a b. opens a name file b) old new

-- why a write failed: the system's reason, or that it took no byte
abbrev pub IsReasonOf : Result ℕ Error → Error → Type 0
IsReasonOf (Ok count) reason = (count ≡ 0) × (error_kind reason ≡ WriteZero)
IsReasonOf (Err given) reason = reason ≡ given

-- a write of these bytes failed for this reason
abbrev pub WriteFails : {S : Type 0} → (S → List ℕ → Result ℕ Error → S → Type 0) → List ℕ → S → Error → S → Type 0
WriteFails answers bytes old reason new = (answer : Result ℕ Error) × answers old bytes answer new × IsReasonOf answer reason

-- the last write failed for this reason: it was of the bytes that were left of these
pub record WriteFailsFor {S : Type 0} (answers : S → List ℕ → Result ℕ Error → S → Type 0) (bytes : List ℕ) (reason : Error) (new : S) : Type 0 where
  pub before : S
  pub done : ℕ
  pub within : done ≤ length bytes
  pub failed : FailsFor (WriteFails answers (drop done bytes)) before reason new

-- the file that is read failed for this reason
abbrev pub FileFails : {F : Type 0} → (F → Error → F → Type 0) → Option F → Error → Option F → Type 0
FileFails fails (Some old) reason (Some new) = FailsFor fails old reason new
FileFails fails _ reason _ = ⊥
