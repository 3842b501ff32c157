-- Calls that are made again.
use Rattle.std.proofs.Common.{◌≡◌, ℕ, ◌+◌, ◌-◌, ◌^◌, ◌≤◌, add-one}
use Rattle.std.specs.IoError.{error_kind}
use Rattle.std.specs.declared.io.Error.{Error}
use Rattle.std.specs.declared.io.ErrorKind.TheVariants.{Interrupted}
use Rattle.sd_io.specs.outside.Reasons.{Interruptions, FailsFor, GivesAfter}

-- one more call was interrupted
pub interruptions_more : {S : Type 0} (fails : S → Error → S → Type 0) (n : ℕ) (old last new : S) (reason : Error)
    → Interruptions fails n old last → fails last reason new → error_kind reason ≡ Interrupted → Interruptions fails (n + 1) old new
interruptions_more fails n old last new reason before failed kind = rw (add-one n) (last, reason, before, failed, kind)

-- the last call failed, and was not interrupted
pub fails_at_once : {S : Type 0} (fails : S → Error → S → Type 0) (n : ℕ) (old last new : S) (reason : Error)
    → Interruptions fails n old last → fails last reason new → (error_kind reason ≡ Interrupted → ⊥) → FailsFor fails old reason new
fails_at_once fails n old last new reason before failed other =
    record { count = n; last = last; interrupted = before; failed = failed; patient = λ kind. absurd (other kind) }

-- the last call of 2^64 failed
pub fails_at_last : {S : Type 0} (fails : S → Error → S → Type 0) (n : ℕ) (old last new : S) (reason : Error)
    → Interruptions fails n old last → fails last reason new → 2 ^ 64 - 1 ≤ n → FailsFor fails old reason new
fails_at_last fails n old last new reason before failed many =
    record { count = n; last = last; interrupted = before; failed = failed; patient = λ kind. many }

-- the last call gave something
pub gives_after : {S : Type 0} (fails : S → Error → S → Type 0) (gives : S → S → Type 0) (n : ℕ) (old last new : S)
    → Interruptions fails n old last → gives last new → GivesAfter fails gives old new
gives_after fails gives n old last new before given = record { count = n; last = last; interrupted = before; given = given }
