-- The count of faults after a call.
use Rattle.std.specs.Prelude.{ℕ, Result, Ok, Err}
use Rattle.sd_io.specs.outside.Causes.{raised}

-- the count of faults after a call: one more where the call failed, and else as before
abbrev pub faults_after : {T E : Type 0} → ℕ → Result T E → ℕ
faults_after before (Ok _) = before
faults_after before (Err _) = raised before
