-- There is one answer.
use Rattle.std.specs.Prelude.{◌≡◌, List, ℕ}
use Rattle.sd_files.specs.Answering.{Allowed}
use Rattle.sd_files.specs.declared.Status.{Status}

-- there is at most one such answer
abbrev pub IsOne : Allowed → Type 0
IsOne Writes = (bytes other : List ℕ) (status also : Status) → Writes bytes status → Writes other also → (status ≡ also) × (bytes ≡ other)
