-- A case has one answer.
use Rattle.std.specs.Prelude.{◌≡◌, ℕ, List}
use Rattle.sd_files.specs.declared.Status.{Status}
use Rattle.sd_gen.specs.command.Cases.{IsCase}

-- a number and sizes have one answer
abbrev pub HasOneCase : Type 0
HasOneCase =
    (number leaves spines : ℕ) (bytes other : List ℕ) (status also : Status) → IsCase number leaves spines bytes status → IsCase number leaves spines other also
    → (status ≡ also) × (bytes ≡ other)
