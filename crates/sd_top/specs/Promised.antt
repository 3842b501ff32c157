-- What is promised of the bytes of `replay` and `order`, whatever their files say, and of `case`.
use Rattle.std.specs.Prelude.{◌≤◌, ◌&&◌, ℕ, List, length, IsTrue}
use Rattle.sd_files.specs.declared.Status.{Status}
use Rattle.sd_commands.specs.replay.Replays.{IsReplay, IsOrder}
use Rattle.sd_gen.specs.command.Cases.{IsCase}
use Rattle.sd_gen.specs.command.Sizes.{IsWithin}
use Rattle.sd_gen.specs.declared.command.FabricSize.{FabricSize}
use Rattle.sd_headline.specs.Headlines.{no_case_alarm, no_early_alarm, no_early_interval, no_early_disorder}

module _ (topology : List ℕ) (plans : List (List ℕ)) (schedule : List ℕ) where
  -- no alarm of an interval comes before the first line that names starts, drifts or delays as broken
  abbrev pub ReplayKeepsIntervals : Type 0
  ReplayKeepsIntervals = (bytes : List ℕ) (status : Status) → IsReplay topology plans schedule bytes status → IsTrue (no_early_interval bytes)

  -- nor does a disorder
  abbrev pub OrderKeepsOrder : Type 0
  OrderKeepsOrder = (bytes : List ℕ) (status : Status) → IsOrder topology plans schedule bytes status
      → IsTrue (no_early_interval bytes && no_early_disorder bytes)

  -- no alarm comes before the first line that names a premise as broken
  abbrev pub ReplayKeepsAlarms : Type 0
  ReplayKeepsAlarms = 1 ≤ length plans → (bytes : List ℕ) (status : Status) → IsReplay topology plans schedule bytes status → IsTrue (no_early_alarm bytes)

  -- `order` prints no alarm before the first line that names a premise as broken
  abbrev pub OrderKeepsAlarms : Type 0
  OrderKeepsAlarms = 1 ≤ length plans → (bytes : List ℕ) (status : Status) → IsOrder topology plans schedule bytes status → IsTrue (no_early_alarm bytes)

-- the printed number of alarms is 0 where the number of broken lines is 0
abbrev pub CaseKeepsAlarms : (number : ℕ) → FabricSize → Type 0
CaseKeepsAlarms number fabric = IsWithin fabric → (bytes : List ℕ) (status : Status) → IsCase number fabric.leaves fabric.spines bytes status
    → IsTrue (no_case_alarm bytes)
