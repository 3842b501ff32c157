-- What `migrate` writes and answers for the text of a topology.
use Rattle.std.specs.Prelude.{◌≡◌, ℕ, List, Ok}
use Rattle.sd_plan.specs.topo.Network.{Network}
use Rattle.sd_topotext.specs.Meaning.{network_of}
use Rattle.sd_topotext.specs.Versions.{with_version_two}
use Rattle.sd_topotext.specs.Reading.{tree_of}
use Rattle.sd_files.specs.Answering.{Allowed, After}
use Rattle.sd_files.specs.Inputs.{topology_of}
use Rattle.sd_files.specs.declared.Status.{Status}
use Rattle.sd_files.specs.declared.Status.TheVariants.{Done}

-- one text that says the same with version 2
abbrev pub IsMigrated : Network → Allowed
IsMigrated net bytes status = (network_of (tree_of bytes) ≡ Ok (with_version_two net)) × (status ≡ Done)

-- what `migrate` may write
abbrev pub IsMigration : List ℕ → Allowed
IsMigration topology bytes status = After (topology_of topology) IsMigrated bytes status

-- a topology that is not refused is migrated
abbrev pub MigrationCompletes : Type 0
MigrationCompletes = (topology : List ℕ) (net : Network) → topology_of topology ≡ Ok net → (bytes : List ℕ) (status : Status)
    → IsMigration topology bytes status → status ≡ Done
