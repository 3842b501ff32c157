-- The migration law: a topology that is written again with version 2 changes no answer.
use Rattle.std.specs.Prelude.{◌≡◌, ◌≢◌, ◌↔◌, ℕ, All, List, ◌∷◌, Option, Ok}
use Rattle.sd_plan.specs.topo.Network.{Network}
use Rattle.sd_topotext.specs.Versions.{with_version_two}
use Rattle.sd_files.specs.Inputs.{topology_of}
use Rattle.sd_files.specs.Texts.{Texts}
use Rattle.sd_files.specs.declared.Status.{Status}
use Rattle.sd_top.specs.Promise.{Answers}
use Rattle.sd_top.specs.Words.{Command, File, OfTopology, files_of, name_of}

-- the text of a name is a topology, and is replaced by one that is read as the same with version 2; all other texts stay
pub record IsRewritten (name : List ℕ) (before after : Texts) : Type 0 where
  pub network : Network
  pub reads : topology_of (before name) ≡ Ok network
  pub rereads : topology_of (after name) ≡ Ok (with_version_two network)
  pub elsewhere : (other : List ℕ) → other ≢ name → after other ≡ before other

-- no other file of the command has the topology's name
abbrev pub MigrationLaw : Type 0
MigrationLaw =
    (command : Option Command) (topology : List ℕ) (others : List File) → files_of command ≡ OfTopology topology ∷ others
    → All (λ file. name_of file ≢ topology) others
    → (before after : Texts) → IsRewritten topology before after → (bytes : List ℕ) (status : Status)
    → Answers command before bytes status ↔ Answers command after bytes status
