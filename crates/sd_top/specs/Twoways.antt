-- What `twoway` writes and answers for the texts of a topology and of exchanges.
use Rattle.std.specs.Prelude.{◌≡◌, ℕ, List, Option, None, Some, Result, Ok, Err}
use Rattle.sd_plan.specs.topo.Network.{Network}
use Rattle.sd_io.specs.outside.Pieces.{Pieces}
use Rattle.sd_files.specs.Answering.{After, Allowed, WritesAfter}
use Rattle.sd_files.specs.Inputs.{topology_of}
use Rattle.sd_files.specs.declared.Status.{Status}
use Rattle.sd_files.specs.declared.Status.TheVariants.{Done}
use Rattle.sd_files.specs.declared.command_error.Refusal.{Refusal}
use Rattle.sd_files.specs.work.Works.{InSteps, IsOutcome, reading, refused_part}
use Rattle.sd_commands.specs.twoway.Promises.{BoundsHold}
use Rattle.sd_commands.specs.twoway.Twoways.{twoway_work}

-- what `twoway` may write
abbrev pub IsTwoway : List ℕ → List ℕ → Allowed
IsTwoway topology exchanges bytes status = After (topology_of topology) (λ net. IsOutcome (twoway_work net) exchanges) bytes status

-- each link's line by one write, and the last line by one
abbrev pub TwowayInSteps : List ℕ → List ℕ → Pieces → Type 0
TwowayInSteps topology exchanges pieces = WritesAfter (topology_of topology) (λ net. InSteps (twoway_work net) exchanges) pieces

-- what stands in the text of exchanges from the line on at which it is refused, where the topology is not
abbrev pub refused_over : Result Network Refusal → List ℕ → Option (List ℕ)
refused_over (Ok net) exchanges = Some (refused_part (twoway_work net) exchanges)
refused_over (Err why) exchanges = None

-- the bounds of each line hold of the exchanges over its link
abbrev pub BoundsTruly : List ℕ → List ℕ → Type 0
BoundsTruly topology exchanges = (net : Network) → topology_of topology ≡ Ok net → BoundsHold net (reading (twoway_work net) exchanges).taken

-- the files of exchanges none of which is refused
pub record AreRightExchanges (topology exchanges : List ℕ) : Type 0 where
  pub network : Network
  pub has_network : topology_of topology ≡ Ok network
  pub unrefused : (reading (twoway_work network) exchanges).refused ≡ None

-- they are told so
abbrev pub TwowayCompletes : Type 0
TwowayCompletes = (topology exchanges : List ℕ) → AreRightExchanges topology exchanges → (bytes : List ℕ) (status : Status)
    → IsTwoway topology exchanges bytes status → status ≡ Done
