-- The bounds of a topology's links are those of what its file says.
use Rattle.std.proofs.Common.{ℕ, true, List, Option, Some, None, Result, Ok, Err, sym, subst}
use Rattle.std.specs.Prelude.{IfSome}
use Rattle.sd_io.specs.stream.Reader.{IsNear}
use Rattle.sd_plan.specs.topo.Network.{Network}
use Rattle.sd_plan.specs.topo.Topologies.{network}
use Rattle.sd_plan.specs.declared.topo.topology.Topology.{Topology}
use Rattle.sd_io.specs.outside.Pieces.{Pieces}
use Rattle.sd_io.specs.outside.Rests.{RestIs}
use Rattle.sd_files.specs.Answering.{After, InWrites, WritesAfter}
use Rattle.sd_files.specs.Inputs.{topology_of}
use Rattle.sd_files.specs.Loads.{Loads}
use Rattle.sd_files.specs.Texts.{texts_of}
use Rattle.sd_files.specs.Writes.{HasOutput, WritesOnce}
use Rattle.sd_files.specs.declared.Status.{Status}
use Rattle.sd_files.specs.declared.command_error.CommandError.{CommandError}
use Rattle.sd_files.specs.declared.command_error.CommandError.TheVariants as ended
use Rattle.sd_files.specs.declared.command_error.Refusal.{Refusal}
use Rattle.sd_files.specs.declared.command_error.IoError.{IoError}
use Rattle.sd_files.specs.declared.command_error.IoError.TheVariants as stop
use Rattle.sd_files.specs.work.Ending.{LeavesAt}
use Rattle.sd_files.specs.work.Works.{InSteps, IsOutcome, refused_part}
use Rattle.sd_commands.proofs.replay.Loading.{Held}
use Rattle.sd_commands.specs.twoway.Twoways.{twoway_work}
use Rattle.sd_top.specs.Twoways.{refused_over}
use Rattle.sd_top.specs.TwowayWrites.{TwowayIn}
use Rattle.sd_drill_text.proofs.Commands.{unloaded_leaves}

module _ (topology exchanges : List ℕ) where
  -- a topology that was read
  pub told_over : (held : Held) (topo : Topology) (old new : Option Pieces) (result : Result Status IoError)
      → IfSome held (λ h. Loads network (topology_of (texts_of h topology)) (Ok topo))
      → IfSome held (λ h. LeavesAt true (InWrites (InSteps (twoway_work (network topo)) (texts_of h exchanges))
      (IsOutcome (twoway_work (network topo)) (texts_of h exchanges))) old new result)
      → IfSome held (λ h. LeavesAt true (TwowayIn (texts_of h topology) (texts_of h exchanges)) old new result)
  told_over None topo old new result says leaves = tt
  told_over (Some h) topo old new result says leaves =
      subst (λ (s : Result Network Refusal). LeavesAt true (InWrites (WritesAfter s (λ net. InSteps (twoway_work net) (texts_of h exchanges)))
      (After s (λ net. IsOutcome (twoway_work net) (texts_of h exchanges)))) old new result)
      (sym says) leaves

  pub near_over : (held : Held) (topo : Topology) (rest : Option (List ℕ)) → IfSome held (λ h. Loads network (topology_of (texts_of h topology)) (Ok topo))
      → IfSome held (λ h. IsNear (Some (refused_part (twoway_work (network topo)) (texts_of h exchanges))) rest)
      → IfSome held (λ h. IfSome (refused_over (topology_of (texts_of h topology)) (texts_of h exchanges)) (λ part. IsNear (Some part) rest))
  near_over None topo rest says near = tt
  near_over (Some h) topo rest says near =
      subst (λ (s : Result Network Refusal). IfSome (refused_over s (texts_of h exchanges)) (λ part. IsNear (Some part) rest)) (sym says) near

  -- one that was not: the line of its refusal, or nothing
  pub told_before : (held : Held) (why : CommandError) (old new : Option Pieces) (result : Result Status IoError)
      → IfSome held (λ h. Loads network (topology_of (texts_of h topology)) (Err why)) → WritesOnce (HasOutput (Err why)) old new result
      → IfSome held (λ h. LeavesAt true (TwowayIn (texts_of h topology) (texts_of h exchanges)) old new result)
  told_before None why old new result says writes = tt
  told_before (Some h) why old new result says writes =
      unloaded_leaves network (topology_of (texts_of h topology)) (λ net. IsOutcome (twoway_work net) (texts_of h exchanges))
      (λ net. InSteps (twoway_work net) (texts_of h exchanges)) old new result why says writes

-- what holds of the text that was begun holds of the text of its name
pub rest_told : (P : List ℕ → Type 0) (held : Held) (name : List ℕ) (rest : Option (List ℕ)) → RestIs held name rest → IfSome rest P
    → IfSome held (λ h. P (texts_of h name))
rest_told P None name rest is holds = tt
rest_told P (Some h) name None is holds = absurd is
rest_told P (Some h) name (Some bytes) is holds = subst P is holds
