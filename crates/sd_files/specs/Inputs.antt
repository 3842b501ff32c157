-- What the files that are read whole say.
use Rattle.std.specs.Prelude.{ℕ, ◌^◌, List, length, nat_lt, Result, Ok, Err, if◌then◌else◌}
use Rattle.sd_plan.specs.topo.Network.{Network}
use Rattle.sd_topotext.specs.Meaning.{network_of}
use Rattle.sd_topotext.specs.Reading.{tree_of as toml_of}
use Rattle.sd_plan.specs.declared.Absent.{Absent}
use Rattle.sd_plan.specs.declared.Plan.{Plan}
use Rattle.sd_plantext.specs.Meaning.{plan_of, absent_of}
use Rattle.sd_plantext.specs.Reading.{tree_of as json_of}
use Rattle.sd_files.specs.declared.command_error.FileFault.{FileFault}
use Rattle.sd_files.specs.declared.command_error.FileFault.TheVariants as fault
use Rattle.sd_files.specs.declared.command_error.Input.{Input}
use Rattle.sd_files.specs.declared.command_error.Input.TheVariants as input
use Rattle.sd_files.specs.declared.command_error.Refusal.{Refusal}

-- the meaning of a text, or that the file is refused for its fault
abbrev pub refused_for : {X F : Type 0} → Input → (F → FileFault) → Result X F → Result X Refusal
refused_for file Fault (Ok x) = Ok x
refused_for file Fault (Err why) = Err (record { input = file; fault = Fault why })

-- what a file says whose text has this meaning: a text of more than 2^26 bytes is refused
unfoldable pub in_file : {X F : Type 0} → Input → (F → FileFault) → (List ℕ → Result X F) → List ℕ → Result X Refusal
in_file file Fault meaning text =
    if nat_lt (2 ^ 26) (length text) then Err (record { input = file; fault = fault.TooLong }) else refused_for file Fault (meaning text)

-- what the file of a topology says
abbrev pub topology_of : List ℕ → Result Network Refusal
topology_of text = in_file input.Topology fault.Topology (λ t. network_of (toml_of t)) text

-- what the file of a plan says over a network: the plan at this place among the plans of the command, from 1
abbrev pub plan_in_file : Network → (place : ℕ) → List ℕ → Result Plan Refusal
plan_in_file net place text = in_file (input.Plan place) fault.Plan (λ t. plan_of net (json_of t)) text

-- what the file of what is absent says
abbrev pub absent_in_file : Network → List ℕ → Result Absent Refusal
absent_in_file net text = in_file input.Absent fault.Plan (λ t. absent_of net (json_of t)) text
