-- What loading a file gives.
use Rattle.std.specs.Prelude.{◌≡◌, Result, Ok, Err}
use Rattle.sd_io.specs.declared.stream.faults.WholeFault.{WholeFault}
use Rattle.sd_io.specs.declared.stream.faults.WholeFault.TheVariants as whole
use Rattle.sd_topotext.specs.declared.fault.TopoFault.{TopoFault}
use Rattle.sd_topotext.specs.declared.fault.TopoFault.TheVariants as topo
use Rattle.sd_plantext.specs.declared.fault.PlanFault.{PlanFault}
use Rattle.sd_plantext.specs.declared.fault.PlanFault.TheVariants as plan
use Rattle.sd_files.specs.declared.command_error.CommandError.{CommandError}
use Rattle.sd_files.specs.declared.command_error.CommandError.TheVariants as ended
use Rattle.sd_files.specs.declared.command_error.FileFault.TheVariants as fault
use Rattle.sd_files.specs.declared.command_error.Input.{Input}
use Rattle.sd_files.specs.declared.command_error.Input.TheVariants as input
use Rattle.sd_files.specs.declared.command_error.Refusal.{Refusal}

-- what was loaded, seen by view, is what the file says; a run that is stopped need say nothing
abbrev pub Loads : {T X : Type 0} → (T → X) → Result X Refusal → Result T CommandError → Type 0
Loads view says (Ok x) = says ≡ Ok (view x)
Loads view says (Err (ended.Refused why)) = says ≡ Err why
Loads view says (Err ended.Shelf) = Unit {0}
Loads view says (Err ended.Memory) = Unit {0}

-- how a command ends whose file could not be read whole
abbrev pub ended_unread : Input → WholeFault → CommandError
ended_unread file whole.ReadFault = ended.Shelf
ended_unread file whole.TooLong = ended.Refused (record { input = file; fault = fault.TooLong })
ended_unread file whole.Memory = ended.Memory

-- or whose text has a fault: out of memory is one
abbrev pub ended_by_topology : TopoFault → CommandError
ended_by_topology topo.Memory = ended.Memory
ended_by_topology why = ended.Refused (record { input = input.Topology; fault = fault.Topology why })

-- how a fault of a plan's text ends a command: out of memory is one
abbrev pub ended_by_plan : Input → PlanFault → CommandError
ended_by_plan file plan.Memory = ended.Memory
ended_by_plan file why = ended.Refused (record { input = file; fault = fault.Plan why })
