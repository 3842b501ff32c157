-- Why a file is refused, as it is printed.
use Rattle.std.specs.Prelude.{ℕ, List, [], ◌∷◌, ◌++◌, codes, decimal}
use Rattle.sd_num.specs.Texts.{text_of}
use Rattle.sd_topotext.specs.Keys.{printed as printed_key, printed_kind}
use Rattle.sd_topotext.specs.declared.fault.Place.{Place}
use Rattle.sd_topotext.specs.declared.fault.TopoFault.{TopoFault}
use Rattle.sd_topotext.specs.declared.fault.TopoFault.TheVariants as topo
use Rattle.sd_plantext.specs.Keys.{printed as printed_plan_key}
use Rattle.sd_plantext.specs.declared.fault.PlanPlace.{PlanPlace}
use Rattle.sd_plantext.specs.declared.fault.PlanFault.{PlanFault}
use Rattle.sd_plantext.specs.declared.fault.PlanFault.TheVariants as plan
use Rattle.sd_files.specs.declared.command_error.FileFault.{FileFault}
use Rattle.sd_files.specs.declared.command_error.FileFault.TheVariants.{TooLong, Topology as OfTopology, Plan as OfPlan}
use Rattle.sd_files.specs.declared.command_error.Input.{Input}
use Rattle.sd_files.specs.declared.command_error.Input.TheVariants.{Topology, Plan, Absent}
use Rattle.sd_files.specs.declared.command_error.Refusal.{Refusal}

-- a file by its part in the command
abbrev pub printed_input : Input → List ℕ
printed_input Topology = codes "topology"
printed_input (Plan place) = codes "plan " ++ decimal place
printed_input Absent = codes "absent"

-- the name of a topology's fault
abbrev pub fault_name : TopoFault → List ℕ
fault_name topo.NotToml = codes "NotToml"
fault_name (topo.Missing p) = codes "Missing"
fault_name (topo.WrongKind p) = codes "WrongKind"
fault_name (topo.Range p) = codes "Range"
fault_name (topo.TwiceNamed p) = codes "TwiceNamed"
fault_name (topo.UnknownName p) = codes "UnknownName"
fault_name (topo.SelfLink p) = codes "SelfLink"
fault_name (topo.Limit kind) = codes "Limit"
fault_name topo.Memory = codes "Memory"

-- what is printed after the name: the key and the entry of its place, or the kind
abbrev pub at_place : Place → List ℕ
at_place p = 32 ∷ (printed_key p.key ++ 32 ∷ decimal p.entry)

-- what is printed after the name of each fault
abbrev pub behind_name : TopoFault → List ℕ
behind_name topo.NotToml = []
behind_name (topo.Missing p) = at_place p
behind_name (topo.WrongKind p) = at_place p
behind_name (topo.Range p) = at_place p
behind_name (topo.TwiceNamed p) = at_place p
behind_name (topo.UnknownName p) = at_place p
behind_name (topo.SelfLink p) = at_place p
behind_name (topo.Limit kind) = 32 ∷ printed_kind kind
behind_name topo.Memory = []

-- why a topology is refused: the name of the fault, and what is printed after it
abbrev pub topology_reason : TopoFault → List ℕ
topology_reason why = fault_name why ++ behind_name why

-- the key and the entry of a place in a plan's text
abbrev pub at_plan_place : PlanPlace → List ℕ
at_plan_place p = printed_plan_key p.key ++ 32 ∷ decimal p.entry

-- why a plan is refused
abbrev pub plan_reason : PlanFault → List ℕ
plan_reason plan.NotJson = codes "NotJson"
plan_reason (plan.Missing p) = codes "Missing " ++ at_plan_place p
plan_reason (plan.WrongKind p) = codes "WrongKind " ++ at_plan_place p
plan_reason (plan.Range p) = codes "Range " ++ at_plan_place p
plan_reason (plan.UnknownName p) = codes "UnknownName " ++ at_plan_place p
plan_reason (plan.TwiceNamed p) = codes "TwiceNamed " ++ at_plan_place p
plan_reason (plan.Version n) = codes "Version " ++ decimal n
plan_reason plan.Memory = codes "Memory"

-- why a file is refused
abbrev pub reason : FileFault → List ℕ
reason TooLong = codes "TooLong"
reason (OfTopology why) = topology_reason why
reason (OfPlan why) = plan_reason why

-- the line that ends a run one of whose files is refused
abbrev pub refusal_line : Refusal → List ℕ
refusal_line refusal = text_of (codes "input" ∷ printed_input refusal.input ∷ reason refusal.fault ∷ [])
