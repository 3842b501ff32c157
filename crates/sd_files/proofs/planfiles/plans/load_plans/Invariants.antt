use Rattle.std.proofs.Common.{◌≡◌, ◌≤◌, ◌-◌, IfSome, length, map, take}
use Rattle.std.specs.Prelude.{string_bytes}
use Rattle.sd_plan.specs.topo.Network.{Each}
use Rattle.sd_plan.specs.topo.Topologies.{network}
use Rattle.sd_plan.specs.Plans.{Fits}
use Rattle.sd_checker.specs.Conditions.{IsAccepted}
use Rattle.sd_files.specs.Texts.{texts_of}
use Rattle.sd_files.specs.planfiles.PlanFiles.{AreRead}
use Rattle.sd_files.proofs.planfiles.plans.load_plans.Given as goal

-- the first plans were read and accepted
abbrev pub invariant-plans : goal.invariant-plans
invariant-plans g l =
    let shelf = g.S.Shelf in
    let net = network l.fn.topo in
    record {
      read : IfSome (shelf.held l.fn.shelf)
          (λ held. AreRead net 1 (take (length l.plans.items) (map (λ name. texts_of held name) (map string_bytes l.fn.names))) l.plans.items);
      fit : Each (Fits net) l.plans.items;
      accepted : Each (IsAccepted net) l.plans.items;
      placed : l.place ≡ length l.plans.items;
      count : l.place ≤ length l.fn.names;
      steady : shelf.faults l.shelf ≡ shelf.faults l.fn.shelf;
      same_held : shelf.held l.shelf ≡ shelf.held l.fn.shelf;
      same_names : shelf.serves l.shelf ≡ shelf.serves l.fn.shelf;
    }

-- each turn reads one more
abbrev pub decreases-plans : goal.decreases-plans
decreases-plans g l = length l.fn.names - l.place
