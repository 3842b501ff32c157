-- By which writes a command prints the texts of a topology and a plan by domains.
use Rattle.std.specs.Prelude.{ℕ, List}
use Rattle.sd_io.specs.outside.Pieces.{Pieces}
use Rattle.sd_plan.specs.topo.Network.{Network}
use Rattle.sd_plan.specs.declared.domain.DomainId.{DomainId}
use Rattle.sd_plan.specs.declared.Plan.{Plan}
use Rattle.sd_drill.specs.declared.Budget.{Budget}
use Rattle.sd_files.specs.Answering.{AtOnce, WritesAfter}
use Rattle.sd_checker.specs.Conditions.{IsAccepted}
use Rattle.sd_files.specs.Inputs.{plan_in_file, topology_of}
use Rattle.sd_drill_text.specs.Writes.{AreAllWrites}

-- what the lines of a domain are
abbrev pub LinesOf : Type 1
LinesOf = Network → Plan → Budget → DomainId → List ℕ → Type 0

-- of a plan that is accepted each domain by one write, and the last line by one; of another all by one
pub record PrintedInSteps (Lines : LinesOf) (net : Network) (budget : Budget) (plan : Plan) (pieces : Pieces) : Type 0 where
  pub accepted : IsAccepted net plan → AreAllWrites (Lines net plan budget) net plan pieces
  pub refused : (IsAccepted net plan → ⊥) → AtOnce pieces

-- by which writes a plan's text is printed
abbrev pub PlanInSteps : LinesOf → Network → Budget → List ℕ → Pieces → Type 0
PlanInSteps Lines net budget plan pieces = WritesAfter (plan_in_file net 1 plan) (PrintedInSteps Lines net budget) pieces

-- by which writes the texts are printed
abbrev pub TextsInSteps : LinesOf → List ℕ → List ℕ → Budget → Pieces → Type 0
TextsInSteps Lines topology plan budget pieces = WritesAfter (topology_of topology) (λ net. PlanInSteps Lines net budget plan) pieces
