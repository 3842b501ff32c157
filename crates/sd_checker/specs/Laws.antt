-- A plan has one verdict.
use Rattle.std.specs.Prelude.{◌≡◌}
use Rattle.sd_plan.specs.topo.Network.{Network}
use Rattle.sd_plan.specs.declared.Plan.{Plan}
use Rattle.sd_checker.specs.declared.Verdict.{Verdict}
use Rattle.sd_checker.specs.Verdicts.{IsVerdict}

-- at most one verdict is right: one breach, one cycle, one chain
abbrev pub HasOneVerdict : Network → Plan → Type 0
HasOneVerdict net plan = (a b : Verdict) → IsVerdict net plan a → IsVerdict net plan b → a ≡ b
