-- A line by what shows a breach.
use Rattle.std.specs.Prelude.{ℕ, List}
use Rattle.sd_plan.specs.topo.Network.{Network}
use Rattle.sd_plan.specs.declared.domain.DomainId.{DomainId}
use Rattle.sd_checker.specs.Text.{refused_line}
use Rattle.sd_checker.specs.declared.Breach.TheVariants as breach
use Rattle.sd_checker.specs.declared.text.Shown.{Shown}
use Rattle.sd_checker.specs.declared.text.Shown.TheVariants as shown

-- the line of a breach by a domain
abbrev pub refused_by : Network → ℕ → DomainId → Shown → List ℕ
refused_by net place domain (shown.Thing at) = refused_line net place (breach.Root domain at)
refused_by net place domain (shown.Cycle cycle) = refused_line net place (breach.Loop domain cycle.now)
refused_by net place domain (shown.Device device) = refused_line net place (breach.Domain domain device)
refused_by net place domain (shown.Chain chain) = refused_line net place (breach.Reach domain chain.now)
