-- Where a walk along primary parents is cut.
use Rattle.std.specs.Prelude.{ℕ, Bool}
use Rattle.sd_plan.specs.Plans.{is_root}
use Rattle.sd_plan.specs.Walks.{ends_walks}
use Rattle.sd_plan.specs.declared.Plan.{Plan}
use Rattle.sd_plan.specs.declared.paths.Cut.{Cut}
use Rattle.sd_plan.specs.declared.paths.Cut.TheVariants as cut

-- the device ends a walk that is cut there
abbrev pub ends_at : Cut → Plan → ℕ → Bool
ends_at cut.Root plan = is_root plan
ends_at cut.EitherRoot plan = ends_walks plan
