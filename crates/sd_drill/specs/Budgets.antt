-- The limits of a budget.
use Rattle.std.specs.Prelude.{◌^◌, ◌≤◌}
use Rattle.sd_drill.specs.declared.Budget.{Budget}

-- a budget within the limits
abbrev pub IsBudget : Budget → Type 0
IsBudget budget = (budget.base ≤ 2 ^ 60) × (budget.hold ≤ 2 ^ 60)
