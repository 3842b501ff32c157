-- What a `ParentTable` keeps of devices: by device, whom it follows, and whether it acts as root.
use Rattle.std.specs.Prelude.{ℕ, Bool, List, Option}

-- the parents by device, and who acts
pub record Kept : Type 0 where
  pub parents : List (Option ℕ)
  pub acting : List Bool
