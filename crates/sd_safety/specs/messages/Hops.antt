-- The hops of a device in a plan, and when the link to a parent tells the parent.
use Rattle.std.specs.Prelude.{◌≡◌, ℕ, Some, ◌⊎◌}
use Rattle.sd_plan.specs.declared.Hop.{Hop as PlanHop}
use Rattle.sd_plan.specs.declared.Plan.{Plan}
use Rattle.sd_plan.specs.Plans.{primary_of, backup_of}

-- the hop is the primary or the backup one of the device
abbrev pub IsPlanHop : Plan → ℕ → PlanHop → Type 0
IsPlanHop plan d hop = (primary_of plan d ≡ Some hop) ⊎ (backup_of plan d ≡ Some hop)

-- a hop with this parent and this link
pub record Leads (plan : Plan) (d parent link : ℕ) : Type 0 where
  pub hop : PlanHop
  pub is : IsPlanHop plan d hop
  pub parent_is : hop.parent ≡ parent
  pub link_is : hop.link ≡ link

-- the link to a parent tells the parent
abbrev pub TellsParent : Plan → Type 0
TellsParent plan = (d x y link : ℕ) → Leads plan d x link → Leads plan d y link → x ≡ y
