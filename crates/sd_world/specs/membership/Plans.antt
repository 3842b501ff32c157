-- The plans of a command, numbered from 1, each as its root and its table.
use Rattle.std.specs.Prelude.{◌≡◌, ℕ, ◌+◌, ◌-◌, ◌<◌, ◌≤◌, Bool, List, [], length, map, Option, Some, None, IsTrue}
use Rattle.sd_num.specs.Lists.{below, at_place}
use Rattle.sd_plan.specs.topo.Network.{Network, link_of, Each}
use Rattle.sd_plan.specs.topo.Places.{is_end_of}
use Rattle.sd_plan.specs.declared.Plan.{Plan}
use Rattle.sd_plan.specs.declared.End.{End}
use Rattle.sd_plan.specs.declared.Role.TheVariants.{Root}
use Rattle.sd_plan.specs.Plans.{Fits}
use Rattle.sd_plan.specs.Structure.{structure_breach}
use Rattle.sd_plan.specs.Tables.{TableRow, table_of, row_at, has_row_at}
use Rattle.sd_device.specs.Limits.{IsDuty}
use Rattle.sd_history.specs.World.{no_plan}
use Rattle.sd_world.specs.declared.membership.plans.NumberedPlan.{NumberedPlan}

-- a plan that can be followed: it speaks of the network, and has the right structure
pub record IsFollowable (net : Network) (plan : Plan) : Type 0 where
  pub fits : Fits net plan
  pub structured : structure_breach net plan ≡ None

-- plans that can be followed
abbrev pub AreSound : Network → List Plan → Type 0
AreSound net plans = Each (IsFollowable net) plans

-- a plan as the one with this number
abbrev pub numbered_as : Network → ℕ → Plan → NumberedPlan
numbered_as net epoch plan = record { root = plan.root; table = table_of net plan epoch }

-- the plan at this place, which has the next number
abbrev pub numbered_at : Network → List Plan → ℕ → NumberedPlan
numbered_at net plans i = numbered_as net (i + 1) (at_place plans i no_plan (λ plan. plan))

-- the plans with their numbers
abbrev pub numbered : Network → List Plan → List NumberedPlan
numbered net plans = map (numbered_at net plans) (below (length plans))

-- there is a plan with this number
pub record IsNumber (plans : List NumberedPlan) (epoch : ℕ) : Type 0 where
  pub first : 1 ≤ epoch
  pub last : epoch ≤ length plans

-- the table of the plan with this number
abbrev pub table_numbered : List NumberedPlan → ℕ → List (Option TableRow)
table_numbered plans epoch = at_place plans (epoch - 1) [] (λ plan. plan.table)

-- the root of the plan with this number
abbrev pub root_numbered : List NumberedPlan → ℕ → ℕ
root_numbered plans epoch = at_place plans (epoch - 1) 0 (λ plan. plan.root)

-- the row of a device in the plan with this number
abbrev pub row_numbered : List NumberedPlan → ℕ → ℕ → Option TableRow
row_numbered plans epoch d = row_at (table_numbered plans epoch) d

-- the device is a member of the plan with this number
abbrev pub is_member_numbered : List NumberedPlan → ℕ → ℕ → Bool
is_member_numbered plans epoch d = has_row_at (table_numbered plans epoch) d

-- the end lies at a link of the network, and is one of its devices
pub record IsEnd (net : Network) (end : End) : Type 0 where
  pub link : end.link < length net.links
  pub device : IsTrue (is_end_of (link_of net end.link) end.device)

-- what a member is told is within the limits, and below it lie ends of links, at most one of each
pub record IsSoundRow (net : Network) (row : TableRow) : Type 0 where
  pub duty : IsDuty row.duty
  pub ends : Each (IsEnd net) row.downstream
  pub few : length row.downstream ≤ length net.links

-- the tables have a place for each device, and sound rows, with the number of their plan; that of a plan's root has this role
pub record AreTables (net : Network) (plans : List NumberedPlan) : Type 0 where
  pub places : (epoch : ℕ) → IsNumber plans epoch → length (table_numbered plans epoch) ≡ length net.devices
  pub rows : (epoch d : ℕ) (row : TableRow) → IsNumber plans epoch → row_numbered plans epoch d ≡ Some row → IsSoundRow net row
  pub roots : (epoch : ℕ) (row : TableRow) → IsNumber plans epoch → row_numbered plans epoch (root_numbered plans epoch) ≡ Some row → row.duty.role ≡ Root
  pub numbers : (epoch d : ℕ) (row : TableRow) → IsNumber plans epoch → row_numbered plans epoch d ≡ Some row → row.duty.epoch ≡ epoch
