-- Who walks over the backup root.
use Rattle.std.specs.Prelude.{ℕ, ◌&&◌, not, List, filter}
use Rattle.sd_plan.specs.topo.Network.{Network}
use Rattle.sd_plan.specs.Plans.{is_backup_root, members}
use Rattle.sd_plan.specs.declared.Plan.{Plan}
use Rattle.sd_plan.specs.Walks.{on_walk}

-- the members other than the backup root whose walk leads over it
abbrev pub behind_backup_root : Network → Plan → List ℕ
behind_backup_root net plan = filter (λ d. not (is_backup_root plan d) && on_walk net plan d plan.backup_root) (members net plan)
