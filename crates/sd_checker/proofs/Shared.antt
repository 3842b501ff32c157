-- Lemmas that several crates above share.
use Rattle.std.specs.Prelude.{◌≡◌, ℕ, true}
use Rattle.std.proofs.Common.{sym}
use Rattle.std.proofs.lemmas.Bool.{or_right, eq-eqb}
use Rattle.sd_plan.specs.declared.Plan.{Plan}
use Rattle.sd_plan.specs.Plans.{is_root, is_backup_root}
use Rattle.sd_plan.specs.Walks.{ends_walks}

pub backup_root_ends : (plan : Plan) (d : ℕ) → d ≡ plan.backup_root → ends_walks plan d ≡ true
backup_root_ends plan d same = or_right (is_root plan d) (is_backup_root plan d) (eq-eqb plan.backup_root d (sym same))
