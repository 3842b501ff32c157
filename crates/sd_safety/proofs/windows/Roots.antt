-- Of a guarded plan: the backup root is a member, and is not the root.
use Rattle.std.specs.Prelude.{◌≡◌, Bool, true, false, ◌||◌, not, nat_eq, Some, None, option_map, refl, if◌then◌else◌}
use Rattle.sd_plan.specs.topo.Network.{Network}
use Rattle.sd_plan.specs.declared.Plan.{Plan}
use Rattle.sd_plan.specs.Plans.{is_member}
use Rattle.sd_plan.specs.Structure.{structure_breach, roots_breach}
use Rattle.sd_plan.proofs.Rules.{none_mapped}
use Rattle.sd_num.proofs.Shared.{first_none}

pub backup_root_member : (net : Network) (plan : Plan) → structure_breach net plan ≡ None
    → (is_member plan plan.backup_root ≡ true) × (nat_eq plan.root plan.backup_root ≡ false)
backup_root_member net plan structured =
    by_tests (is_member plan plan.root) (is_member plan plan.backup_root) (nat_eq plan.root plan.backup_root)
    (none_mapped (λ d. (1, d)) (roots_breach plan) (first_none (option_map (λ d. (1, d)) (roots_breach plan)) _ structured))
  where
    by_tests : (m b e : Bool) → (if not m then Some plan.root else if not b || e then Some plan.backup_root else None) ≡ None → (b ≡ true) × (e ≡ false)
    by_tests false b e none = cc
    by_tests true false e none = cc
    by_tests true true true none = cc
    by_tests true true false none = (refl, refl)
