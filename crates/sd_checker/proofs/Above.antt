-- What is above a backup parent.
use Rattle.std.proofs.Common.{◌≡◌, ◌≢◌, ◌<◌, ℕ, Bool, length, IfSome, true, false, ◌&&◌, ◌||◌, not, [], map, Option, Some, None, if◌then◌else◌, sym, ap, subst, ◌∙◌}
use Rattle.std.proofs.lemmas.Bool.{eq-eqb, ne_eqb, and_parts}
use Rattle.sd_num.specs.Lists.{has, map_or}
use Rattle.sd_plan.specs.topo.Network.{Network, joins}
use Rattle.sd_plan.specs.IndexedPlan.{has_device}
use Rattle.sd_plan.specs.Plans.{Fits, IsHop, is_member, is_backup_root, is_present, primary_of, backup_of}
use Rattle.sd_plan.specs.Structure.{structure_breach, is_no_ancestor, hop_is_right}
use Rattle.sd_plan.proofs.Rules.{keeps_rules, hops_within}
use Rattle.sd_checker.specs.Ancestors.{is_above}
use Rattle.sd_plan.specs.Walks.{on_walk, epath, things_of, short_path, short_walk, devices_of, ends_walks}
use Rattle.sd_plan.specs.declared.Hop.{Hop}
use Rattle.sd_plan.specs.declared.Plan.{Plan}
use Rattle.sd_checker.proofs.check_root.Shared.{has_parents}

-- a device that is no root has its short walk from its cut path
pub above_other : (net : Network) (plan : Plan) (x d : ℕ) → ends_walks plan x ≡ false
    → has_device (things_of (short_path net plan x)) d ≡ has (map (λ hop. hop.parent) (short_walk net plan x)) d
above_other net plan x d other =
    has_parents (short_path net plan x) d
    ∙ sym (ap (λ (b : Bool). has (map (λ hop. hop.parent) (if b then [] else short_path net plan x)) d) other)

-- so the test of a cut path is that of a short walk
pub above_by : (net : Network) (plan : Plan) (x d : ℕ) → d ≢ x → x ≢ plan.root → x ≢ plan.backup_root → has_device (epath net plan x) d ≡ is_above net plan x d
above_by net plan x d apart no_root no_backup_root =
    let other : ends_walks plan x ≡ false =
    ap (λ b. b || is_backup_root plan x) (ne_eqb plan.root x (λ same. no_root (sym same))) ∙ ne_eqb plan.backup_root x (λ same. no_backup_root (sym same))
    in
    above_other net plan x d other
    ∙ sym (ap (λ b. b || has (map (λ hop. hop.parent) (short_walk net plan x)) d) (ne_eqb d x apart))

-- the backup parent is a member of the network
pub backup_right : (net : Network) (plan : Plan) (d : ℕ) (hop : Hop) → Fits net plan → structure_breach net plan ≡ None → d < length net.devices
    → backup_of plan d ≡ Some hop
    → (hop.parent < length net.devices) × (is_member plan hop.parent ≡ true)
backup_right net plan d hop fits structured within is =
    let (first, second) =
    and_parts (hop_is_right net plan d (primary_of plan d)) (hop_is_right net plan d (backup_of plan d))
    ((keeps_rules net plan structured).hops d within) in
    let right : (is_member plan hop.parent && is_present plan hop.link && joins net hop.link d hop.parent) ≡ true =
    subst (λ (o : Option Hop). hop_is_right net plan d o ≡ true) is second in
    let (front, joined) = and_parts (is_member plan hop.parent && is_present plan hop.link) (joins net hop.link d hop.parent) right in
    let (member, present) = and_parts (is_member plan hop.parent) (is_present plan hop.link) front in
    let known : IfSome (Some hop) (IsHop net) = subst (λ (o : Option Hop). IfSome o (IsHop net)) is (hops_within net plan d fits).1 in
    (known.0, member)

-- of the backup root the whole walk is asked
pub root_ancestor : (net : Network) (plan : Plan) (d : ℕ) (hop : Hop) → backup_of plan d ≡ Some hop → d ≡ plan.backup_root
    → is_no_ancestor net plan d ≡ not (on_walk net plan hop.parent d)
root_ancestor net plan d hop is here =
    ap (λ (o : Option Hop). map_or o true
    (λ hop. if is_backup_root plan d then not (on_walk net plan hop.parent d) else not (has (devices_of hop.parent (short_walk net plan hop.parent)) d))) is
    ∙ ap (λ (b : Bool). if b then not (on_walk net plan hop.parent d) else not (has (devices_of hop.parent (short_walk net plan hop.parent)) d))
    (eq-eqb plan.backup_root d (sym here))
