-- What the cut path of a device has, by the numbers of an index.
use Rattle.std.proofs.Common.{◌≡◌, ℕ, zero, suc, ◌<◌, Bool, true, false, ◌&&◌, ◌||◌, not, [], ◌∷◌, length, get_or, nat_eq, Option, Some, None, if◌then◌else◌, refl, sym, ap, ◌∙◌, arith}
use Rattle.std.proofs.lemmas.Bool.{not_from_false}
use Rattle.sd_num.specs.Lists.{has, map_or}
use Rattle.sd_plan.specs.topo.Network.{Network}
use Rattle.sd_plan.specs.Plans.{is_member, is_root, primary_of}
use Rattle.sd_plan.specs.Walks.{hops, ends_walks, epath, on_walk, devices_of, things_of}
use Rattle.sd_plan.specs.IndexedPlan.{IndexedPlan, IsIndexOf, stands_below, is_cut_before, has_device, has_link}
use Rattle.sd_plan.specs.declared.Hop.{Hop}
use Rattle.sd_plan.specs.declared.Plan.{Plan}
use Rattle.sd_plan.proofs.Forest.{forest_of, by_option, on_member, hop_over, or_none}
use Rattle.sd_plan.proofs.Cutting.{has_device_by, has_link_by, has_no_link_by}
use Rattle.sd_plan.proofs.Shared.{carried_length}
use Rattle.sd_checker.proofs.check_hit.Bounds.{carried_hop}

-- a member's walk has members
pub above_member : (net : Network) (plan : Plan) (index : IndexedPlan) (d a : ℕ) → IsIndexOf net plan index → d < length net.devices → is_member plan d ≡ true
    → on_walk net plan d a ≡ true → is_member plan a ≡ true
above_member net plan index d a law within member on = on_member net plan (forest_of net plan law.fits law.structured) a d within member on

pub epath_device : (net : Network) (plan : Plan) (index : IndexedPlan) (d a : ℕ) → IsIndexOf net plan index → d < length net.devices → a < length net.devices
    → is_member plan d ≡ true → is_root plan d ≡ false
    → has_device (epath net plan d) a ≡ (not (nat_eq d a) && (stands_below index d a && not (is_cut_before index d a)))
epath_device net plan index d a law within inside member other =
    let size : length index.spans ≡ length net.devices = law.spans in
    sym (has_device_by net plan index d a law (omega arith) (omega arith) member (not_from_false (is_root plan d) other))

pub epath_link : (net : Network) (plan : Plan) (index : IndexedPlan) (d l : ℕ) → IsIndexOf net plan index → d < length net.devices → l < length net.links
    → is_member plan d ≡ true → is_root plan d ≡ false
    → has_link (epath net plan d) l
    ≡ map_or (get_or index.carried l None) false (λ c. (nat_eq d c || not (nat_eq c index.backup_root))
    && (stands_below index d c && not (is_cut_before index d c)))
epath_link net plan index d l law within inside member other = by_child (get_or index.carried l None) refl
  where
    by_child : (o : Option ℕ) → get_or index.carried l None ≡ o
        → has_link (epath net plan d) l
        ≡ map_or o false (λ c. (nat_eq d c || not (nat_eq c index.backup_root)) && (stands_below index d c && not (is_cut_before index d c)))
    by_child None is =
        let size : length index.spans ≡ length net.devices = law.spans in
        sym (has_no_link_by net plan index d l law (omega arith) (omega (arith, carried_length net plan index law)) is (not_from_false (is_root plan d) other))
    by_child (Some c) is =
        let size : length index.spans ≡ length net.devices = law.spans in
        sym (has_link_by net plan index d l c law (omega arith) (omega (arith, carried_length net plan index law)) is member
        (not_from_false (is_root plan d) other))

-- what goes over a link is a member other than the root
pub child_member : (net : Network) (plan : Plan) (index : IndexedPlan) (l c : ℕ) → IsIndexOf net plan index → get_or index.carried l None ≡ Some c
    → (c < length net.devices) × ((is_member plan c ≡ true) × (is_root plan c ≡ false))
child_member net plan index l c law is =
    let carried = carried_hop net plan index l c law is in
    let goes = carried.1 in
    let (hop, first, over) = hop_over plan goes.0 c goes.1 in
    let step = (forest_of net plan law.fits law.structured).up c hop carried.0 first in
    (carried.0, (step.below, step.other))

-- the root's walk is the root alone
pub on_root : (net : Network) (plan : Plan) (d a : ℕ) → is_root plan d ≡ true → on_walk net plan d a ≡ nat_eq a d
on_root net plan d a root =
    ap (λ (t : Bool). has (devices_of d (if t then [] else hops (is_root plan) plan net.params.depth d)) a) root ∙ or_none (nat_eq a d)

-- its path is empty
pub no_root_path : (net : Network) (plan : Plan) (d : ℕ) → is_root plan d ≡ true → epath net plan d ≡ []
no_root_path net plan d root = ap (λ (t : Bool). things_of (if t then [] else hops (ends_walks plan) plan net.params.depth d)) root

-- so is that of a device that is left out
pub no_path : (net : Network) (plan : Plan) (index : IndexedPlan) (d : ℕ) → IsIndexOf net plan index → d < length net.devices → is_member plan d ≡ false
    → epath net plan d ≡ []
no_path net plan index d law within absent = by_hops (is_root plan d) (ends_walks plan) net.params.depth none
  where
    none : primary_of plan d ≡ None
    none =
        by_option (primary_of plan d) (primary_of plan d ≡ None) (λ none. none) (λ hop is.
        let step = (forest_of net plan law.fits law.structured).up d hop within is in
        absurd (cc (step.below, absent)))

    by_hops : (root : Bool) (ends : ℕ → Bool) (n : ℕ) → primary_of plan d ≡ None → things_of (if root then [] else hops ends plan n d) ≡ []
    by_hops true ends n none = refl
    by_hops false ends zero none = refl
    by_hops false ends (suc n) none =
        ap (λ (found : Option Hop). things_of
        (elim found [ None ↦ [] | Some hop ↦ hop ∷ (elim (ends hop.parent) [ true ↦ [] | false ↦ hops ends plan n hop.parent ]) ])) none
