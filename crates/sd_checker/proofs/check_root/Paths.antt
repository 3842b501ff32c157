-- What a path has, and the backup root of a plan that is well formed.
use Rattle.std.proofs.Common.{◌≡◌, ℕ, ◌<◌, Bool, true, false, ◌&&◌, ◌||◌, not, List, [], ◌∷◌, length, map, find, Option, Some, None, option_map, nat_eq, if◌then◌else◌, refl, sym, ap, ◌∙◌, subst, inl, inr}
use Rattle.std.specs.List.{slice_get}
use Rattle.std.specs.Option.{option_or}
use Rattle.std.proofs.lemmas.Bool.{cases_eq, eq-eqb, ne_eqb, and_parts, not-false}
use Rattle.sd_num.specs.Lists.{has, map_or}
use Rattle.sd_num.proofs.Shared.{equal_swap, first_none}
use Rattle.sd_num.proofs.Places.{has_below}
use Rattle.sd_plan.specs.topo.Network.{Network, device_numbers, joins}
use Rattle.sd_plan.specs.IndexedPlan.{has_device, has_link}
use Rattle.sd_plan.specs.Plans.{Fits, IsHop, IsRow, is_member, is_present, primary_of, backup_of}
use Rattle.sd_plan.specs.Structure.{structure_breach, first_failing, roots_breach, row_is_right, hop_is_right, hops_are_right}
use Rattle.sd_plan.specs.Walks.{walk, path, things_of, links_of, on_walk}
use Rattle.sd_plan.specs.declared.Hop.{Hop}
use Rattle.sd_plan.specs.declared.Plan.{Plan}
use Rattle.sd_plan.specs.declared.PlanRow.{PlanRow}
use Rattle.sd_plan.proofs.Forest.{forest_of, by_option, not_above}
use Rattle.sd_plan.proofs.Rules.{none_mapped}
use Rattle.sd_checker.proofs.check_root.Firsts.{none_found}
use Rattle.sd_checker.proofs.check_root.Shared.{has_parents}

-- their links
pub links_of_hops : (hs : List Hop) (l : ℕ) → has_link (things_of hs) l ≡ has (links_of hs) l
links_of_hops [] l = refl
links_of_hops (h ∷ hs) l = ap (λ t. t || has_link (things_of hs) l) (equal_swap h.link l) ∙ ap (λ t. nat_eq l h.link || t) (links_of_hops hs l)

-- a device is not on its own path
not_itself : (net : Network) (plan : Plan) (d : ℕ) → Fits net plan → structure_breach net plan ≡ None → d < length net.devices
    → has_device (path net plan d) d ≡ false
not_itself net plan d fits structured within =
    let forest = forest_of net plan fits structured in
    has_parents (walk net plan d) d
    ∙ by_option (primary_of plan d) (has (map (λ hop. hop.parent) (walk net plan d)) d ≡ false)
    (λ none. ap (λ hs. has (map (λ hop. hop.parent) hs) d) (forest.top d none))
    (λ hop is.
    let step = forest.up d hop within is in
    ap (λ hs. has (map (λ hop. hop.parent) hs) d) step.walk ∙ not_above net plan forest d hop step)

-- a path has the devices of the walk but for its beginning
pub path_device : (net : Network) (plan : Plan) (d a : ℕ) → Fits net plan → structure_breach net plan ≡ None → d < length net.devices
    → has_device (path net plan d) a ≡ (not (nat_eq a d) && on_walk net plan d a)
path_device net plan d a fits structured within =
    elim (cases_eq a d) [
      | inl same ↦
          (subst (λ x. has_device (path net plan d) x ≡ false) (sym same) (not_itself net plan d fits structured within)
          ∙ sym (ap (λ t. not t && on_walk net plan d a) (eq-eqb a d same)))
      | inr other ↦
          (has_parents (walk net plan d) a
          ∙ sym (ap (λ t. not t && (t || has (map (λ hop. hop.parent) (walk net plan d)) a)) (ne_eqb a d other)))
    ]

rest_none : {X : Type 0} (a b : Option X) → option_or a b ≡ None → b ≡ None
rest_none None b none = none
rest_none (Some x) b none = cc

-- the backup root is a member
pub backup_root_member : (net : Network) (plan : Plan) → structure_breach net plan ≡ None → is_member plan plan.backup_root ≡ true
backup_root_member net plan structured =
    by_tests (is_member plan plan.root) (is_member plan plan.backup_root) (nat_eq plan.root plan.backup_root)
    (none_mapped (λ d. (1, d)) (roots_breach plan) (first_none (option_map (λ d. (1, d)) (roots_breach plan)) _ structured))
  where
    by_tests : (m b e : Bool) → (if not m then Some plan.root else if not b || e then Some plan.backup_root else None) ≡ None → b ≡ true
    by_tests false b e none = cc
    by_tests true false e none = cc
    by_tests true true e none = refl

-- a backup parent is a member
pub backup_member : (net : Network) (plan : Plan) (d : ℕ) (hop : Hop) → structure_breach net plan ≡ None → d < length net.devices → backup_of plan d ≡ Some hop
    → is_member plan hop.parent ≡ true
backup_member net plan d hop structured within is =
    let after_first = rest_none (option_map (λ d. (1, d)) (roots_breach plan)) _ structured in
    let after_second = rest_none (first_failing net 2 (row_is_right plan)) _ after_first in
    let third = none_mapped (λ d. (3, d)) (find (λ d. not (hops_are_right net plan d)) (device_numbers net))
    (first_none (first_failing net 3 (hops_are_right net plan)) _ after_second) in
    let right : hops_are_right net plan d ≡ true =
    not-false (hops_are_right net plan d)
    (none_found (λ x. not (hops_are_right net plan x)) (device_numbers net) d third (has_below (length net.devices) d within))
    in
    let both : (hop_is_right net plan d (primary_of plan d) ≡ true) × (hop_is_right net plan d (backup_of plan d) ≡ true) =
    and_parts (hop_is_right net plan d (primary_of plan d)) (hop_is_right net plan d (backup_of plan d)) right
    in
    let tests : (is_member plan hop.parent && is_present plan hop.link && joins net hop.link d hop.parent) ≡ true =
    subst (λ (o : Option Hop). hop_is_right net plan d o ≡ true) is both.1 in
    let two = and_parts (is_member plan hop.parent && is_present plan hop.link) (joins net hop.link d hop.parent) tests in
    (and_parts (is_member plan hop.parent) (is_present plan hop.link) two.0).0

-- it is a device, and the link is one of the network
pub backup_within : (net : Network) (plan : Plan) (d : ℕ) (hop : Hop) → Fits net plan → backup_of plan d ≡ Some hop → IsHop net hop
backup_within net plan d hop fits is = by_place (slice_get plan.rows d) (λ row at. fits.rows d row at) is
  where
    by_place : (o : Option (Option PlanRow)) → ((row : Option PlanRow) → o ≡ Some row → IsRow net row)
        → map_or (map_or o None (λ row. row)) None (λ row. row.backup) ≡ Some hop → IsHop net hop
    by_place None rows is = cc
    by_place (Some None) rows is = cc
    by_place (Some (Some row)) rows is = (rows (Some row) refl).1 hop is
