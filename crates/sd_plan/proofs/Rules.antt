-- What holds of a plan that breaks no rule of structure.
use Rattle.std.proofs.Common.{◌≡◌, ◌≢◌, ℕ, ◌<◌, Bool, true, false, ◌&&◌, ◌||◌, not, length, Option, Some, None, option_map, if◌then◌else◌, IfSome, refl, sym, ap, ◌∙◌, subst, find, nat_eq}
use Rattle.std.specs.Option.{option_or}
use Rattle.std.specs.List.{slice_get}
use Rattle.std.proofs.lemmas.Bool.{and_parts, not-true, not-false, eqb-true, ne_eqb}
use Rattle.sd_num.specs.Lists.{map_or}
use Rattle.sd_plan.specs.topo.Network.{Network, device_numbers, joins}
use Rattle.sd_plan.proofs.topo.Laws.{joined_end}
use Rattle.sd_plan.specs.Plans.{Fits, IsHop, IsRow, is_member, is_root, has_row, is_present, primary_of, backup_of}
use Rattle.sd_plan.specs.Structure.{structure_breach, first_failing, roots_breach, row_is_right, hop_is_right, hops_are_right, links_differ, reaches_root, falls_back}
use Rattle.sd_plan.specs.Tables.{EndsAt}
use Rattle.sd_plan.specs.declared.Hop.{Hop}
use Rattle.sd_plan.specs.declared.PlanRow.{PlanRow}
use Rattle.sd_plan.specs.declared.Plan.{Plan}
use Rattle.sd_plan.proofs.Numbered.{both_none, none_found}

-- the first three rules and the fifth, at each device
pub record KeepsRules (net : Network) (plan : Plan) : Type 0 where
  pub root : is_member plan plan.root ≡ true
  pub rows : (d : ℕ) → d < length net.devices → row_is_right plan d ≡ true
  pub hops : (d : ℕ) → d < length net.devices → hops_are_right net plan d ≡ true
  pub reaches : (d : ℕ) → d < length net.devices → reaches_root net plan d ≡ true

-- nothing is made of nothing alone
pub none_mapped : {X Y : Type 0} (f : X → Y) (o : Option X) → option_map f o ≡ None → o ≡ None
none_mapped f None none = refl
none_mapped f (Some x) none = cc

-- a rule that no device breaks
kept : (net : Network) (rule : ℕ) (keeps : ℕ → Bool) (d : ℕ) → first_failing net rule keeps ≡ None → d < length net.devices → keeps d ≡ true
kept net rule keeps d none within =
    not-false (keeps d)
    (none_found (λ x. not (keeps x)) (length net.devices) d (none_mapped (λ x. (rule, x)) (find (λ x. not (keeps x)) (device_numbers net)) none) within)

-- the rules from the fourth on
abbrev last_rules : Network → Plan → Option (ℕ × ℕ)
last_rules net plan =
    option_or (first_failing net 4 (links_differ plan))
    (option_or (first_failing net 5 (reaches_root net plan))
    (first_failing net 6 (falls_back plan)))

-- the rules from the third on
abbrev hop_rules : Network → Plan → Option (ℕ × ℕ)
hop_rules net plan = option_or (first_failing net 3 (hops_are_right net plan)) (last_rules net plan)

-- a test of which the breach tells nothing passes
passes : {X : Type 0} (b : Bool) (x : X) (rest : Option X) → (if not b then Some x else rest) ≡ None → b ≡ true
passes true x rest none = refl
passes false x rest none = cc

-- the rules from the fifth on
abbrev walk_rules : Network → Plan → Option (ℕ × ℕ)
walk_rules net plan = option_or (first_failing net 5 (reaches_root net plan)) (first_failing net 6 (falls_back plan))

-- the rest of the first rule
abbrev backup_root_breach : Plan → Option ℕ
backup_root_breach plan = if not (is_member plan plan.backup_root) || nat_eq plan.root plan.backup_root then Some plan.backup_root else None

-- a plan without a breach keeps the rules
pub keeps_rules : (net : Network) (plan : Plan) → structure_breach net plan ≡ None → KeepsRules net plan
keeps_rules net plan structured =
    let (first, after_first) =
    both_none (option_map (λ d. (1, d)) (roots_breach plan)) (option_or (first_failing net 2 (row_is_right plan)) (hop_rules net plan)) structured in
    let (second, after_second) = both_none (first_failing net 2 (row_is_right plan)) (hop_rules net plan) after_first in
    let (third, after_third) = both_none (first_failing net 3 (hops_are_right net plan)) (last_rules net plan) after_second in
    let (fourth, after_fourth) = both_none (first_failing net 4 (links_differ plan)) (walk_rules net plan) after_third in
    let (fifth, after_fifth) = both_none (first_failing net 5 (reaches_root net plan)) (first_failing net 6 (falls_back plan)) after_fourth in
    record {
      root = passes (is_member plan plan.root) plan.root (backup_root_breach plan) (none_mapped (λ d. (1, d)) (roots_breach plan) first);
      rows = λ d within. kept net 2 (row_is_right plan) d second within;
      hops = λ d within. kept net 3 (hops_are_right net plan) d third within;
      reaches = λ d within. kept net 5 (reaches_root net plan) d fifth within;
    }

-- where the root is a member and each other member has a row
of_tests : (member root row : Bool) → (if member && not root then row else not row) ≡ true → (root ≡ true → member ≡ true) → (root || row) ≡ member
of_tests true true row right there = refl
of_tests true false row right there = right
of_tests false true row right there = sym (there refl)
of_tests false false row right there = not-true row right

-- the members are the root and the devices with a row
pub member_is : (net : Network) (plan : Plan) (d : ℕ) → KeepsRules net plan → d < length net.devices → (is_root plan d || has_row plan d) ≡ is_member plan d
member_is net plan d rules within =
    of_tests (is_member plan d) (is_root plan d) (has_row plan d) (rules.rows d within)
    (λ here. subst (λ x. is_member plan x ≡ true) (eqb-true plan.root d here) rules.root)

-- a row's hops are numbers of the network
pub hops_within : (net : Network) (plan : Plan) (d : ℕ) → Fits net plan → IfSome (primary_of plan d) (IsHop net) × IfSome (backup_of plan d) (IsHop net)
hops_within net plan d fits = by_place (slice_get plan.rows d) (λ row at. fits.rows d row at)
  where
    by_backup : (o : Option Hop) → ((hop : Hop) → o ≡ Some hop → IsHop net hop) → IfSome o (IsHop net)
    by_backup None each = tt
    by_backup (Some hop) each = each hop refl

    by_place : (o : Option (Option PlanRow)) → ((row : Option PlanRow) → o ≡ Some row → IsRow net row)
        → IfSome (option_map (λ row. row.primary) (map_or o None (λ row. row))) (IsHop net)
        × IfSome (map_or (map_or o None (λ row. row)) None (λ row. row.backup)) (IsHop net)
    by_place None rows = (tt, tt)
    by_place (Some None) rows = (tt, tt)
    by_place (Some (Some row)) rows = let both = rows (Some row) refl in (both.0, by_backup row.backup both.1)

-- a hop leads to a device only over a link that joins them
led : (net : Network) (plan : Plan) (c d l : ℕ) (hop : Option Hop) → hop_is_right net plan c hop ≡ true
    → map_or hop false (λ h. nat_eq h.parent d && nat_eq h.link l) ≡ true → joins net l c d ≡ true
led net plan c d l None right leads = cc
led net plan c d l (Some h) right leads =
    let (parent, link) = and_parts (nat_eq h.parent d) (nat_eq h.link l) leads in
    let (front, joined) = and_parts (is_member plan h.parent && is_present plan h.link) (joins net h.link c h.parent) right in
    subst (λ x. joins net x c d ≡ true) (eqb-true h.link l link) (subst (λ x. joins net h.link c x ≡ true) (eqb-true h.parent d parent) joined)

-- so does each hop of a device
pub both_led : (net : Network) (plan : Plan) (d l c : ℕ) → KeepsRules net plan → c < length net.devices
    → ((map_or (primary_of plan c) false (λ h. nat_eq h.parent d && nat_eq h.link l) ≡ true) → joins net l c d ≡ true)
    × ((map_or (backup_of plan c) false (λ h. nat_eq h.parent d && nat_eq h.link l) ≡ true) → joins net l c d ≡ true)
both_led net plan d l c rules within =
    let (primary, backup) = and_parts (hop_is_right net plan c (primary_of plan c)) (hop_is_right net plan c (backup_of plan c)) (rules.hops c within) in
    (λ leads. led net plan c d l (primary_of plan c) primary leads, λ leads. led net plan c d l (backup_of plan c) backup leads)

-- a right hop of a device ends at it
ends_at : (net : Network) (plan : Plan) (d : ℕ) (hop : Option Hop) → hop_is_right net plan d hop ≡ true → IfSome hop (IsHop net) → IfSome hop (EndsAt net d)
ends_at net plan d None right within = tt
ends_at net plan d (Some h) right within =
    let (front, joined) = and_parts (is_member plan h.parent && is_present plan h.link) (joins net h.link d h.parent) right in
    (within.1, joined_end net h.link d h.parent joined)

-- so does each hop of a device
pub both_end : (net : Network) (plan : Plan) (d : ℕ) → Fits net plan → KeepsRules net plan → d < length net.devices
    → IfSome (primary_of plan d) (EndsAt net d) × IfSome (backup_of plan d) (EndsAt net d)
both_end net plan d fits rules within =
    let (primary, backup) = and_parts (hop_is_right net plan d (primary_of plan d)) (hop_is_right net plan d (backup_of plan d)) (rules.hops d within) in
    let known = hops_within net plan d fits in
    (ends_at net plan d (primary_of plan d) primary known.0, ends_at net plan d (backup_of plan d) backup known.1)

-- a member that is not the root has a row, and no other device has one
pub other_member : (net : Network) (plan : Plan) (d : ℕ) → KeepsRules net plan → d < length net.devices → plan.root ≢ d → has_row plan d ≡ is_member plan d
other_member net plan d rules within other = ap (λ root. root || has_row plan d) (sym (ne_eqb plan.root d other)) ∙ member_is net plan d rules within
