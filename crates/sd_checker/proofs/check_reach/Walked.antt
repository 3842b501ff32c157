-- Cut paths: where they end, and that sound links join a device that is not hit to this end.
use Rattle.std.specs.Prelude.{◌≡◌, ℕ, zero, suc, ◌+◌, ◌<◌, ◌≤◌, Bool, true, false, ◌&&◌, ◌||◌, not, List, [], length, find, Option, Some, None, option_map, IfSome, if◌then◌else◌}
use Rattle.std.specs.Option.{option_or}
use Rattle.std.proofs.Common.{refl, sym, ◌∙◌, subst, arith, inl, inr, slice_get}
use Rattle.std.proofs.lemmas.Bool.{and_parts, and_from, or_parts, or_left, or_right, not-false, not_from_false, cases_lt, both_ways}
use Rattle.std.proofs.lemmas.Option.{slice_get_past}
use Rattle.sd_num.specs.Lists.{map_or}
use Rattle.sd_plan.specs.topo.Network.{Network, joins, device_numbers}
use Rattle.sd_plan.specs.topo.Joined.{Joined, here, over}
use Rattle.sd_plan.specs.domain.Domains.{holds_device, holds_link, hits}
use Rattle.sd_plan.specs.declared.domain.DomainId.{DomainId}
use Rattle.sd_plan.specs.declared.Hop.{Hop}
use Rattle.sd_plan.specs.declared.Plan.{Plan}
use Rattle.sd_plan.specs.declared.PlanRow.{PlanRow}
use Rattle.sd_plan.specs.Plans.{Fits, IsHop, is_member, is_present, is_root, is_backup_root, has_row, primary_of, backup_of}
use Rattle.sd_plan.specs.Walks.{hops, ends_walks, things_of, end_of, is_hit}
use Rattle.sd_plan.specs.Structure.{structure_breach, first_failing, roots_breach, row_is_right, hop_is_right, hops_are_right, links_differ, reaches_root, falls_back}
use Rattle.sd_plan.proofs.Numbered.{both_none, none_found}
use Rattle.sd_plan.proofs.Rules.{KeepsRules, hops_within, member_is, none_mapped}
use Rattle.sd_plan.proofs.Forest.{Comes, onward}
use Rattle.sd_checker.specs.check_reach.Reach.{is_sound, is_sound_link}
use Rattle.sd_checker.proofs.check_reach.Shared.{end_ends}

-- a plan without a breach keeps the fifth rule
pub reach_rule : (net : Network) (plan : Plan) (d : ℕ) → structure_breach net plan ≡ None → d < length net.devices → reaches_root net plan d ≡ true
reach_rule net plan d structured within =
    let last : Option (ℕ × ℕ) = first_failing net 6 (falls_back plan) in
    let fifth : Option (ℕ × ℕ) = option_or (first_failing net 5 (reaches_root net plan)) last in
    let fourth : Option (ℕ × ℕ) = option_or (first_failing net 4 (links_differ plan)) fifth in
    let third : Option (ℕ × ℕ) = option_or (first_failing net 3 (hops_are_right net plan)) fourth in
    let second : Option (ℕ × ℕ) = option_or (first_failing net 2 (row_is_right plan)) third in
    let from_second = (both_none (option_map (λ d. (1, d)) (roots_breach plan)) second structured).1 in
    let from_third = (both_none (first_failing net 2 (row_is_right plan)) third from_second).1 in
    let from_fourth = (both_none (first_failing net 3 (hops_are_right net plan)) fourth from_third).1 in
    let from_fifth = (both_none (first_failing net 4 (links_differ plan)) fifth from_fourth).1 in
    let here_none = (both_none (first_failing net 5 (reaches_root net plan)) last from_fifth).0 in
    not-false (reaches_root net plan d)
    (none_found (λ x. not (reaches_root net plan x)) (length net.devices) d
    (none_mapped (λ x. (5, x)) (find (λ x. not (reaches_root net plan x)) (device_numbers net)) here_none) within)

-- k primary hops lead from d to e, none of them to the root
Leads : Plan → ℕ → ℕ → ℕ → Type 0
Leads plan zero d e = d ≡ e
Leads plan (suc k) d e = (hop : Hop) × (primary_of plan d ≡ Some hop) × (is_root plan hop.parent ≡ false) × Leads plan k hop.parent e

-- where a first hop is made that does not come to the root
leads_to_backup_root : (plan : Plan) (n e : ℕ) (root backup : Bool) → is_root plan plan.backup_root ≡ false → is_root plan e ≡ root
    → is_backup_root plan e ≡ backup
    → end_of e (elim (root || backup) [ true ↦ [] | false ↦ hops (ends_walks plan) plan n e ]) ≡ plan.backup_root
    → (end_of e (hops (ends_walks plan) plan n e) ≡ plan.backup_root → (k : ℕ) × Leads plan k e plan.backup_root)
    → (is_root plan e ≡ false) × ((k : ℕ) × Leads plan k e plan.backup_root)
unfolding Leads
leads_to_backup_root plan n e true backup other root_is backup_is ends rest =
    let wrong : is_root plan e ≡ false = subst (λ x. is_root plan x ≡ false) (sym ends) other in
    absurd (both_ways (is_root plan e) wrong root_is)
leads_to_backup_root plan n e false true other root_is backup_is ends rest = (root_is, (0, ends))
leads_to_backup_root plan n e false false other root_is backup_is ends rest = (root_is, rest ends)

-- hops that end at the backup root, which is not the root, lead to it
leads_back : (plan : Plan) (n d : ℕ) → is_root plan plan.backup_root ≡ false → end_of d (hops (ends_walks plan) plan n d) ≡ plan.backup_root
    → (k : ℕ) × Leads plan k d plan.backup_root
unfolding Leads
leads_back plan zero d other ends = (0, ends)
leads_back plan (suc n) d other ends = by (primary_of plan d) refl ends (leads_back plan n)
  where
    by : (found : Option Hop) → primary_of plan d ≡ found → end_of d (onward (ends_walks plan) (hops (ends_walks plan) plan n) found) ≡ plan.backup_root
        → ((e : ℕ) → is_root plan plan.backup_root ≡ false → end_of e (hops (ends_walks plan) plan n e) ≡ plan.backup_root
        → (k : ℕ) × Leads plan k e plan.backup_root)
        → (k : ℕ) × Leads plan k d plan.backup_root
    by None is ends rest = (0, ends)
    by (Some hop) is ends rest =
        let more : (is_root plan hop.parent ≡ false) × ((k : ℕ) × Leads plan k hop.parent plan.backup_root) =
        leads_to_backup_root plan n hop.parent (is_root plan hop.parent) (is_backup_root plan hop.parent) other refl refl ends (rest hop.parent other) in
        (suc more.1.0, (hop, is, more.0, more.1.1))

-- what a walk to the root leads over comes to the root in fewer hops
fewer : (plan : Plan) (k n d e : ℕ) → Leads plan k d e → is_root plan d ≡ false → Comes plan n d → (m : ℕ) × (m + k ≡ n) × Comes plan m e
unfolding Leads
fewer plan zero n d e leads other comes = (n, omega arith, subst (λ x. Comes plan n x) leads comes)
fewer plan (suc k) zero d e leads other comes = cc
fewer plan (suc k) (suc n) d e leads other comes =
    let hop : Hop = leads.0 in
    let start : is_root plan (end_of d (onward (is_root plan) (hops (is_root plan) plan n) (Some hop))) ≡ true =
    subst (λ (found : Option Hop). is_root plan (end_of d (onward (is_root plan) (hops (is_root plan) plan n) found)) ≡ true) leads.1 comes in
    let on : Comes plan n hop.parent =
    subst (λ (b : Bool). is_root plan (end_of hop.parent (elim b [ true ↦ [] | false ↦ hops (is_root plan) plan n hop.parent ])) ≡ true) leads.2 start in
    let rest : (m : ℕ) × (m + k ≡ n) × Comes plan m e = fewer plan k n hop.parent e leads.3 leads.2 on in
    (rest.0, omega (arith, rest.1), rest.2)

-- no walk to the root comes back
no_return : (plan : Plan) (bound n k d : ℕ) → n ≤ bound → Leads plan (suc k) d d → is_root plan d ≡ false → Comes plan n d → ⊥
no_return plan zero n k d within leads other comes =
    let rest : (m : ℕ) × (m + suc k ≡ n) × Comes plan m d = fewer plan (suc k) n d d leads other comes in omega (arith, rest.1)
no_return plan (suc bound) n k d within leads other comes =
    let rest : (m : ℕ) × (m + suc k ≡ n) × Comes plan m d = fewer plan (suc k) n d d leads other comes in
    no_return plan bound rest.0 k d (omega (arith, rest.1)) leads other rest.2

-- a cut path of the backup root, from which a walk comes to the root, does not end at it
comes_back : (plan : Plan) (n : ℕ) → is_root plan plan.backup_root ≡ false
    → end_of plan.backup_root (hops (ends_walks plan) plan n plan.backup_root) ≡ plan.backup_root → Comes plan n plan.backup_root → ⊥
unfolding Leads
comes_back plan zero other ends comes = both_ways (is_root plan plan.backup_root) other comes
comes_back plan (suc n) other ends comes = by (primary_of plan plan.backup_root) refl ends comes
  where
    by : (found : Option Hop) → primary_of plan plan.backup_root ≡ found
        → end_of plan.backup_root (onward (ends_walks plan) (hops (ends_walks plan) plan n) found) ≡ plan.backup_root
        → is_root plan (end_of plan.backup_root (onward (is_root plan) (hops (is_root plan) plan n) found)) ≡ true → ⊥
    by None is ends root = both_ways (is_root plan plan.backup_root) other root
    by (Some hop) is ends root =
        let more : (is_root plan hop.parent ≡ false) × ((k : ℕ) × Leads plan k hop.parent plan.backup_root) =
        leads_to_backup_root plan n hop.parent (is_root plan hop.parent) (is_backup_root plan hop.parent) other refl refl ends (leads_back plan n hop.parent other) in
        no_return plan (suc n) (suc n) more.1.0 plan.backup_root (omega arith) (hop, is, more.0, more.1.1) other comes

-- sound devices and links lead from d to e, which is sound where d is
pub record Arrives (net : Network) (plan : Plan) (domain : DomainId) (d e : ℕ) : Type 0 where
  pub way : Joined net (is_sound net plan domain) (is_sound_link net plan domain) d e
  pub sound : is_sound net plan domain d ≡ true → is_sound net plan domain e ≡ true

-- hops of which the domain has nothing arrive
arrives : (net : Network) (plan : Plan) (domain : DomainId) (ends : ℕ → Bool) (n d : ℕ) → Fits net plan → KeepsRules net plan → d < length net.devices
    → hits net domain (things_of (hops ends plan n d)) ≡ false → Arrives net plan domain d (end_of d (hops ends plan n d))
arrives net plan domain ends zero d fits rules within free = record { way = here; sound = λ s. s }
arrives net plan domain ends (suc n) d fits rules within free =
    by (primary_of plan d) (hops_within net plan d fits).0
    (and_parts (hop_is_right net plan d (primary_of plan d)) (hop_is_right net plan d (backup_of plan d)) (rules.hops d within)).0 free
    (λ e inside. arrives net plan domain ends n e fits rules inside)
  where
    after : (e : ℕ) (b : Bool) → hits net domain (things_of (elim b [ true ↦ [] | false ↦ hops ends plan n e ])) ≡ false
        → (hits net domain (things_of (hops ends plan n e)) ≡ false → Arrives net plan domain e (end_of e (hops ends plan n e)))
        → Arrives net plan domain e (end_of e (elim b [ true ↦ [] | false ↦ hops ends plan n e ]))
    after e true none rest = record { way = here; sound = λ s. s }
    after e false none rest = rest none

    by : (found : Option Hop) → IfSome found (IsHop net) → hop_is_right net plan d found ≡ true
        → hits net domain (things_of (onward ends (hops ends plan n) found)) ≡ false
        → ((e : ℕ) → e < length net.devices → hits net domain (things_of (hops ends plan n e)) ≡ false
        → Arrives net plan domain e (end_of e (hops ends plan n e)))
        → Arrives net plan domain d (end_of d (onward ends (hops ends plan n) found))
    by None known right none rest = record { way = here; sound = λ s. s }
    by (Some hop) known right none rest =
        let others : List Hop = elim (ends hop.parent) [ true ↦ [] | false ↦ hops ends plan n hop.parent ] in
        let first : (holds_link net domain hop.link ≡ false) × ((holds_device net domain hop.parent || hits net domain (things_of others)) ≡ false) =
        or_parts (holds_link net domain hop.link) (holds_device net domain hop.parent || hits net domain (things_of others)) none in
        let second : (holds_device net domain hop.parent ≡ false) × (hits net domain (things_of others) ≡ false) =
        or_parts (holds_device net domain hop.parent) (hits net domain (things_of others)) first.1 in
        let rule : ((is_member plan hop.parent && is_present plan hop.link) ≡ true) × (joins net hop.link d hop.parent ≡ true) =
        and_parts (is_member plan hop.parent && is_present plan hop.link) (joins net hop.link d hop.parent) right in
        let usable : (is_member plan hop.parent ≡ true) × (is_present plan hop.link ≡ true) =
        and_parts (is_member plan hop.parent) (is_present plan hop.link) rule.0 in
        let link : is_sound_link net plan domain hop.link ≡ true =
        and_from (is_present plan hop.link) (not (holds_link net domain hop.link)) usable.1 (not_from_false (holds_link net domain hop.link) first.0) in
        let parent : is_sound net plan domain hop.parent ≡ true =
        and_from (is_member plan hop.parent) (not (holds_device net domain hop.parent)) usable.0
        (not_from_false (holds_device net domain hop.parent) second.0) in
        let more : Arrives net plan domain hop.parent (end_of hop.parent others) = after hop.parent (ends hop.parent) second.1 (rest hop.parent known.0) in
        record { way = over hop.link known.1 link rule.1 parent more.way; sound = λ s. more.sound parent }

-- a device that is not hit arrives at the root or the backup root
pub record Ends (net : Network) (plan : Plan) (domain : DomainId) (d : ℕ) : Type 0 where
  pub at : ℕ
  pub arrives : Arrives net plan domain d at
  pub is_end : ends_walks plan at ≡ true
  pub apart : (d ≡ plan.backup_root) → is_root plan d ≡ false → (at ≡ plan.backup_root) → ⊥

pub unhit_ends : (net : Network) (plan : Plan) (domain : DomainId) (d : ℕ) → Fits net plan → structure_breach net plan ≡ None → KeepsRules net plan
    → d < length net.devices
    → is_member plan d ≡ true → is_hit net plan domain d ≡ false → Ends net plan domain d
unhit_ends net plan domain d fits structured rules within member spared = by (is_root plan d) refl spared (reach_rule net plan d structured within)
  where
    wrong : {b : Bool} → b ≡ true → b ≡ false → ⊥
    wrong right not_so = cc

    turned : (d : ℕ) → d ≡ plan.backup_root → is_root plan d ≡ false → Comes plan net.params.depth d
        → (end_of d (hops (ends_walks plan) plan net.params.depth d) ≡ plan.backup_root) → ⊥
    turned d is not_root root_comes same =
        let P : ℕ → Type 0 = λ x. is_root plan x ≡ false → Comes plan net.params.depth x
        → (end_of x (hops (ends_walks plan) plan net.params.depth x) ≡ plan.backup_root) → ⊥ in
        subst P (sym is) (λ other comes ends. comes_back plan net.params.depth other ends comes) not_root root_comes same

    comes : (m r : Bool) → m ≡ true → (not m || r) ≡ true → r ≡ true
    comes true r m reaches = reaches
    comes false r m reaches = cc

    by : (b : Bool) → is_root plan d ≡ b → hits net domain (things_of (if b then [] else hops (ends_walks plan) plan net.params.depth d)) ≡ false
        → (not (is_member plan d) || is_root plan (end_of d (if b then [] else hops (is_root plan) plan net.params.depth d))) ≡ true → Ends net plan domain d
    by true root free reaches =
        record {
          at = d;
          arrives = record { way = here; sound = λ s. s };
          is_end = or_left (is_root plan d) (is_backup_root plan d) root;
          apart = λ is other same. wrong root other;
        }
    by false other free reaches =
        let root_comes : Comes plan net.params.depth d = comes (is_member plan d) _ member reaches in
        record {
          at = end_of d (hops (ends_walks plan) plan net.params.depth d);
          arrives = arrives net plan domain (ends_walks plan) net.params.depth d fits rules within free;
          is_end = end_ends plan net.params.depth d root_comes;
          apart = λ is not_root. turned d is not_root root_comes;
        }

-- what a device that is hit is: a member with a row, no root
pub record IsHitDevice (net : Network) (plan : Plan) (d : ℕ) : Type 0 where
  pub within : d < length net.devices
  pub hop : Hop
  pub primary : primary_of plan d ≡ Some hop
  pub no_root : is_root plan d ≡ false
  pub member : is_member plan d ≡ true

pub hit_device : (net : Network) (plan : Plan) (domain : DomainId) (d : ℕ) → Fits net plan → KeepsRules net plan → is_hit net plan domain d ≡ true
    → IsHitDevice net plan d
hit_device net plan domain d fits rules hit = by_root (is_root plan d) refl hit
  where
    by_length : (n : ℕ) (found : Option Hop)
        → hits net domain (things_of (elim n [ zero ↦ [] | suc m ↦ onward (ends_walks plan) (hops (ends_walks plan) plan m) found ])) ≡ true
        → (hop : Hop) × (found ≡ Some hop)
    by_length zero found hit = cc
    by_length (suc n) None hit = cc
    by_length (suc n) (Some hop) hit = (hop, refl)

    first_hop : (n : ℕ) → hits net domain (things_of (hops (ends_walks plan) plan n d)) ≡ true → (hop : Hop) × (primary_of plan d ≡ Some hop)
    first_hop zero hit = cc
    first_hop (suc n) hit = by_length (suc n) (primary_of plan d) hit

    has_entry : (o : Option (Option PlanRow)) (hop : Hop) → option_map (λ row. row.primary) (map_or o None (λ row. row)) ≡ Some hop
        → map_or (map_or o None (λ row. row)) false (λ row. true) ≡ true
    has_entry None hop is = cc
    has_entry (Some None) hop is = cc
    has_entry (Some (Some row)) hop is = refl

    in_range : (hop : Hop) → primary_of plan d ≡ Some hop → d < length net.devices
    in_range hop is = elim (cases_lt d (length net.devices)) [
      | inl inside ↦ inside
      | inr past ↦
          (let beyond : length plan.rows ≤ d = omega (arith, fits.entries) in
          let none : slice_get plan.rows d ≡ None = slice_get_past plan.rows d beyond in
          let lost : option_map (λ row. row.primary) (map_or (slice_get plan.rows d) None (λ row. row)) ≡ Some hop = is in
          let nothing : ◌≡◌ {A = Option Hop} None (Some hop) =
          subst (λ (o : Option (Option PlanRow)). option_map (λ row. row.primary) (map_or o None (λ row. row)) ≡ Some hop) none lost in
          cc)
    ]

    by_root : (b : Bool) → is_root plan d ≡ b → hits net domain (things_of (if b then [] else hops (ends_walks plan) plan net.params.depth d)) ≡ true
        → IsHitDevice net plan d
    by_root true root hit = cc
    by_root false other hit =
        let found : (hop : Hop) × (primary_of plan d ≡ Some hop) = first_hop net.params.depth hit in
        let inside : d < length net.devices = in_range found.0 found.1 in
        record {
          within = inside;
          hop = found.0;
          primary = found.1;
          no_root = other;
          member = sym (member_is net plan d rules inside) ∙ or_right (is_root plan d) (has_row plan d) (has_entry (slice_get plan.rows d) found.0 found.1);
        }
