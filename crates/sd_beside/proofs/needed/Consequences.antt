-- Ancestor follows from structure, root and loop; domain follows from reach.
use Rattle.std.specs.Prelude.{◌≡◌, ℕ, ◌<◌, Bool, true, false, ◌&&◌, ◌||◌, not, List, [], ◌∷◌, ◌++◌, length, map, find, nat_eq, Option, Some, None, IfSome, option_map, option_to_list, refl, if◌then◌else◌}
use Rattle.std.specs.List.{list_any}
use Rattle.std.specs.Option.{option_or}
use Rattle.std.proofs.Common.{sym, ap, ◌∙◌, subst, arith, inl, inr}
use Rattle.std.proofs.lemmas.Bool.{and_parts, and_from, or_cases, or_left, or_right, eqb-true, eq-eqb, cases_Bool, both_ways, false_from_ne_true}
use Rattle.std.proofs.lemmas.List.Folds.{list_any-append}
use Rattle.sd_num.specs.Lists.{has, map_or, below}
use Rattle.sd_plan.specs.topo.Network.{Network, device_numbers, link_numbers, joins}
use Rattle.sd_plan.specs.declared.topo.Thing.TheVariants as thing
use Rattle.sd_plan.specs.domain.Domains.{domains, holds_device, holds_link, hits}
use Rattle.sd_plan.specs.declared.domain.DomainId.{DomainId}
use Rattle.sd_plan.specs.declared.domain.DomainId.TheVariants as domain
use Rattle.sd_plan.specs.declared.Hop.{Hop}
use Rattle.sd_plan.specs.declared.Plan.{Plan}
use Rattle.sd_plan.specs.declared.PlanRow.{PlanRow}
use Rattle.sd_plan.specs.Plans.{IsHop, is_member, is_present, is_root, is_backup_root, row_of, primary_of, backup_of}
use Rattle.sd_plan.specs.Walks.{walk, path, ends_walks, is_hit, on_walk, devices_of, links_of, things_of, end_of, short_walk}
use Rattle.sd_plan.specs.Structure.{is_no_ancestor, hop_is_right}
use Rattle.sd_plan.proofs.Numbered.{none_found, both_none}
use Rattle.sd_plan.proofs.Rules.{KeepsRules, keeps_rules, hops_within, none_mapped}
use Rattle.sd_plan.proofs.Forest.{IsForest, IsStep, forest_of, climb, on_top, on_up}
use Rattle.sd_checker.specs.check_root.Roots.{root_breach, fallback_breach, fallback_devices, fallback_links}
use Rattle.sd_checker.specs.check_loop.Loops.{HasNoCycle, is_walk, hops_of, same_hop}
use Rattle.sd_checker.specs.check_reach.Reach.{Fed, LosesBackup, ReachHolds, DomainHolds, acting_end}
use Rattle.sd_checker.specs.check_reach.Reach as reach
use Rattle.sd_checker.specs.Conditions.{RootHolds}
use Rattle.sd_checker.proofs.check_loop.Shared.{not_root}
use Rattle.sd_checker.proofs.Exclusive.{same_self}
use Rattle.sd_checker.proofs.Shared.{backup_root_ends}
use Rattle.sd_num.proofs.Firsts.{find_below_none}
use Rattle.sd_beside.specs.needed.Consequences.{AncestorFollows, DomainFollows}
use Rattle.sd_history.proofs.Among.{Among, on_right}
use Rattle.sd_history.proofs.Given.{some_is}
use Rattle.sd_history.proofs.Shared.{each_among, among_below}
use Rattle.sd_beside.proofs.needed.Elements.{mapped}
use Rattle.sd_beside.proofs.needed.Paths.{short_walk_is, short_walk_none, path_step}

-- Domain from reach

root_ends : (plan : Plan) (d : ℕ) → d ≡ plan.root → ends_walks plan d ≡ true
root_ends plan d is = or_left (is_root plan d) (is_backup_root plan d) (eq-eqb plan.root d (sym is))

acting_ends : (net : Network) (plan : Plan) (f : DomainId) (d : ℕ) → d ≡ acting_end net plan f → ends_walks plan d ≡ true
acting_ends net plan f d is = by (holds_device net f plan.root) is
  where
    by : (b : Bool) → d ≡ (if b then plan.backup_root else plan.root) → ends_walks plan d ≡ true
    by true same = backup_root_ends plan d same
    by false same = root_ends plan d same

not_both : (b : Bool) → b ≡ true → not b ≡ true → ⊥
not_both true is other = cc
not_both false is other = cc

-- a device that is fed has lost no backup
keeps_backup : (net : Network) (plan : Plan) (f : DomainId) (d : ℕ) → LosesBackup net plan f d → Fed net plan f d → ⊥
keeps_backup net plan f d loses (reach.acts sound is) = not_both (ends_walks plan d) (acting_ends net plan f d is) loses.no_root
keeps_backup net plan f d loses (reach.stands_by sound is) = not_both (ends_walks plan d) (backup_root_ends plan d is) loses.no_root
keeps_backup net plan f d loses (reach.spared sound unhit) = not_both (is_hit net plan f d) loses.hit unhit
keeps_backup net plan f d loses (reach.turns hop sound hit next link parent fed) =
    let same : hop ≡ loses.backup = turned (backup_of plan d) (primary_of plan d) loses.has_backup next in
    lost hop (subst (λ (h : Hop). (holds_link net f h.link || holds_device net f h.parent) ≡ true) (sym same) loses.lost) link parent
  where
    turned : (b p : Option Hop) → b ≡ Some loses.backup → option_or b p ≡ Some hop → hop ≡ loses.backup
    turned None p is to = cc
    turned (Some x) p is to = sym (some_is to) ∙ some_is is

    lost : (h : Hop) → (holds_link net f h.link || holds_device net f h.parent) ≡ true → not (holds_link net f h.link) ≡ true
        → not (holds_device net f h.parent) ≡ true → ⊥
    lost h either link parent = elim (or_cases (holds_link net f h.link) (holds_device net f h.parent) either) [
      | inl there ↦ not_both (holds_link net f h.link) there link
      | inr there ↦ not_both (holds_device net f h.parent) there parent
    ]

pub domain_holds : (net : Network) (plan : Plan) (f : DomainId) → ReachHolds net plan f → DomainHolds net plan f
domain_holds net plan f holds_ d loses =
    elim (holds_ d loses.sound) [ inl fed ↦ keeps_backup net plan f d loses fed | inr cut ↦ cut loses.not_cut ]

-- the domain condition follows from reach
pub domain_follows : (net : Network) (plan : Plan) → DomainFollows net plan
domain_follows net plan holds_ i f at = domain_holds net plan f (holds_ i f at)

-- Ancestor from structure, root and loop

-- each link alone is a domain
link_is_domain : (net : Network) (l : ℕ) → l < length net.links → Among (domain.Link l) (domains net)
link_is_domain net l within =
    on_right (map domain.Listed (below (length net.domains)) ++ map domain.Device (device_numbers net))
    (mapped domain.Link (link_numbers net) l (among_below (length net.links) l within))

-- the hop is drawn among these
abbrev drawn : Hop → Bool → Option Hop → Bool → Option Hop → Bool
drawn hop ordinary primary hit backup =
    list_any (same_hop hop) (if ordinary then option_to_list primary ++ (if hit then option_to_list backup else []) else [])

module _ (net : Network) (plan : Plan) (forest : IsForest net plan) where
  -- a walk that leads over a device has the link of its primary hop
  has_link_of : (b : ℕ) (hop : Hop) → primary_of plan b ≡ Some hop → (x : ℕ) → x < length net.devices → on_walk net plan x b ≡ true
      → has (links_of (walk net plan x)) hop.link ≡ true
  has_link_of b hop is =
      climb net plan forest (λ x. on_walk net plan x b ≡ true → has (links_of (walk net plan x)) hop.link ≡ true)
      (λ x within none on. (let same : b ≡ x = eqb-true b x (sym (on_top net plan x b (forest.top x none)) ∙ on) in
      let gone : primary_of plan b ≡ None = ap (primary_of plan) same ∙ none in cc))
      (λ x h within is_ step above on.
      subst (λ (hs : List Hop). has (links_of hs) hop.link ≡ true) (sym step.walk)
      (elim (or_cases (nat_eq b x) (on_walk net plan h.parent b) (sym (on_up net plan x b h step.walk) ∙ on)) [
        | inl here ↦ or_left (nat_eq hop.link h.link) (has (links_of (walk net plan h.parent)) hop.link)
            (eq-eqb hop.link h.link (ap (λ (o : Option Hop). map_or o 0 (λ y. y.link)) (sym is ∙ ap (primary_of plan) (eqb-true b x here) ∙ is_)))
        | inr there ↦ or_right (nat_eq hop.link h.link) (has (links_of (walk net plan h.parent)) hop.link) (above there)
      ]))

  -- the domain of the link of the backup root's primary hop breaks the root condition where the fallback leads over the backup root
  root_keeps : (hop back : Hop) → plan.backup_root < length net.devices → primary_of plan plan.backup_root ≡ Some hop
      → backup_of plan plan.backup_root ≡ Some back → back.parent < length net.devices
      → root_breach net plan (domain.Link hop.link) ≡ None → on_walk net plan back.parent plan.backup_root ≡ true → ⊥
  root_keeps hop back within is falls inside none on =
      let step : IsStep net plan plan.backup_root hop = forest.up plan.backup_root hop within is in
      let touched : hits net (domain.Link hop.link) (path net plan plan.backup_root) ≡ true =
      subst (λ (hs : List Hop). hits net (domain.Link hop.link) (things_of hs) ≡ true) (sym step.walk)
      (or_left (nat_eq hop.link hop.link) (hits net (domain.Link hop.link) (thing.Device hop.parent ∷ things_of (walk net plan hop.parent)))
      (eq-eqb hop.link hop.link refl)) in
      let free : fallback_breach net plan (domain.Link hop.link) ≡ None =
      subst (λ (b : Bool). (if b then fallback_breach net plan (domain.Link hop.link) else None) ≡ None) touched none in
      let none_found_ : find (λ l. holds_link net (domain.Link hop.link) l && has (fallback_links net plan) l) (link_numbers net) ≡ None =
      none_mapped thing.Link (find (λ l. holds_link net (domain.Link hop.link) l && has (fallback_links net plan) l) (link_numbers net))
      (both_none (option_map thing.Device (find (λ d. holds_device net (domain.Link hop.link) d && has (fallback_devices net plan) d) (device_numbers net)))
      (option_map thing.Link (find (λ l. holds_link net (domain.Link hop.link) l && has (fallback_links net plan) l) (link_numbers net))) free).1 in
      let no : (nat_eq hop.link hop.link && has (fallback_links net plan) hop.link) ≡ false =
      none_found (λ l. holds_link net (domain.Link hop.link) l && has (fallback_links net plan) l) (length net.links) hop.link none_found_ step.link in
      let there : has (fallback_links net plan) hop.link ≡ true =
      subst (λ (o : Option Hop). has (map_or o [] (λ h. h.link ∷ links_of (walk net plan h.parent))) hop.link ≡ true) (sym falls)
      (or_right (nat_eq hop.link back.link) (has (links_of (walk net plan back.parent)) hop.link)
      (has_link_of plan.backup_root hop is back.parent inside on)) in
      both_ways (nat_eq hop.link hop.link && has (fallback_links net plan) hop.link) no
      (and_from (nat_eq hop.link hop.link) (has (fallback_links net plan) hop.link) (eq-eqb hop.link hop.link refl) there)

  -- a walk of hops that a domain allows, from x to d
  record Leads (f : DomainId) (x d : ℕ) : Type 0 where
    pub hops : List Hop
    pub is : is_walk net plan f x hops ≡ true
    pub ends : end_of x hops ≡ d

  -- a hop before such a walk
  leads_on : (f : DomainId) (x d : ℕ) (hop : Hop) → list_any (same_hop hop) (hops_of net plan f x) ≡ true → Leads f hop.parent d → Leads f x d
  leads_on f x d hop may rest =
      record {
        hops = hop ∷ rest.hops;
        is = and_from (list_any (same_hop hop) (hops_of net plan f x)) (is_walk net plan f hop.parent rest.hops) may rest.is;
        ends = rest.ends;
      }

  leads_here : (f : DomainId) (x d : ℕ) → d ≡ x → Leads f x d
  leads_here f x d same = record { hops = []; is = refl; ends = sym same }

  -- the hops that the checker draws have the primary one
  primary_drawn : (f : DomainId) (x : ℕ) (hop : Hop) → is_member plan x ≡ true → ends_walks plan x ≡ false → primary_of plan x ≡ Some hop
      → list_any (same_hop hop) (hops_of net plan f x) ≡ true
  primary_drawn f x hop member other is =
      subst (λ (o : Option Hop). drawn hop (is_member plan x && not (ends_walks plan x)) o (is_hit net plan f x) (backup_of plan x) ≡ true) (sym is)
      (subst (λ (b : Bool). drawn hop b (Some hop) (is_hit net plan f x) (backup_of plan x) ≡ true)
      (sym (and_from (is_member plan x) (not (ends_walks plan x)) member (ap not other)))
      (or_left (same_hop hop hop) _ (same_self hop)))

  -- and the backup one of a device that is hit
  backup_drawn : (f : DomainId) (x : ℕ) (hop : Hop) → is_member plan x ≡ true → ends_walks plan x ≡ false → is_hit net plan f x ≡ true
      → backup_of plan x ≡ Some hop → list_any (same_hop hop) (hops_of net plan f x) ≡ true
  backup_drawn f x hop member other hit is =
      subst (λ (o : Option Hop). drawn hop (is_member plan x && not (ends_walks plan x)) (primary_of plan x) (is_hit net plan f x) o ≡ true) (sym is)
      (subst (λ (b : Bool). drawn hop (is_member plan x && not (ends_walks plan x)) (primary_of plan x) b (Some hop) ≡ true) (sym hit)
      (subst (λ (b : Bool). drawn hop b (primary_of plan x) true (Some hop) ≡ true)
      (sym (and_from (is_member plan x) (not (ends_walks plan x)) member (ap not other)))
      (list_any-append (same_hop hop) (option_to_list (primary_of plan x)) (hop ∷ [])
      ∙ or_right (list_any (same_hop hop) (option_to_list (primary_of plan x))) (same_hop hop hop || false)
      (or_left (same_hop hop hop) false (same_self hop)))))

  -- primary hops lead from a member to each device of its short walk
  leads_down : (f : DomainId) (d x : ℕ) → x < length net.devices → is_member plan x ≡ true
      → has (devices_of x (short_walk net plan x)) d ≡ true → Leads f x d
  leads_down f d =
      climb net plan forest (λ x. is_member plan x ≡ true → has (devices_of x (short_walk net plan x)) d ≡ true → Leads f x d)
      (λ x within none member there.
      elim (cases_Bool (ends_walks plan x)) [
        | inl ends ↦ leads_here f x d (at_end x ends there)
        | inr other ↦ (let (hop, is) = forest.hop x within member (not_root plan x other) in cc)
      ])
      (λ x hop within is step above member there.
      elim (cases_Bool (ends_walks plan x)) [
        | inl ends ↦ leads_here f x d (at_end x ends there)
        | inr other ↦
            (let whole : short_walk net plan x ≡ hop ∷ short_walk net plan hop.parent =
            short_walk_is net plan x other ∙ path_step net plan x hop forest within is in
            let either : has (x ∷ devices_of hop.parent (short_walk net plan hop.parent)) d ≡ true =
            subst (λ (hs : List Hop). has (devices_of x hs) d ≡ true) whole there in
            elim (or_cases (nat_eq d x) (has (devices_of hop.parent (short_walk net plan hop.parent)) d) either) [
              | inl here ↦ leads_here f x d (eqb-true d x here)
              | inr on ↦ leads_on f x d hop (primary_drawn f x hop member other is) (above step.above on)
            ])
      ])
    where
      at_end : (x : ℕ) → ends_walks plan x ≡ true → has (devices_of x (short_walk net plan x)) d ≡ true → d ≡ x
      at_end x ends there =
          elim (or_cases (nat_eq d x) false (subst (λ (hs : List Hop). has (devices_of x hs) d ≡ true) (short_walk_none net plan x ends) there)) [
            | inl here ↦ eqb-true d x here
            | inr never ↦ cc
          ]

  -- a device other than both roots is not on the short walk of its backup parent, where the link of its primary hop alone closes no loop
  loop_keeps : (d : ℕ) (hop back : Hop) → d < length net.devices → ends_walks plan d ≡ false → primary_of plan d ≡ Some hop → backup_of plan d ≡ Some back
      → back.parent < length net.devices → is_member plan back.parent ≡ true
      → HasNoCycle net plan (domain.Link hop.link) → has (devices_of back.parent (short_walk net plan back.parent)) d ≡ true → ⊥
  loop_keeps d hop back within other is falls inside member none there =
      let f = domain.Link hop.link in
      let step : IsStep net plan d hop = forest.up d hop within is in
      let hit : is_hit net plan f d ≡ true =
      subst (λ (hs : List Hop). hits net f (things_of hs) ≡ true) (sym (path_step net plan d hop forest within is))
      (or_left (nat_eq hop.link hop.link) (hits net f (thing.Device hop.parent ∷ things_of (short_walk net plan hop.parent)))
      (eq-eqb hop.link hop.link refl)) in
      let leads : Leads f back.parent d = leads_down f d back.parent inside member there in
      let whole : Leads f d d = leads_on f d d back (backup_drawn f d back step.below other hit falls) leads in
      none d back leads.hops (and_from (list_any (same_hop back) (hops_of net plan f d)) (is_walk net plan f back.parent leads.hops)
      (backup_drawn f d back step.below other hit falls) leads.is) leads.ends

pub ancestor_follows : (net : Network) (plan : Plan) → AncestorFollows net plan
ancestor_follows net plan fits structured root loop = find_below_none (λ d. not (is_no_ancestor net plan d)) (length net.devices) each
  where
    rules : KeepsRules net plan
    rules = keeps_rules net plan structured

    forest : IsForest net plan
    forest = forest_of net plan fits structured

    -- a device with a backup has a primary
    primary_there : (d : ℕ) (back : Hop) → d < length net.devices → backup_of plan d ≡ Some back → (hop : Hop) × (primary_of plan d ≡ Some hop)
    primary_there d back within falls = by (row_of plan d) falls
      where
        by : (row : Option PlanRow) → map_or row None (λ r. r.backup) ≡ Some back → (hop : Hop) × (option_map (λ r. r.primary) row ≡ Some hop)
        by None is = cc
        by (Some row) is = (row.primary, refl)

    -- its backup parent is a member of the network
    parent_right : (d : ℕ) (back : Hop) → d < length net.devices → backup_of plan d ≡ Some back
        → (back.parent < length net.devices) × (is_member plan back.parent ≡ true)
    parent_right d back within falls =
        let known : IfSome (Some back) (IsHop net) = subst (λ (o : Option Hop). IfSome o (IsHop net)) falls (hops_within net plan d fits).1 in
        let right : hop_is_right net plan d (Some back) ≡ true =
        subst (λ (o : Option Hop). hop_is_right net plan d o ≡ true) falls
        (and_parts (hop_is_right net plan d (primary_of plan d)) (hop_is_right net plan d (backup_of plan d)) (rules.hops d within)).1 in
        let front : (is_member plan back.parent && is_present plan back.link) ≡ true =
        (and_parts (is_member plan back.parent && is_present plan back.link) (joins net back.link d back.parent) right).0 in
        (known.0, (and_parts (is_member plan back.parent) (is_present plan back.link) front).0)

    by_backup : (d : ℕ) → d < length net.devices → (o : Option Hop) → backup_of plan d ≡ o → (b : Bool) → is_backup_root plan d ≡ b
        → map_or o true (λ hop. if b then not (on_walk net plan hop.parent d) else not (has (devices_of hop.parent (short_walk net plan hop.parent)) d)) ≡ true
    by_backup d within None falls b is = refl
    by_backup d within (Some back) falls true is =
        let here : plan.backup_root ≡ d = eqb-true plan.backup_root d is in
        let (hop, primary) = primary_there d back within falls in
        let inside = parent_right d back within falls in
        let step : IsStep net plan d hop = forest.up d hop within primary in
        let roots : root_breach net plan (domain.Link hop.link) ≡ None =
        each_among (RootHolds net plan) (domains net) (domain.Link hop.link) root (link_is_domain net hop.link step.link) in
        ap not (false_from_ne_true (on_walk net plan back.parent d) (λ on.
        root_keeps net plan forest hop back (omega (arith, within, here)) (ap (primary_of plan) here ∙ primary) (ap (backup_of plan) here ∙ falls) inside.0
        roots
        (subst (λ (x : ℕ). on_walk net plan back.parent x ≡ true) (sym here) on)))
    by_backup d within (Some back) falls false is =
        let (hop, primary) = primary_there d back within falls in
        let inside = parent_right d back within falls in
        let step : IsStep net plan d hop = forest.up d hop within primary in
        let other : ends_walks plan d ≡ false = ap (λ (b : Bool). b || is_backup_root plan d) step.other ∙ is in
        let loops : HasNoCycle net plan (domain.Link hop.link) =
        each_among (HasNoCycle net plan) (domains net) (domain.Link hop.link) loop (link_is_domain net hop.link step.link) in
        ap not (false_from_ne_true (has (devices_of back.parent (short_walk net plan back.parent)) d)
        (loop_keeps net plan forest d hop back within other primary falls inside.0 inside.1 loops))

    each : (d : ℕ) → d < length net.devices → not (is_no_ancestor net plan d) ≡ false
    each d within = ap not (by_backup d within (backup_of plan d) refl (is_backup_root plan d) refl)
