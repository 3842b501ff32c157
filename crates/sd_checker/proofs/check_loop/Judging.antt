-- What the marks of the hit devices say of the devices.
use Rattle.std.specs.Prelude.{◌≡◌, ◌≢◌, ℕ, zero, suc, ◌+◌, ◌<◌, ◌≤◌, Bool, true, false, ◌||◌, List, [], ◌∷◌, length, Option, Some, None, IfSome, IsTrue}
use Rattle.std.specs.List.{list_any}
use Rattle.std.proofs.Common.{refl, sym, ap, ◌∙◌, subst, arith, ◌⊎◌, inl, inr, get_or}
use Rattle.std.proofs.lemmas.Bool.{and_from, and_parts, or_left, or_right, or_cases, cases_lt, cases_Bool, cond-true, cond-false, eq-eqb, both_ways, false_from_ne_true}
use Rattle.std.proofs.lemmas.List.{get_or-map, length-map}
use Rattle.sd_num.specs.Lists.{has, same_number}
use Rattle.sd_num.proofs.Shared.{same_number-some}
use Rattle.sd_num.proofs.Ascending.{rise}
use Rattle.sd_plan.specs.topo.Network.{Network}
use Rattle.sd_plan.specs.declared.domain.DomainId.{DomainId}
use Rattle.sd_plan.specs.declared.Hop.{Hop}
use Rattle.sd_plan.specs.declared.Plan.{Plan}
use Rattle.sd_plan.specs.Plans.{Fits, is_member, is_root, has_row, primary_of, backup_of}
use Rattle.sd_plan.specs.Structure.{structure_breach}
use Rattle.sd_plan.specs.Walks.{ends_walks, is_hit, short_walk}
use Rattle.sd_plan.proofs.Rules.{keeps_rules, other_member}
use Rattle.sd_plan.proofs.Forest.{IsParent}
use Rattle.sd_checker.specs.check_hit.Hit.{hit_by}
use Rattle.sd_checker.specs.check_loop.Graphs.{place_in, parent_place, no_successors, successors_of, graph_of, successors_at, leads, IsGraph, BothAre}
use Rattle.sd_checker.specs.check_loop.Loops.{hops_of, same_hop, is_walk, HasNoCycle}
use Rattle.sd_checker.specs.check_loop.ShownCycles.{IsEndless, IsLeast, LeadsTo, IsNextShown}
use Rattle.sd_checker.specs.check_loop.Markings.{mark_at, EndsBelow, IsMarked}
use Rattle.sd_checker.specs.check_loop.Shown.{next_endless}
use Rattle.sd_checker.specs.declared.check_loop.graph.Successors.{Successors}
use Rattle.sd_checker.specs.declared.check_loop.marking.Mark.{Mark}
use Rattle.sd_checker.specs.declared.check_loop.marking.Mark.TheVariants as mark
use Rattle.sd_checker.proofs.check_loop.Hops.{any_parent, IsLed, OneLeads, led, leads_to, row_within, led_row, has_primary_row, has_backup_row}
use Rattle.sd_checker.proofs.check_loop.Least.{next_parts, next_least}
use Rattle.sd_checker.proofs.check_loop.Listed.{hit_ascends}
use Rattle.sd_checker.proofs.check_loop.Markers.{both_at, place_of}
use Rattle.sd_checker.proofs.check_loop.Places.{place_in-some, place_in-at, passing_at, passing_has}
use Rattle.sd_checker.proofs.check_loop.Ranks.{no_cycle}
use Rattle.sd_checker.proofs.check_loop.Unhit.{short_count, GoesUnhit, goes_unhit}
use Rattle.sd_checker.proofs.check_loop.Shared.{parent_any, not_root}

-- one place leads to another, by the successors of the first
abbrev leads_by : Successors → ℕ → Bool
leads_by s j = same_number s.primary j || same_number s.backup j

-- the place of a parent that is there
parent_at : (hit : List ℕ) (o : Option Hop) (e j : ℕ) → IsParent o e → place_in hit e ≡ Some j → parent_place hit o ≡ Some j
parent_at hit o e j parent at = ap (parent_place hit) parent.1 ∙ ap (place_in hit) parent.2 ∙ at

at_parent : (hit : List ℕ) (o : Option Hop) (j : ℕ) → parent_place hit o ≡ Some j → (e : ℕ) × IsParent o e × (place_in hit e ≡ Some j)
at_parent hit None j at = cc
at_parent hit (Some hop) j at = (hop.parent, (hop, refl, refl), at)

-- the hit devices of a domain, as the graph has them
module _ (net : Network) (plan : Plan) (domain : DomainId) (fits : Fits net plan) (structured : structure_breach net plan ≡ None) (hit : List ℕ)
    (is : hit ≡ hit_by net plan domain) where
  -- what is listed is hit
  hit_here : (d i : ℕ) → place_in hit d ≡ Some i → is_hit net plan domain d ≡ true
  hit_here d i at =
      let place = place_in-some hit d i at in
      subst (λ (x : ℕ). is_hit net plan domain x ≡ true) place.1
      (subst (λ (xs : List ℕ). i < length xs → is_hit net plan domain (get_or xs i 0) ≡ true) (sym is)
      (λ within. passing_at (is_hit net plan domain) (length net.devices) i within) place.0)

  -- what is hit is listed
  unplaced : (d : ℕ) → d < length net.devices → place_in hit d ≡ None → is_hit net plan domain d ≡ false
  unplaced d within none =
      false_from_ne_true (is_hit net plan domain d) (λ hits.
      let listed : has hit d ≡ true =
      subst (λ (xs : List ℕ). has xs d ≡ true) (sym is) (passing_has (is_hit net plan domain) (length net.devices) d within hits) in
      let place = place_of hit d listed in
      let there : place_in hit d ≡ Some place.0 =
      subst (λ (x : ℕ). place_in hit x ≡ Some place.0) place.2 (place_in-at hit place.0 (hit_ascends net plan domain hit is) place.1) in
      differ place.0 (sym none ∙ there))
    where
      differ : (i : ℕ) → ◌≡◌ {A = Option ℕ} None (Some i) → ⊥
      differ i same = cc

  -- a device with a hop is one of the network
  led_within : (d e : ℕ) → IsLed net plan domain d e → d < length net.devices
  led_within d e known = let within = row_within plan d (led_row net plan domain d e known) in omega (arith, within, fits.entries)

  -- a device with a row that ends no walk is a member
  row_member : (d : ℕ) → has_row plan d ≡ true → ends_walks plan d ≡ false → is_member plan d ≡ true
  row_member d row other =
      let within = row_within plan d row in
      sym (other_member net plan d (keeps_rules net plan structured) (omega (arith, within, fits.entries))
      (λ same. both_ways (is_root plan d) (not_root plan d other) (eq-eqb plan.root d same))) ∙ row

  module _ (graph : List Successors) (made : graph ≡ graph_of plan hit) where
    -- the successors at a place are those of its device
    successors_there : (d i : ℕ) → place_in hit d ≡ Some i → successors_at graph i ≡ successors_of plan hit d
    successors_there d i at =
        let place = place_in-some hit d i at in
        ap (λ (g : List Successors). successors_at g i) made ∙ get_or-map (successors_of plan hit) hit i 0 no_successors place.0
        ∙ ap (successors_of plan hit) place.1

    -- those of a device that ends no walk
    abbrev of_parents : ℕ → Successors
    of_parents d = record { primary = parent_place hit (primary_of plan d); backup = parent_place hit (backup_of plan d) }

    successors_on : (d : ℕ) → ends_walks plan d ≡ false → successors_of plan hit d ≡ of_parents d
    unfolding successors_of
    successors_on d other = cond-false (ends_walks plan d) no_successors (of_parents d) other

    successors_end : (d : ℕ) → ends_walks plan d ≡ true → successors_of plan hit d ≡ no_successors
    unfolding successors_of
    successors_end d ends = cond-true (ends_walks plan d) no_successors (of_parents d) ends

    -- where a device leads to another, so do their places
    leads_on : (d e i j : ℕ) → place_in hit d ≡ Some i → place_in hit e ≡ Some j → LeadsTo net plan domain d e → leads graph i j ≡ true
    leads_on d e i j at_d at_e leads_e =
        let known = led net plan domain d e leads_e in
        subst (λ (s : Successors). leads_by s j ≡ true) (sym (successors_there d i at_d ∙ successors_on d known.ends_not)) (by known.parent)
      where
        same : (o : Option ℕ) → o ≡ Some j → same_number o j ≡ true
        same o some = subst (λ (found : Option ℕ). same_number found j ≡ true) (sym some) (eq-eqb j j refl)

        by : OneLeads (is_hit net plan domain d) (primary_of plan d) (backup_of plan d) e → leads_by (of_parents d) j ≡ true
        by (inl here) =
            or_left (same_number (parent_place hit (primary_of plan d)) j) (same_number (parent_place hit (backup_of plan d)) j)
            (same (parent_place hit (primary_of plan d)) (parent_at hit (primary_of plan d) e j here at_e))
        by (inr there) =
            or_right (same_number (parent_place hit (primary_of plan d)) j) (same_number (parent_place hit (backup_of plan d)) j)
            (same (parent_place hit (backup_of plan d)) (parent_at hit (backup_of plan d) e j there.1 at_e))

    -- where a place leads to another, so do their devices
    led_on : (d i j : ℕ) → place_in hit d ≡ Some i → leads graph i j ≡ true → (e : ℕ) × (place_in hit e ≡ Some j) × LeadsTo net plan domain d e
    led_on d i j at_d leads_j =
        elim (cases_Bool (ends_walks plan d)) [
          | inl ends ↦ absurd (none (subst (λ (s : Successors). leads_by s j ≡ true) (successors_there d i at_d ∙ successors_end d ends) leads_j))
          | inr other ↦ by other (or_cases (same_number (parent_place hit (primary_of plan d)) j) (same_number (parent_place hit (backup_of plan d)) j)
              (subst (λ (s : Successors). leads_by s j ≡ true) (successors_there d i at_d ∙ successors_on d other) leads_j))
        ]
      where
        none : leads_by no_successors j ≡ true → ⊥
        none same = cc

        by : ends_walks plan d ≡ false → (same_number (parent_place hit (primary_of plan d)) j ≡ true)
            ⊎ (same_number (parent_place hit (backup_of plan d)) j ≡ true) → (e : ℕ) × (place_in hit e ≡ Some j) × LeadsTo net plan domain d e
        by other (inl here) =
            let found = at_parent hit (primary_of plan d) j (same_number-some (parent_place hit (primary_of plan d)) j here) in (
              found.0,
              found.2,
              leads_to net plan domain d found.0
                  (record { member_is = row_member d (has_primary_row plan d found.0 found.1) other; ends_not = other; parent = inl found.1 }),
            )
        by other (inr there) =
            let found = at_parent hit (backup_of plan d) j (same_number-some (parent_place hit (backup_of plan d)) j there) in (
              found.0,
              found.2,
              leads_to net plan domain d found.0
                  (record {
                    member_is = row_member d (has_backup_row plan d found.0 found.1) other;
                    ends_not = other;
                    parent = inr (hit_here d i at_d, found.1);
                  }),
            )

    module _ (marks : List Mark) (marked : IsMarked graph marks) where
      -- each walk from the device ends
      Ends : ℕ → Type 0
      Ends d = (i : ℕ) → place_in hit d ≡ Some i → mark_at marks i ≡ mark.Ending

      abbrev IsMarkedEndless : ℕ → Type 0
      IsMarkedEndless d = (i : ℕ) × (place_in hit d ≡ Some i) × (mark_at marks i ≡ mark.Endless)

      abbrev rank_by : Bool → Option ℕ → ℕ → ℕ
      rank_by true place d = 0
      rank_by false None d = length (short_walk net plan d)
      rank_by false (Some i) d = net.params.depth + 1 + marked.ranked.rank i

      rank : ℕ → ℕ
      rank d = rank_by (ends_walks plan d) (place_in hit d) d

      rank_is : (d : ℕ) (b : Bool) (place : Option ℕ) → ends_walks plan d ≡ b → place_in hit d ≡ place → rank d ≡ rank_by b place d
      unfolding rank
      rank_is d b place ends at = ap (λ (x : Bool). rank_by x (place_in hit d) d) ends ∙ ap (λ (o : Option ℕ). rank_by b o d) at

      -- a device that ends walks has no endless place
      ends_end : (e : ℕ) → ends_walks plan e ≡ true → Ends e
      unfolding Ends
      ends_end e ends j at =
          marked.done j (λ endless.
          let next = marked.goes_on j endless in
          let on = led_on e j next.0 at next.1 in
          both_ways (ends_walks plan e) (led net plan domain e on.0 on.2).ends_not ends)

      -- where a device that is not listed leads
      unlisted : (d e : ℕ) → place_in hit d ≡ None → LeadsTo net plan domain d e → GoesUnhit net plan domain d e
      unlisted d e none leads_e =
          let known = led net plan domain d e leads_e in
          let within = led_within d e known in
          let unhit = unplaced d within none in
          elim known.parent [
            | inl here ↦ subst (λ (x : ℕ). GoesUnhit net plan domain d x) here.2
                (goes_unhit net plan domain d here.0 structured within known.member_is known.ends_not here.1 unhit)
            | inr there ↦ absurd (both_ways (is_hit net plan domain d) unhit there.0)
          ]

      -- all that it leads to ends
      ends_on : (d e : ℕ) → Ends d → LeadsTo net plan domain d e → Ends e
      unfolding Ends
      ends_on d e ends leads_e j at_e =
          by (place_in hit d) refl
        where
          by : (place : Option ℕ) → place_in hit d ≡ place → mark_at marks j ≡ mark.Ending
          by (Some i) at_d =
              (both_at (EndsBelow marks marked.ranked.rank i) graph i j (leads_on d e i j at_d at_e leads_e) (marked.ranked.falls i (ends i at_d))).0
          by None none =
              elim (cases_Bool (ends_walks plan e)) [
                | inl last ↦ ends_end e last j at_e
                | inr more ↦ absurd (both_ways (is_hit net plan domain e) ((unlisted d e none leads_e).unhit more) (hit_here e j at_e))
              ]

      -- and has a lower rank
      falls : (d e : ℕ) → Ends d → LeadsTo net plan domain d e → rank e < rank d
      unfolding Ends
      falls d e ends leads_e = by (place_in hit d) refl (ends_walks plan e) refl (place_in hit e) refl
        where
          open_here : ends_walks plan d ≡ false
          open_here = (led net plan domain d e leads_e).ends_not

          by : (at_d : Option ℕ) → place_in hit d ≡ at_d → (last : Bool) → ends_walks plan e ≡ last → (at_e : Option ℕ) → place_in hit e ≡ at_e → rank e < rank d
          by (Some i) here true last at_e there = rw (rank_is d false (Some i) open_here here, rank_is e true at_e last there) (omega arith)
          by (Some i) here false more None there =
              rw (rank_is d false (Some i) open_here here, rank_is e false None more there) (omega (arith, short_count net plan e))
          by (Some i) here false more (Some j) there =
              let below = both_at (EndsBelow marks marked.ranked.rank i) graph i j (leads_on d e i j here there leads_e)
              (marked.ranked.falls i (ends i here)) in
              rw (rank_is d false (Some i) open_here here, rank_is e false (Some j) more there) (omega (arith, below.1))
          by None none true last at_e there =
              rw (rank_is d false None open_here none, rank_is e true at_e last there) (omega (arith, (unlisted d e none leads_e).fewer))
          by None none false more None there =
              rw (rank_is d false None open_here none, rank_is e false None more there) (unlisted d e none leads_e).fewer
          by None none false more (Some j) there =
              absurd (both_ways (is_hit net plan domain e) ((unlisted d e none leads_e).unhit more) (hit_here e j there))

      -- a first hop leads to its parent
      hop_leads : (d : ℕ) (hop : Hop) → IsTrue (list_any (same_hop hop) (hops_of net plan domain d)) → LeadsTo net plan domain d hop.parent
      hop_leads d hop some = parent_any (hops_of net plan domain d) hop some

      -- a walk has no more hops than the rank
      bounded : (d : ℕ) (hs : List Hop) → Ends d → IsTrue (is_walk net plan domain d hs) → length hs ≤ rank d
      bounded d [] ends walked = omega arith
      bounded d (hop ∷ hs) ends walked =
          let both : (list_any (same_hop hop) (hops_of net plan domain d) ≡ true) × (is_walk net plan domain hop.parent hs ≡ true) =
          and_parts (list_any (same_hop hop) (hops_of net plan domain d)) (is_walk net plan domain hop.parent hs) walked in
          let leads_e = hop_leads d hop both.0 in
          let rest : length hs ≤ rank hop.parent = bounded hop.parent hs (ends_on d hop.parent ends leads_e) both.1 in
          omega (arith, rest, falls d hop.parent ends leads_e)

      not_endless : (d : ℕ) → Ends d → IsEndless net plan domain d → ⊥
      not_endless d ends endless =
          let walk = endless (suc (rank d)) in
          omega (arith, bounded d walk.0 ends walk.2, walk.1)

      -- walks of each length begin at an endless place
      endless_walk : (n d i : ℕ) → place_in hit d ≡ Some i → mark_at marks i ≡ mark.Endless
          → (hs : List Hop) × (length hs ≡ n) × IsTrue (is_walk net plan domain d hs)
      endless_walk zero d i at endless = ([], refl, refl)
      endless_walk (suc n) d i at endless =
          let next = marked.goes_on i endless in
          let on = led_on d i next.0 at next.1 in
          let first = any_parent (hops_of net plan domain d) on.0 on.2 in
          let rest = endless_walk n on.0 next.0 on.1 next.2 in (
            first.0 ∷ rest.0,
            ap (λ (k : ℕ). suc k) rest.1,
            and_from (list_any (same_hop first.0) (hops_of net plan domain d)) (is_walk net plan domain first.0.parent rest.0) first.1
                (subst (λ (x : ℕ). is_walk net plan domain x rest.0 ≡ true) (sym first.2) rest.2),
          )

      marked_endless : (d : ℕ) → IsMarkedEndless d → IsEndless net plan domain d
      marked_endless d here n = endless_walk n d here.0 here.1 here.2

      -- each device ends or is marked as endless
      either : (d : ℕ) → Ends d ⊎ IsMarkedEndless d
      unfolding Ends
      either d = by (place_in hit d) refl
        where
          ended : (i j : ℕ) → place_in hit d ≡ Some i → place_in hit d ≡ Some j → mark_at marks i ≢ mark.Endless → mark_at marks j ≡ mark.Ending
          ended i j at there other = let both : Some i ≡ Some j = sym at ∙ there in let same : i ≡ j = cc in ap (mark_at marks) (sym same) ∙ marked.done i other

          differ : (i : ℕ) → ◌≡◌ {A = Option ℕ} None (Some i) → ⊥
          differ i same = cc

          differ_new : mark.New ≡ mark.Endless → ⊥
          differ_new same = cc

          differ_entered : mark.Entered ≡ mark.Endless → ⊥
          differ_entered same = cc

          differ_ending : mark.Ending ≡ mark.Endless → ⊥
          differ_ending same = cc

          by_mark : (i : ℕ) → place_in hit d ≡ Some i → (m : Mark) → mark_at marks i ≡ m
              → ((j : ℕ) → place_in hit d ≡ Some j → mark_at marks j ≡ mark.Ending) ⊎ IsMarkedEndless d
          by_mark i at mark.Endless is_m = inr (i, at, is_m)
          by_mark i at mark.New is_m = inl (λ j there. ended i j at there (λ e. differ_new (sym is_m ∙ e)))
          by_mark i at mark.Entered is_m = inl (λ j there. ended i j at there (λ e. differ_entered (sym is_m ∙ e)))
          by_mark i at mark.Ending is_m = inl (λ j there. ended i j at there (λ e. differ_ending (sym is_m ∙ e)))

          by : (place : Option ℕ) → place_in hit d ≡ place → ((j : ℕ) → place_in hit d ≡ Some j → mark_at marks j ≡ mark.Ending) ⊎ IsMarkedEndless d
          by None none = inl (λ j there. absurd (differ j (sym none ∙ there)))
          by (Some i) at = by_mark i at (mark_at marks i) refl

      -- the device at a place that ascends is not before that of an earlier one
      not_before : (d e i j : ℕ) → place_in hit d ≡ Some i → place_in hit e ≡ Some j → i ≤ j → d ≤ e
      not_before d e i j at_d at_e order =
          let first = place_in-some hit d i at_d in
          let second = place_in-some hit e j at_e in
          let up = rise hit (hit_ascends net plan domain hit is) i j order second.0 in
          omega (arith, up, first.1, second.1)

      -- where no place is endless, there is no cycle
      pub none_endless : ((i : ℕ) → mark_at marks i ≢ mark.Endless) → HasNoCycle net plan domain
      unfolding Ends
      none_endless none = no_cycle net plan domain rank (λ d hop some. falls d hop.parent (λ i at. marked.done i (none i)) (hop_leads d hop some))

      -- the device of the first endless place is the least endless one
      pub first_least : (d i : ℕ) → place_in hit d ≡ Some i → mark_at marks i ≡ mark.Endless → ((k : ℕ) → k < i → mark_at marks k ≢ mark.Endless)
          → IsLeast (IsEndless net plan domain) d
      first_least d i at endless before = (
        marked_endless d (i, at, endless),
        λ e less is_endless.
            elim (either e) [
              | inl ends ↦ not_endless e ends is_endless
              | inr here ↦ elim (cases_lt here.0 i) [
                | inl early ↦ before here.0 early here.2
                | inr late ↦ (let order = not_before d e i here.0 at here.1 late in omega (arith, order, less))
              ]
            ],
      )

      -- the least endless successor of a place is that of its device
      pub next_shown : (d e i j : ℕ) → place_in hit d ≡ Some i → place_in hit e ≡ Some j → next_endless graph marks i ≡ Some j → IsNextShown net plan domain d e
      next_shown d e i j at_d at_e next =
          let parts = next_parts graph marks i j next in
          let on = led_on d i j at_d parts.0 in
          let same : on.0 ≡ e = one on.0 on.1 in (
            (subst (λ (x : ℕ). LeadsTo net plan domain d x) same on.2, marked_endless e (j, at_e, parts.1)),
            λ x less both.
                elim (either x) [
                  | inl ends ↦ not_endless x ends both.1
                  | inr here ↦
                      (let least = next_least graph marks i j here.0 next (leads_on d x i here.0 at_d here.1 both.0) here.2 in
                      let order = not_before e x j here.0 at_e here.1 least in
                      omega (arith, order, less))
                ],
          )
        where
          one : (x : ℕ) → place_in hit x ≡ Some j → x ≡ e
          one x at_x = sym (place_in-some hit x j at_x).1 ∙ (place_in-some hit e j at_e).1

    -- all successors are places
    pub is_graph : IsGraph graph
    is_graph i within =
        let before : i < length hit = omega (arith, ap (λ (g : List Successors). length g) made, length-map hit (successors_of plan hit)) in
        let at = place_in-at hit i (hit_ascends net plan domain hit is) before in
        subst (λ (s : Successors). BothAre (λ j. j < length graph) s) (sym (successors_there (get_or hit i 0) i at))
        (by (cases_Bool (ends_walks plan (get_or hit i 0))))
      where
        size : length graph ≡ length hit
        size = ap (λ (g : List Successors). length g) made ∙ length-map hit (successors_of plan hit)

        one : (o : Option Hop) (place : Option ℕ) → parent_place hit o ≡ place → IfSome place (λ j. j < length graph)
        one o None none = tt
        one o (Some j) some = let found = at_parent hit o j some in let place = place_in-some hit found.0 j found.2 in omega (arith, place.0, size)

        by : (ends_walks plan (get_or hit i 0) ≡ true) ⊎ (ends_walks plan (get_or hit i 0) ≡ false)
            → BothAre (λ j. j < length graph) (successors_of plan hit (get_or hit i 0))
        by (inl ends) = subst (λ (s : Successors). BothAre (λ j. j < length graph) s) (sym (successors_end (get_or hit i 0) ends)) (tt, tt)
        by (inr other) =
            subst (λ (s : Successors). BothAre (λ j. j < length graph) s) (sym (successors_on (get_or hit i 0) other)) (
              one (primary_of plan (get_or hit i 0)) (parent_place hit (primary_of plan (get_or hit i 0))) refl,
              one (backup_of plan (get_or hit i 0))
                  (parent_place hit (backup_of plan (get_or hit i 0))) refl,
            )
