-- The walks of the placed devices are walks up their tree.
use Rattle.std.proofs.Common.{◌≡◌, ℕ, zero, suc, ◌≤◌, Bool, true, false, List, [], ◌∷◌, length, map, nat_eq, Option, Some, None, option_map, slice_get, if◌then◌else◌, refl, sym, ap, ◌∙◌, arith, inl, inr}
use Rattle.std.specs.Prelude.{option_and_then}
use Rattle.std.proofs.lemmas.Bool.{cases_lt, eqb-true}
use Rattle.std.proofs.lemmas.Option.{slice_get_past}
use Rattle.sd_num.specs.Lists.{map_or}
use Rattle.sd_plan.specs.topo.Network.{Network, device_numbers}
use Rattle.sd_plan.specs.declared.Hop.{Hop}
use Rattle.sd_plan.specs.declared.PlanRow.{PlanRow}
use Rattle.sd_plan.specs.declared.Absent.{Absent}
use Rattle.sd_plan.specs.Plans.{primary_of, is_root}
use Rattle.sd_plan.specs.Walks.{hops}
use Rattle.sd_plan.proofs.Numbered.{at-numbered, length-numbered}
use Rattle.sd_planner.specs.declared.placement.Placed.{Placed}
use Rattle.sd_planner.specs.Spreading.{placed_at}
use Rattle.sd_planner.specs.Placing.{placed}
use Rattle.sd_planner.specs.Trees.{Grows}
use Rattle.sd_planner.specs.Climbs.{hop_up, climb, way_up}
use Rattle.sd_planner.specs.Serving.{primary_row, primaries, walk_up}
use Rattle.sd_planner.proofs.Trees.{stands, Stands}

module _ (net : Network) (root : ℕ) (absent : Absent) (list : List Placed) (grows : Grows net root absent list) where
  -- the root has no hop
  pub root_up : hop_up list root ≡ None
  root_up = by_found (placed_at list root) refl
    where
      by_place : (i : ℕ) (p : Placed) → slice_get list i ≡ Some p → p.device ≡ root → (q : Placed) → slice_get list 0 ≡ Some q → p.hop ≡ None
      by_place zero p at is q first = ap (λ q. q.hop) (grows.first p at)
      by_place (suc i) p at is q first = absurd (grows.distinct 0 (suc i) q p (omega arith) first at (ap (λ x. x.device) (grows.first q first) ∙ sym is))

      begins : (xs : List Placed) (i : ℕ) (p : Placed) → slice_get xs i ≡ Some p → (q : Placed) × (slice_get xs 0 ≡ Some q)
      begins [] i p at = cc
      begins (q ∷ xs) i p at = (q, refl)

      by_found : (o : Option Placed) → placed_at list root ≡ o → option_and_then (λ p. p.hop) (placed_at list root) ≡ None
      by_found None is = ap (option_and_then (λ p. p.hop)) is
      by_found (Some p) is =
          let s : Stands list root p = stands list root p is in
          let first = begins list s.place p s.at in
          ap (option_and_then (λ p. p.hop)) is ∙ by_place s.place p s.at s.is first.0 first.1

  -- no other device is placed
  pub past_none : (d : ℕ) → length net.devices ≤ d → placed_at list d ≡ None
  past_none d past = by_found (placed_at list d) refl
    where
      by_found : (o : Option Placed) → placed_at list d ≡ o → placed_at list d ≡ None
      by_found None is = is
      by_found (Some p) is =
          let s : Stands list d p = stands list d p is in
          let inside = (grows.members s.place p s.at).0 in
          let same = s.is in
          absurd (omega arith)

module _ (net : Network) (root : ℕ) (absent : Absent) (grows : Grows net root absent (placed net root absent)) where
  abbrev list : List Placed
  list = placed net root absent

  -- the primary hop of a device is its hop in the tree
  pub primary_is : (d : ℕ) → primary_of (primaries net root absent) d ≡ hop_up list d
  unfolding primaries
  primary_is d = elim (cases_lt d (length net.devices)) [
    | inl inside ↦
        ap (λ (o : Option PlanRow). option_map (λ (row : PlanRow). row.primary) o)
        (at-numbered (primary_row net root absent) (length net.devices) d None (λ row. row) inside)
        ∙ unmade (option_and_then (λ p. p.hop) (placed_at list d))
    | inr past ↦
        ap (λ (o : Option (Option PlanRow)). option_map (λ (row : PlanRow). row.primary) (map_or o None (λ row. row)))
        (slice_get_past (map (primary_row net root absent) (device_numbers net)) d
        (rw (length-numbered (primary_row net root absent) (length net.devices)) past))
        ∙ sym (ap (option_and_then (λ p. p.hop)) (past_none net root absent list grows d past))
  ]
    where
      unmade : (o : Option Hop) → option_map (λ (row : PlanRow). row.primary) (option_map (λ (hop : Hop). record { primary = hop; backup = None }) o) ≡ o
      unmade None = refl
      unmade (Some hop) = refl

  climb_root : (n : ℕ) → climb list n root ≡ []
  unfolding climb
  climb_root zero = refl
  climb_root (suc n) = ap (λ o. map_or o [] (λ hop. hop ∷ climb list n hop.parent)) (root_up net root absent list grows)

  root_is : (d : ℕ) → is_root (primaries net root absent) d ≡ nat_eq root d
  unfolding primaries
  root_is d = refl

  hops_are : (n d : ℕ) → hops (is_root (primaries net root absent)) (primaries net root absent) n d ≡ climb list n d
  unfolding climb
  hops_are zero d = refl
  hops_are (suc n) d =
      ap (λ o. elim o [
        | None ↦ []
        | Some
            hop ↦ hop ∷ (elim (is_root (primaries net root absent) hop.parent)
            [ true ↦ [] | false ↦ hops (is_root (primaries net root absent)) (primaries net root absent) n hop.parent ])
      ]) (primary_is d)
      ∙ by_hop (λ e. hops_are n e) (hop_up list d)
    where
      by_end : (b : Bool) (e : ℕ) → is_root (primaries net root absent) e ≡ b → (more : List Hop) → more ≡ climb list n e
          → elim b [ true ↦ [] | false ↦ more ] ≡ climb list n e
      by_end true e is more same = sym (climb_root n) ∙ ap (climb list n) (eqb-true root e (sym (root_is e) ∙ is))
      by_end false e is more same = same

      by_hop : ((e : ℕ) → hops (is_root (primaries net root absent)) (primaries net root absent) n e ≡ climb list n e) → (o : Option Hop)
          → elim o [
            | None ↦ []
            | Some
                hop ↦ hop ∷ (elim (is_root (primaries net root absent) hop.parent)
                [ true ↦ [] | false ↦ hops (is_root (primaries net root absent)) (primaries net root absent) n hop.parent ])
          ]
          ≡ map_or o [] (λ hop. hop ∷ climb list n hop.parent)
      by_hop rest None = refl
      by_hop rest (Some hop) =
          ap (λ hops. hop ∷ hops)
          (by_end (is_root (primaries net root absent) hop.parent) hop.parent refl
          (hops (is_root (primaries net root absent)) (primaries net root absent) n hop.parent) (rest hop.parent))

  -- the walk of each device
  pub walk_is : (d : ℕ) → walk_up net root absent d ≡ way_up list d
  unfolding walk_up way_up
  walk_is d = by_root (nat_eq d root) refl
    where
      by_root : (b : Bool) → nat_eq d root ≡ b
          → (if b then [] else hops (is_root (primaries net root absent)) (primaries net root absent) (length list) d) ≡ climb list (length list) d
      by_root true same = sym (climb_root (length list)) ∙ ap (climb list (length list)) (sym (eqb-true d root same))
      by_root false apart = hops_are (length list) d
