-- What walks up a tree lead over is in range.
use Rattle.std.proofs.Common.{◌≡◌, ℕ, zero, suc, ◌<◌, true, List, [], ◌∷◌, length, nat_eq, Option, Some, None, refl, sym, subst, inl, inr}
use Rattle.std.specs.Prelude.{option_and_then}
use Rattle.std.proofs.lemmas.Bool.{or_cases, eqb-true}
use Rattle.sd_num.specs.Lists.{has, map_or}
use Rattle.sd_plan.specs.topo.Network.{Network}
use Rattle.sd_plan.specs.declared.Absent.{Absent}
use Rattle.sd_plan.specs.declared.Hop.{Hop}
use Rattle.sd_plan.specs.Walks.{links_of}
use Rattle.sd_planner.specs.declared.placement.Placed.{Placed}
use Rattle.sd_planner.specs.Spreading.{placed_at}
use Rattle.sd_planner.specs.Trees.{Grows}
use Rattle.sd_planner.specs.Climbs.{hop_up, climb, way_up}
use Rattle.sd_planner.specs.Things.{parents_of}
use Rattle.sd_planner.proofs.Growing.{found_own}
use Rattle.sd_planner.proofs.Trees.{stands, Stands}
use Rattle.sd_planner.proofs.Adding.{goes_up, GoesUp}

module _ (net : Network) (root : ℕ) (absent : Absent) (list : List Placed) (tree : Grows net root absent list) where
  pub hop_within : (d : ℕ) (hop : Hop) → hop_up list d ≡ Some hop → (hop.parent < length net.devices) × (hop.link < length net.links)
  hop_within d hop up = by_found (placed_at list d) refl up
    where
      by_found : (o : Option Placed) → placed_at list d ≡ o → option_and_then (λ p. p.hop) o ≡ Some hop
          → (hop.parent < length net.devices) × (hop.link < length net.links)
      by_found None is none = cc
      by_found (Some p) is has_hop =
          let s : Stands list d p = stands list d p is in
          let g : GoesUp net list p hop = goes_up net root absent list p hop tree (found_own net root absent list tree s.place p s.at) has_hop in
          (g.within, g.link)

  pub record AreWithin (hops : List Hop) : Type 0 where
    pub parents : (x : ℕ) → has (parents_of hops) x ≡ true → x < length net.devices
    pub over : (x : ℕ) → has (links_of hops) x ≡ true → x < length net.links

  climb_within : (n d : ℕ) → AreWithin (climb list n d)
  unfolding climb
  climb_within zero d = record { parents = λ x there. cc; over = λ x there. cc }
  climb_within (suc n) d = by_hop (λ e. climb_within n e) (hop_up list d) refl
    where
      by_hop : ((e : ℕ) → AreWithin (climb list n e)) → (o : Option Hop) → hop_up list d ≡ o → AreWithin (map_or o [] (λ hop. hop ∷ climb list n hop.parent))
      by_hop rest None is = record { parents = λ x there. cc; over = λ x there. cc }
      by_hop rest (Some hop) is =
          let inside = hop_within d hop is in
          let more = rest hop.parent in
          record {
            parents = λ x there. elim (or_cases (nat_eq x hop.parent) (has (parents_of (climb list n hop.parent)) x) there) [
              | inl here ↦ subst (λ y. y < length net.devices) (sym (eqb-true x hop.parent here)) inside.0
              | inr later ↦ more.parents x later
            ];
            over = λ x there. elim (or_cases (nat_eq x hop.link) (has (links_of (climb list n hop.parent)) x) there) [
              | inl here ↦ subst (λ y. y < length net.links) (sym (eqb-true x hop.link here)) inside.1
              | inr later ↦ more.over x later
            ];
          }

  pub way_within : (d : ℕ) → AreWithin (way_up list d)
  unfolding way_up
  way_within d = climb_within (length list) d
