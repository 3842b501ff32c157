-- Walks up a tree of placed devices.
use Rattle.std.proofs.Common.{◌≡◌, ℕ, zero, suc, ◌+◌, ◌<◌, ◌≤◌, Bool, true, false, ◌||◌, List, [], ◌∷◌, length, take, cond, nat_eq, Some, None, slice_get, refl, sym, ap, ◌∙◌, subst, arith}
use Rattle.std.specs.Prelude.{option_and_then}
use Rattle.std.specs.List.{list_any}
use Rattle.std.proofs.lemmas.Bool.{eqb-true}
use Rattle.std.proofs.lemmas.Option.{same_Some, slice_get_within}
use Rattle.sd_num.specs.Lists.{map_or}
use Rattle.sd_plan.specs.topo.Network.{Network}
use Rattle.sd_plan.specs.declared.Absent.{Absent}
use Rattle.sd_plan.specs.declared.Hop.{Hop}
use Rattle.sd_plan.specs.Walks.{devices_of, links_of}
use Rattle.sd_planner.specs.declared.placement.Placed.{Placed}
use Rattle.sd_planner.specs.Spreading.{placed_at}
use Rattle.sd_planner.specs.Grown.{IsBelow}
use Rattle.sd_planner.specs.Trees.{Grows}
use Rattle.sd_planner.proofs.Growing.{at_taken, found_own}
use Rattle.sd_planner.specs.Climbs.{hop_up, climb, way_up, leads_over}

-- what is found stands somewhere
pub record Stands (list : List Placed) (d : ℕ) (p : Placed) : Type 0 where
  pub place : ℕ
  pub at : slice_get list place ≡ Some p
  pub is : p.device ≡ d

pub stands : (list : List Placed) (d : ℕ) (p : Placed) → placed_at list d ≡ Some p → Stands list d p
stands [] d p found = cc
stands (q ∷ list) d p found = by_test (λ later. stands list d p later) (nat_eq q.device d) refl found
  where
    by_test : (placed_at list d ≡ Some p → Stands list d p) → (t : Bool) → nat_eq q.device d ≡ t → cond t (Some q) (placed_at list d) ≡ Some p
        → Stands (q ∷ list) d p
    by_test more true same found = record { place = 0; at = found; is = subst (λ x. x.device ≡ d) (same_Some q p found) (eqb-true q.device d same) }
    by_test more false other found = let rest = more found in record { place = suc rest.place; at = rest.at; is = rest.is }

module _ (net : Network) (root : ℕ) (absent : Absent) (list : List Placed) (tree : Grows net root absent list) where
  -- the hop of a device at a place
  hop_at : (i : ℕ) (p : Placed) → slice_get list i ≡ Some p → hop_up list p.device ≡ p.hop
  hop_at i p at = ap (λ o. option_and_then (λ q. q.hop) o) (found_own net root absent list tree i p at)

  -- a device but the first has a hop, and its parent stands before it
  pub record IsBehind (i : ℕ) (p : Placed) : Type 0 where
    pub hop : Hop
    pub has_hop : p.hop ≡ Some hop
    pub up : hop_up list p.device ≡ Some hop
    pub place : ℕ
    pub parent : Placed
    pub earlier : place < i
    pub at : slice_get list place ≡ Some parent
    pub leads : parent.device ≡ hop.parent
    pub deeper : p.depth ≡ parent.depth + 1
    pub link : hop.link < length net.links
    pub within : hop.parent < length net.devices

  pub behind : (i : ℕ) (p : Placed) → 1 ≤ i → slice_get list i ≡ Some p → IsBehind i p
  behind zero p some at = absurd (omega arith)
  behind (suc i) p some at =
      let up : IsBelow net absent (take (i + 1) list) p = tree.parents i p (subst (λ n. slice_get list n ≡ Some p) (omega arith) at) in
      let parts = at_taken (i + 1) list up.place up.parent up.before in
      record {
        hop = up.hop;
        has_hop = up.has_hop;
        up = hop_at (suc i) p at ∙ up.has_hop;
        place = up.place;
        parent = up.parent;
        earlier = omega (arith, parts.0);
        at = parts.1;
        leads = up.leads;
        deeper = up.deeper;
        link = up.link;
        within = subst (λ d. d < length net.devices) up.leads (tree.members up.place up.parent parts.1).0;
      }

  -- the first has none
  pub no_hop : (p : Placed) → slice_get list 0 ≡ Some p → hop_up list p.device ≡ None
  no_hop p at = hop_at 0 p at ∙ ap (λ q. q.hop) (tree.first p at)

  climb_none : (n d : ℕ) → hop_up list d ≡ None → climb list n d ≡ []
  unfolding climb
  climb_none zero d none = refl
  climb_none (suc n) d none = ap (λ o. map_or o [] (λ hop. hop ∷ climb list n hop.parent)) none

  climb_some : (n d : ℕ) (hop : Hop) → hop_up list d ≡ Some hop → climb list (suc n) d ≡ hop ∷ climb list n hop.parent
  unfolding climb
  climb_some n d hop some = ap (λ o. map_or o [] (λ h. h ∷ climb list n h.parent)) some

  -- as many hops as a device's place are enough
  climb_enough : (bound i n m : ℕ) (p : Placed) → i ≤ bound → slice_get list i ≡ Some p → i ≤ n → i ≤ m → climb list n p.device ≡ climb list m p.device
  climb_enough bound zero n m p less at first second = climb_none n p.device (no_hop p at) ∙ sym (climb_none m p.device (no_hop p at))
  climb_enough bound (suc i) zero m p less at first second = absurd (omega arith)
  climb_enough bound (suc i) (suc n) zero p less at first second = absurd (omega arith)
  climb_enough zero (suc i) (suc n) (suc m) p less at first second = absurd (omega arith)
  climb_enough (suc bound) (suc i) (suc n) (suc m) p less at first second =
      let b = behind (suc i) p (omega arith) at in
      climb_some n p.device b.hop b.up
      ∙ ap (λ hops. b.hop ∷ hops)
      (ap (climb list n) (sym b.leads)
      ∙ climb_enough bound b.place n m b.parent (omega (arith, b.earlier)) b.at (omega (arith, b.earlier)) (omega (arith, b.earlier))
      ∙ ap (climb list m) b.leads)
      ∙ sym (climb_some m p.device b.hop b.up)

  -- the walk of the first is empty
  pub way_none : (d : ℕ) → hop_up list d ≡ None → way_up list d ≡ []
  unfolding way_up
  way_none d none = climb_none (length list) d none

  -- another walk begins with its hop, and goes on as that of the parent
  pub way_step : (i : ℕ) (p : Placed) (at : slice_get list i ≡ Some p) (b : IsBehind i p) → way_up list p.device ≡ b.hop ∷ way_up list b.hop.parent
  unfolding way_up
  way_step i p at b = by_length (length list) refl
    where
      by_length : (n : ℕ) → length list ≡ n → climb list n p.device ≡ b.hop ∷ climb list n b.hop.parent
      by_length zero size = absurd (let inside = slice_get_within list i p at in omega arith)
      by_length (suc n) size =
          let inside : i < length list = slice_get_within list i p at in
          climb_some n p.device b.hop b.up
          ∙ ap (λ hops. b.hop ∷ hops)
          (ap (climb list n) (sym b.leads)
          ∙ climb_enough b.place b.place n (suc n) b.parent (omega arith) b.at (omega (arith, b.earlier, inside)) (omega (arith, b.earlier, inside))
          ∙ ap (climb list (suc n)) b.leads)

  module _ (device link : ℕ → Bool) where
    grouped : (a b c d : Bool) → ((a || b) || (c || d)) ≡ ((a || c) || (b || d))
    grouped true b c d = refl
    grouped false true true d = refl
    grouped false true false d = refl
    grouped false false c d = refl

    -- a walk leads over what its hop and the rest lead over
    pub over_step : (i : ℕ) (p : Placed) (at : slice_get list i ≡ Some p) (b : IsBehind i p)
        → leads_over device link list p.device ≡ ((device p.device || link b.hop.link) || leads_over device link list b.hop.parent)
    over_step i p at b =
        ap (λ hops. list_any device (devices_of p.device hops) || list_any link (links_of hops)) (way_step i p at b)
        ∙ grouped (device p.device) (list_any device (devices_of b.hop.parent (way_up list b.hop.parent))) (link b.hop.link)
        (list_any link (links_of (way_up list b.hop.parent)))

    pub over_first : (p : Placed) → slice_get list 0 ≡ Some p → leads_over device link list p.device ≡ device p.device
    over_first p at =
        ap (λ hops. list_any device (devices_of p.device hops) || list_any link (links_of hops)) (way_none p.device (no_hop p at))
        ∙ plain (device p.device)
      where
        plain : (t : Bool) → ((t || false) || false) ≡ t
        plain true = refl
        plain false = refl
