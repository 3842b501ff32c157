-- What spreading adds.
use Rattle.std.specs.Prelude.{◌≡◌, ℕ, zero, suc, ◌+◌, ◌-◌, Bool, true, false, ◌&&◌, List, [], ◌∷◌, ◌++◌, length, map, flat_map, nat_eq, Option, Some, None, is_some, option_map, slice_get, take}
use Rattle.std.proofs.Common.{refl, sym, ap, ◌∙◌, subst, arith, inl, inr, append_assoc}
use Rattle.std.proofs.lemmas.Bool.{or_cases, or_left, or_right, both_ways, eqb-true, eq-eqb}
use Rattle.std.proofs.lemmas.List.{append-nil}
use Rattle.std.proofs.lemmas.Option.{same_Some, slice_get-map}
use Rattle.sd_num.specs.Lists.{has, below, map_or}
use Rattle.sd_num.proofs.Places.{below_has, at_has, has_at}
use Rattle.sd_num.proofs.Distinct.{AreDistinct}
use Rattle.sd_plan.specs.topo.Network.{Network, joins, link_numbers}
use Rattle.sd_plan.specs.declared.Hop.{Hop}
use Rattle.sd_plan.specs.declared.Absent.{Absent}
use Rattle.sd_planner.specs.Usable.{is_usable, link_between, are_neighbours}
use Rattle.sd_planner.specs.declared.placement.Placed.{Placed}
use Rattle.sd_planner.specs.Spreading.{below_device, ring, placed_ring, spread}
use Rattle.sd_planner.specs.Grown.{IsBelow, SpreadGrows}
use Rattle.sd_planner.proofs.Lists.{has_flat, found_has, apart_flat, apart_below, apart_places}
use Rattle.sd_planner.proofs.Places.{at_before}
use Rattle.sd_planner.proofs.Walks.{steps}
use Rattle.sd_planner.proofs.Rings.{IsInRing, in_ring, ring_apart}
use Rattle.sd_planner.proofs.Ringwise.{rings, rings_more, rings_devices, next_ring, as_placed, ring_as_placed}

at_after : (xs ys : List Placed) (i : ℕ) (p : Placed) → slice_get ys i ≡ Some p → (j : ℕ) × (slice_get (xs ++ ys) j ≡ Some p)
at_after [] ys i p at = (i, at)
at_after (x ∷ xs) ys i p at = let more : (j : ℕ) × (slice_get (xs ++ ys) j ≡ Some p) = at_after xs ys i p at in (suc more.0, more.1)

at_placed : (f : ℕ → Placed) (ds : List ℕ) (d : ℕ) → has ds d ≡ true → (i : ℕ) × (slice_get (map f ds) i ≡ Some (f d))
at_placed f ds d there =
    let at : (i : ℕ) × (slice_get ds i ≡ Some d) = at_has ds d there in
    (at.0, slice_get-map f ds at.0 ∙ ap (λ (o : Option ℕ). option_map f o) at.1)

module _ (net : Network) (absent : Absent) where
  -- each was placed below one of the earlier ones or of those before it
  abbrev AllUnder : List Placed → List Placed → Type 0
  AllUnder earlier [] = Unit {0}
  AllUnder earlier (p ∷ ps) = IsBelow net absent earlier p × AllUnder (earlier ++ p ∷ []) ps

  under_more : (earlier more : List Placed) (p : Placed) → IsBelow net absent earlier p → IsBelow net absent (earlier ++ more) p
  under_more earlier more p under = record {
    hop = under.hop;
    place = under.place;
    parent = under.parent;
    has_hop = under.has_hop;
    before = at_before earlier more under.place under.parent under.before;
    leads = under.leads;
    deeper = under.deeper;
    lowest = under.lowest;
    usable = under.usable;
    link = under.link;
  }

  under_both : (earlier xs ys : List Placed) → AllUnder earlier xs → AllUnder (earlier ++ xs) ys → AllUnder earlier (xs ++ ys)
  under_both earlier [] ys first second = subst (λ ps. AllUnder ps ys) (append-nil earlier) second
  under_both earlier (x ∷ xs) ys first second =
      (first.0, under_both (earlier ++ x ∷ []) xs ys first.1 (subst (λ ps. AllUnder ps ys) (sym (append_assoc earlier (x ∷ []) xs)) second))

  under_each : (f : ℕ → Placed) (earlier : List Placed) (ds : List ℕ) → ((d : ℕ) → has ds d ≡ true → IsBelow net absent earlier (f d))
      → AllUnder earlier (map f ds)
  under_each f earlier [] each = tt
  under_each f earlier (d ∷ ds) each = (
    each d (or_left (nat_eq d d) (has ds d) (eq-eqb d d refl)),
    under_each f (earlier ++ f d ∷ []) ds (λ e there. under_more earlier (f d ∷ []) (f e) (each e (or_right (nat_eq e d) (has ds e) there))),
  )

  under_at : (earlier list : List Placed) (i : ℕ) (p : Placed) → AllUnder earlier list → slice_get list i ≡ Some p
      → IsBelow net absent (earlier ++ take i list) p
  under_at earlier [] i p under at = cc
  under_at earlier (x ∷ xs) zero p under at = subst (λ q. IsBelow net absent (earlier ++ []) q) (same_Some x p at) (under_more earlier [] x under.0)
  under_at earlier (x ∷ xs) (suc i) p under at =
      subst (λ ps. IsBelow net absent ps p) (append_assoc earlier (x ∷ []) (take i xs)) (under_at (earlier ++ x ∷ []) xs i p under.1 at)

  -- a neighbour of a placed device is placed below it
  under_device : (earlier : List Placed) (place : ℕ) (parent : Placed) (q depth d : ℕ) → slice_get earlier place ≡ Some parent → parent.device ≡ q
      → parent.depth ≡ depth → are_neighbours net absent d q ≡ true
      → IsBelow net absent earlier (below_device net absent q depth d)
  under_device earlier place parent q depth d at here deep near = by (link_between net absent d q) refl near
    where
      by : (o : Option ℕ) → link_between net absent d q ≡ o → is_some (link_between net absent d q) ≡ true
          → IsBelow net absent earlier (below_device net absent q depth d)
      by None none some = absurd (both_ways (is_some (link_between net absent d q)) (ap (λ (o : Option ℕ). is_some o) none) some)
      by (Some l) is some =
          let found : (has (link_numbers net) l ≡ true) × ((is_usable net absent l && joins net l d q) ≡ true) =
          found_has (λ l. is_usable net absent l && joins net l d q) (link_numbers net) l is in
          let hop : Hop = record { parent = q; link = l } in
          record {
            hop = hop;
            place = place;
            parent = parent;
            has_hop = ap (λ (o : Option ℕ). option_map (λ k. let h : Hop = record { parent = q; link = k } in h) o) is;
            before = at;
            leads = here;
            deeper = ap (λ k. k + 1) (sym deep);
            lowest = is;
            usable = found.1;
            link = below_has (length net.links) l found.0;
          }

  module _ (source : ℕ) (through : ℕ → Bool) (depth : ℕ) (earlier : List Placed) (place : ℕ) (placed : Placed) (stands : slice_get earlier place ≡ Some placed)
      (here : placed.device ≡ source) (deep : placed.depth ≡ depth) where
    -- a device of a ring stands among what is placed before the next
    record Stands (n q : ℕ) : Type 0 where
      at : ℕ
      is : Placed
      before : slice_get (earlier ++ rings net absent source through depth (below n)) at ≡ Some is
      device : is.device ≡ q
      depth_is : is.depth ≡ depth + n

    ring_stands : (n q : ℕ) → has (ring net absent source through n) q ≡ true → Stands n q
    ring_stands zero q there =
        elim (or_cases (nat_eq q source) false there) [
          | inl same ↦ record {
            at = place;
            is = placed;
            before = at_before earlier [] place placed stands;
            device = here ∙ sym (eqb-true q source same);
            depth_is = omega (arith, deep);
          }
          | inr none ↦ cc
        ]
    ring_stands (suc n) q there =
        let in_ring_at : (i : ℕ)
        × (slice_get (map (as_placed net absent source through depth n) (ring net absent source through (suc n))) i
        ≡ Some (as_placed net absent source through depth n q)) =
        at_placed (as_placed net absent source through depth n) (ring net absent source through (suc n)) q there in
        let in_ring_is : slice_get (placed_ring net absent source through depth n) in_ring_at.0 ≡ Some (as_placed net absent source through depth n q) =
        ap (λ ps. slice_get ps in_ring_at.0) (ring_as_placed net absent source through depth n) ∙ in_ring_at.1 in
        let in_rings : (j : ℕ)
        × (slice_get (rings net absent source through depth (below n) ++ placed_ring net absent source through depth n) j
        ≡ Some (as_placed net absent source through depth n q)) =
        at_after (rings net absent source through depth (below n)) (placed_ring net absent source through depth n) in_ring_at.0
        (as_placed net absent source through depth n q) in_ring_is in
        let in_more : slice_get (rings net absent source through depth (below (suc n))) in_rings.0 ≡ Some (as_placed net absent source through depth n q) =
        ap (λ ps. slice_get ps in_rings.0) (rings_more net absent source through depth n) ∙ in_rings.1 in
        let in_all : (j : ℕ)
        × (slice_get (earlier ++ rings net absent source through depth (below (suc n))) j ≡ Some (as_placed net absent source through depth n q)) =
        at_after earlier (rings net absent source through depth (below (suc n))) in_rings.0 (as_placed net absent source through depth n q) in_more in
        record { at = in_all.0; is = as_placed net absent source through depth n q; before = in_all.1; device = refl; depth_is = deeper n }
      where
        deeper : (n : ℕ) → (depth + n) + 1 ≡ depth + suc n
        deeper n = omega arith

    ring_under : (n : ℕ) → AllUnder (earlier ++ rings net absent source through depth (below n)) (placed_ring net absent source through depth n)
    ring_under n =
        subst (λ ps. AllUnder (earlier ++ rings net absent source through depth (below n)) ps) (sym (ring_as_placed net absent source through depth n))
        (under_each (as_placed net absent source through depth n) (earlier ++ rings net absent source through depth (below n))
        (ring net absent source through (suc n)) (λ d there.
        let in_it : IsInRing net absent source through n d = in_ring net absent source through n d there in
        let stood : Stands n in_it.parent = ring_stands n in_it.parent in_it.has_parent in
        let near : are_neighbours net absent d in_it.parent ≡ true =
        (found_has (are_neighbours net absent d) (ring net absent source through n) in_it.parent in_it.found).1 in
        subst (λ (o : Option ℕ). IsBelow net absent (earlier ++ rings net absent source through depth (below n))
        (below_device net absent (map_or o source (λ e. e)) (depth + n) d)) (sym in_it.found)
        (under_device (earlier ++ rings net absent source through depth (below n)) stood.at stood.is in_it.parent
        (depth + n) d stood.before stood.device stood.depth_is near)))

    rings_under : (n : ℕ) → AllUnder earlier (rings net absent source through depth (below n))
    rings_under zero = tt
    rings_under (suc n) =
        subst (λ ps. AllUnder earlier ps) (sym (rings_more net absent source through depth n))
        (under_both earlier (rings net absent source through depth (below n)) (placed_ring net absent source through depth n) (rings_under n) (ring_under n))

    device_at : (i : ℕ) (p : Placed) → slice_get (spread net absent source through depth) i ≡ Some p
        → slice_get (flat_map (next_ring net absent source through depth) (below (length net.devices))) i ≡ Some p.device
    device_at i p at =
        ap (λ ds. slice_get ds i) (sym (rings_devices net absent source through depth (below (length net.devices))))
        ∙ slice_get-map (λ p. p.device) (spread net absent source through depth) i ∙ ap (λ (o : Option Placed). option_map (λ p. p.device) o) at

    all_apart : AreDistinct (flat_map (next_ring net absent source through depth) (below (length net.devices)))
    all_apart =
        apart_flat (next_ring net absent source through depth) (λ x. option_map (λ k. k - 1) (steps net absent through source x)) (below (length net.devices))
        (apart_below (length net.devices))
        (λ n there. ring_apart net absent source through (suc n))
        (λ n x at there. ap (λ (o : Option ℕ). option_map (λ k. k - 1) o) (in_ring net absent source through n x there).steps_to
        ∙ ap (λ (k : ℕ). Some k) (back n))
      where
        back : (n : ℕ) → suc n - 1 ≡ n
        back n = omega arith

    grows : SpreadGrows net absent through earlier (spread net absent source through depth)
    grows = record {
      members = λ i p at.
          let found : (n : ℕ) × (has (below (length net.devices)) n ≡ true) × (has (ring net absent source through (suc n)) p.device ≡ true) =
          has_flat (next_ring net absent source through depth) (below (length net.devices)) p.device
          (has_at (flat_map (next_ring net absent source through depth) (below (length net.devices))) i p.device (device_at i p at)) in
          let in_it : IsInRing net absent source through found.0 p.device = in_ring net absent source through found.0 p.device found.2 in
          (in_it.within, in_it.passes);
      distinct = λ i j p q less first second same.
          apart_places (flat_map (next_ring net absent source through depth) (below (length net.devices))) i j p.device q.device all_apart less
          (device_at i p first) (device_at j q second) same;
      parents = λ i p at. under_at earlier (spread net absent source through depth) i p (rings_under (length net.devices)) at;
    }

-- it adds just devices that may be passed, none twice, each below one that was placed before it over the lowest usable link
pub spread_grows : (net : Network) (absent : Absent) (source : ℕ) (through : ℕ → Bool) (depth : ℕ) (earlier : List Placed) (place : ℕ) (placed : Placed)
    → slice_get earlier place ≡ Some placed → placed.device ≡ source → placed.depth ≡ depth
    → SpreadGrows net absent through earlier (spread net absent source through depth)
spread_grows net absent source through depth earlier place placed stands here deep = grows net absent source through depth earlier place placed stands here deep
