-- The queue is worked off ring after ring.
use Rattle.std.specs.Prelude.{◌≡◌, ℕ, ◌<◌, Bool, true, false, ◌&&◌, ◌||◌, not, List, [], ◌∷◌, ◌++◌, length, map, find, filter, flat_map, Some, slice_index_or}
use Rattle.std.proofs.Common.{refl, sym, ap, ◌∙◌, subst, cond, append_assoc}
use Rattle.std.proofs.lemmas.Bool.{both_ways, false_from_ne_true, eq-eqb, ne_eqb}
use Rattle.std.proofs.lemmas.List.{append-nil}
use Rattle.sd_num.specs.Lists.{has, same_number}
use Rattle.sd_num.proofs.Places.{below_has}
use Rattle.sd_num.proofs.Shared.{same_number-some}
use Rattle.sd_num.proofs.Distinct.{AreDistinct}
use Rattle.sd_plan.specs.topo.Network.{Network, device_numbers}
use Rattle.sd_plan.specs.declared.Absent.{Absent}
use Rattle.sd_planner.specs.Usable.{are_neighbours, neighbours_of}
use Rattle.sd_planner.specs.declared.placement.Placed.{Placed}
use Rattle.sd_planner.specs.Spreading.{is_placed, below_device}
use Rattle.sd_planner.specs.Sweeps.{is_new, children, Sweeps, turn}
use Rattle.sd_planner.proofs.Lists.{has-filter_below, filter_same, flat_same, found_has}
use Rattle.sd_planner.proofs.Turning.{placed-devices, placed-append, new_among, placed_below}

module _ (may_pass : List Bool) (net : Network) (absent : Absent) where
  -- what some placed devices place in turn
  abbrev pub all_children : List Placed → List Placed → List Placed
  all_children order [] = []
  all_children order (p ∷ ps) =
      let new = children may_pass p.device p.depth order (neighbours_of net absent p.device) in
      new ++ all_children (order ++ new) ps

  -- where these wait first they are worked off first
  pub sweep_all : (ps waiting order final : List Placed)
      → Sweeps may_pass (neighbours_of net absent) (waiting ++ all_children order ps) (order ++ all_children order ps) final
      → Sweeps may_pass (neighbours_of net absent) (ps ++ waiting) order final
  sweep_all [] waiting order final after =
      subst (λ xs. Sweeps may_pass (neighbours_of net absent) waiting xs final) (append-nil order)
      (subst (λ xs. Sweeps may_pass (neighbours_of net absent) xs (order ++ []) final) (append-nil waiting) after)
  sweep_all (p ∷ ps) waiting order final after =
      let new : List Placed = children may_pass p.device p.depth order (neighbours_of net absent p.device) in
      let more : List Placed = all_children (order ++ new) ps in
      let rest : Sweeps may_pass (neighbours_of net absent) (ps ++ (waiting ++ new)) (order ++ new) final =
      sweep_all ps (waiting ++ new) (order ++ new) final
      (subst (λ xs. Sweeps may_pass (neighbours_of net absent) xs ((order ++ new) ++ more) final) (sym (append_assoc waiting new more))
      (subst (λ xs. Sweeps may_pass (neighbours_of net absent) (waiting ++ (new ++ more)) xs final) (sym (append_assoc order new more)) after)) in
      turn (subst (λ xs. Sweeps may_pass (neighbours_of net absent) xs (order ++ new) final) (sym (append_assoc ps waiting new)) rest)

  -- Devices of one depth

  -- those that are new and have this first neighbour among them
  abbrev pub is_child : List Placed → List ℕ → ℕ → ℕ → Bool
  is_child order ds parent y = is_new may_pass order y && same_number (find (are_neighbours net absent y) ds) parent

  abbrev pub children_of : List Placed → List ℕ → ℕ → ℕ → List Placed
  children_of order ds depth parent = map (below_device net absent parent depth) (filter (is_child order ds parent) (device_numbers net))

  -- a first device has all its new neighbours below it
  first_child : (order : List Placed) (d : ℕ) (ds : List ℕ) (y : ℕ) → has ds d ≡ false
      → (is_new may_pass order y && are_neighbours net absent y d) ≡ is_child order (d ∷ ds) d y
  first_child order d ds y out = ap (λ b. is_new may_pass order y && b) (by (are_neighbours net absent y d))
    where
      none : same_number (find (are_neighbours net absent y) ds) d ≡ false
      none = false_from_ne_true (same_number (find (are_neighbours net absent y) ds) d)
          (λ same. both_ways (has ds d) out (found_has (are_neighbours net absent y) ds d (same_number-some (find (are_neighbours net absent y) ds) d same)).0)

      by : (b : Bool) → b ≡ same_number (cond b (Some d) (find (are_neighbours net absent y) ds)) d
      by true = sym (eq-eqb d d refl)
      by false = sym none

  -- the others have those that are still new then
  later_child : (order : List Placed) (d depth : ℕ) (ds : List ℕ) (q y : ℕ) → y < length net.devices → (q ≡ d → ⊥)
      → is_child (order ++ map (below_device net absent d depth) (new_among net absent may_pass d depth order (device_numbers net))) ds q y
      ≡ is_child order (d ∷ ds) q y
  later_child order d depth ds q y within other =
      ap (λ (b : Bool). (slice_index_or may_pass y false && not b) && same_number (find (are_neighbours net absent y) ds) q) placed
      ∙ table (slice_index_or may_pass y false) (is_placed order y) (are_neighbours net absent y d) (same_number (find (are_neighbours net absent y) ds) q)
      (same_number (cond (are_neighbours net absent y d) (Some d) (find (are_neighbours net absent y) ds)) q) (by (are_neighbours net absent y d))
    where
      new : List ℕ
      new = new_among net absent may_pass d depth order (device_numbers net)

      devices : (ys : List ℕ) → map (λ p. p.device) (map (below_device net absent d depth) ys) ≡ ys
      devices [] = refl
      devices (z ∷ zs) = ap (λ xs. z ∷ xs) (devices zs)

      placed : is_placed (order ++ map (below_device net absent d depth) new) y
          ≡ (is_placed order y || (is_new may_pass order y && are_neighbours net absent y d))
      placed =
          placed-append order (map (below_device net absent d depth) new) y
          ∙ ap (λ b. is_placed order y || b)
          (placed-devices (map (below_device net absent d depth) new) y ∙ ap (λ xs. has xs y) (devices new)
          ∙ has-filter_below (λ z. is_new may_pass order z && are_neighbours net absent z d) (length net.devices) y within)

      by : (b : Bool)
          → same_number (cond b (Some d) (find (are_neighbours net absent y) ds)) q ≡ cond b false (same_number (find (are_neighbours net absent y) ds) q)
      by true = ne_eqb d q (λ same. other (sym same))
      by false = refl

      table : (a b n s t : Bool) → t ≡ cond n false s → ((a && not (b || ((a && not b) && n))) && s) ≡ ((a && not b) && t)
      table true true n s t is = refl
      table true false true s t is = sym is
      table true false false s t is = sym is
      table false b n s t is = refl

  -- all that they place
  pub placed_by : (f : ℕ → Placed) (depth : ℕ) → ((d : ℕ) → (f d).device ≡ d) → ((d : ℕ) → (f d).depth ≡ depth)
      → (ds : List ℕ) → AreDistinct ds → (order : List Placed) → all_children order (map f ds) ≡ flat_map (children_of order ds depth) ds
  placed_by f depth device deep [] apart order = refl
  placed_by f depth device deep (d ∷ ds) apart order =
      let new : List Placed = map (below_device net absent d depth) (new_among net absent may_pass d depth order (device_numbers net)) in
      let is : children may_pass (f d).device (f d).depth order (neighbours_of net absent (f d).device) ≡ new =
      ap (λ (e : ℕ). children may_pass e (f d).depth order (neighbours_of net absent e)) (device d)
      ∙ ap (λ (k : ℕ). children may_pass d k order (neighbours_of net absent d)) (deep d)
      ∙ placed_below net absent may_pass d depth order in
      let first : new ≡ children_of order (d ∷ ds) depth d =
      ap (λ ys. map (below_device net absent d depth) ys)
      (filter_same (λ y. is_new may_pass order y && are_neighbours net absent y d) (is_child order (d ∷ ds) d) (device_numbers net)
      (λ y there. first_child order d ds y apart.0)) in
      let others : flat_map (children_of (order ++ new) ds depth) ds ≡ flat_map (children_of order (d ∷ ds) depth) ds =
      flat_same (children_of (order ++ new) ds depth) (children_of order (d ∷ ds) depth) ds (λ q there.
      ap (λ ys. map (below_device net absent q depth) ys)
      (filter_same (is_child (order ++ new) ds q) (is_child order (d ∷ ds) q) (device_numbers net) (λ y at.
      later_child order d depth ds q y (below_has (length net.devices) y at)
      (λ same. both_ways (has ds d) apart.0 (subst (λ w. has ds w ≡ true) same there))))) in
      ap (λ ps. ps ++ all_children (order ++ ps) (map f ds)) is
      ∙ ap (λ ps. new ++ ps) (placed_by f depth device deep ds apart.1 (order ++ new) ∙ others)
      ∙ ap (λ ps. ps ++ flat_map (children_of order (d ∷ ds) depth) ds) first
