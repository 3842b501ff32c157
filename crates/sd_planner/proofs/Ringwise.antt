-- Ring after ring what is placed is what spreading is to place.
use Rattle.std.specs.Prelude.{◌≡◌, ℕ, zero, suc, ◌+◌, ◌-◌, ◌<◌, ◌≤◌, Bool, true, false, ◌&&◌, ◌||◌, not, List, [], ◌∷◌, ◌++◌, length, map, find, flat_map, nat_eq, Option, Some, None, slice_index_or, drop}
use Rattle.std.proofs.Common.{refl, sym, ap, ◌∙◌, subst, arith, inl, inr, append_assoc}
use Rattle.std.proofs.lemmas.Bool.{and_right, or_left, or_right, or_cases, cases_lt, both_ways, false_from_ne_true, eqb-true, eq-eqb, not_from_false, not_from_true}
use Rattle.std.proofs.lemmas.List.{append-nil, drop_at, map-append}
use Rattle.std.proofs.lemmas.List.Concat.{flat_map-append}
use Rattle.std.proofs.lemmas.Option.{same_Some}
use Rattle.sd_num.specs.Lists.{has, below, map_or, same_number}
use Rattle.sd_num.proofs.Places.{below_has, has_below}
use Rattle.sd_num.proofs.Shared.{same_number-some, some-same_number}
use Rattle.sd_plan.specs.topo.Network.{Network, device_numbers}
use Rattle.sd_plan.specs.declared.Absent.{Absent}
use Rattle.sd_planner.specs.Usable.{are_neighbours, neighbours_of}
use Rattle.sd_planner.specs.declared.placement.Placed.{Placed}
use Rattle.sd_planner.specs.Spreading.{is_placed, below_device, ring, placed_ring, spread}
use Rattle.sd_planner.specs.Sweeps.{is_new, children, Sweeps, done}
use Rattle.sd_planner.proofs.Lists.{has_flat, flat_has, filter_same, flat_same, found_has}
use Rattle.sd_planner.proofs.Walks.{linked, linked_swap, steps, steps_reach, steps_some, no_steps, last_link, joined}
use Rattle.sd_planner.proofs.Rings.{is_of, part_of, in_ring, in_part, ring_has, ring_apart, no_ring}
use Rattle.sd_planner.proofs.Turning.{placed-devices, placed-append}
use Rattle.sd_planner.proofs.Sweeping.{all_children, sweep_all, is_child, children_of, placed_by}

pub map_same : (f g : ℕ → Placed) (xs : List ℕ) → ((x : ℕ) → has xs x ≡ true → f x ≡ g x) → map f xs ≡ map g xs
map_same f g [] same = refl
map_same f g (y ∷ ys) same =
    ap (λ (p : Placed). p ∷ map f ys) (same y (or_left (nat_eq y y) (has ys y) (eq-eqb y y refl)))
    ∙ ap (λ ps. g y ∷ ps) (map_same f g ys (λ x there. same x (or_right (nat_eq x y) (has ys x) there)))

map_flat : (f : ℕ → Placed) (g : ℕ → List ℕ) (xs : List ℕ) → map f (flat_map g xs) ≡ flat_map (λ x. map f (g x)) xs
map_flat f g [] = refl
map_flat f g (x ∷ xs) = map-append f (g x) (flat_map g xs) ∙ ap (λ ps. map f (g x) ++ ps) (map_flat f g xs)

-- the devices of what is placed
pub devices_of : (f : ℕ → Placed) → ((d : ℕ) → (f d).device ≡ d) → (ds : List ℕ) → map (λ p. p.device) (map f ds) ≡ ds
devices_of f device [] = refl
devices_of f device (d ∷ ds) = ap (λ e. e ∷ map (λ p. p.device) (map f ds)) (device d) ∙ ap (λ es. d ∷ es) (devices_of f device ds)

module _ (net : Network) (absent : Absent) (source : ℕ) (through : ℕ → Bool) (depth : ℕ) where
  abbrev pub rings : List ℕ → List Placed
  rings ns = flat_map (placed_ring net absent source through depth) ns

  -- a device of the ring after the n-th, as it is placed
  abbrev pub as_placed : ℕ → ℕ → Placed
  as_placed n d = below_device net absent (map_or (find (are_neighbours net absent d) (ring net absent source through n)) source (λ e. e)) (depth + n) d

  pub ring_as_placed : (n : ℕ) → placed_ring net absent source through depth n ≡ map (as_placed n) (ring net absent source through (suc n))
  ring_as_placed n = ap (λ m. map (as_placed n) (ring net absent source through m)) (one_more n)
    where
      one_more : (n : ℕ) → n + 1 ≡ suc n
      one_more n = omega arith

  pub ring_devices : (n : ℕ) → map (λ p. p.device) (placed_ring net absent source through depth n) ≡ ring net absent source through (suc n)
  ring_devices n = ap (λ ps. map (λ p. p.device) ps) (ring_as_placed n) ∙ devices_of (as_placed n) (λ d. refl) (ring net absent source through (suc n))

  abbrev pub next_ring : ℕ → List ℕ
  next_ring n = ring net absent source through (suc n)

  pub rings_devices : (ns : List ℕ) → map (λ p. p.device) (rings ns) ≡ flat_map next_ring ns
  rings_devices [] = refl
  rings_devices (n ∷ ns) =
      map-append (λ p. p.device) (placed_ring net absent source through depth n) (rings ns)
      ∙ ap (λ ds. ds ++ map (λ p. p.device) (rings ns)) (ring_devices n) ∙ ap (λ ds. next_ring n ++ ds) (rings_devices ns)

  -- one ring more
  pub rings_more : (n : ℕ) → rings (below (suc n)) ≡ rings (below n) ++ placed_ring net absent source through depth n
  rings_more n =
      flat_map-append (placed_ring net absent source through depth) (below n) (n ∷ [])
      ∙ ap (λ ps. rings (below n) ++ ps) (append-nil (placed_ring net absent source through depth n))

  -- what stands in a ring is reached in this many steps
  ring_reach : (n e : ℕ) → has (ring net absent source through n) e ≡ true → joined net absent through n source e ≡ true
  ring_reach zero e there = elim (or_cases (nat_eq e source) false there) [ inl same ↦ eq-eqb source e (sym (eqb-true e source same)) | inr none ↦ cc ]
  ring_reach (suc n) e there = steps_reach net absent through source e (suc n) (in_ring net absent source through n e there).steps_to

  module _ (may_pass : List Bool) (old : List Placed) (inside : source < length net.devices) (other : through source ≡ false)
      (flags : (d : ℕ) → d < length net.devices → slice_index_or may_pass d false ≡ through d) (fresh : (d : ℕ) → slice_index_or may_pass d false ≡ true
      → is_placed old d ≡ false) where
    -- a neighbour of the n-th ring is new just if it is one step further away
    is_next : (n e y : ℕ) → suc n ≤ length net.devices → y < length net.devices → through y ≡ true → has (ring net absent source through n) e ≡ true
        → are_neighbours net absent y e ≡ true
        → not (has (flat_map next_ring (below n)) y) ≡ same_number (steps net absent through source y) (suc n)
    is_next n e y room within passes there near = by (same_number (steps net absent through source y) (suc n)) refl
      where
        by : (b : Bool) → same_number (steps net absent through source y) (suc n) ≡ b → not (has (flat_map next_ring (below n)) y) ≡ b
        by true same =
            not_from_false (has (flat_map next_ring (below n)) y) (false_from_ne_true (has (flat_map next_ring (below n)) y) (λ placed.
            let at : (m : ℕ) × (has (below n) m ≡ true) × (has (next_ring m) y ≡ true) = has_flat next_ring (below n) y placed in
            let less : at.0 < n = below_has n at.0 at.1 in
            let equal : suc at.0 ≡ suc n =
            same_Some (suc at.0) (suc n) (sym (in_ring net absent source through at.0 y at.2).steps_to
            ∙ same_number-some (steps net absent through source y) (suc n) same) in
            omega arith))
        by false apart =
            let reached : joined net absent through (suc n) source y ≡ true =
            last_link net absent through n source e y (ring_reach n e there) within passes
            (linked_swap net absent y e (sym (linked net absent y e) ∙ near)) in
            let found : (j : ℕ) × (j ≤ suc n) × (steps net absent through source y ≡ Some j) = steps_some net absent through source y (suc n) room reached in
            not_from_true (has (flat_map next_ring (below n)) y) (placed found.0 found.1 found.2)
          where
            placed : (j : ℕ) → j ≤ suc n → steps net absent through source y ≡ Some j → has (flat_map next_ring (below n)) y ≡ true
            placed zero less is = absurd (both_ways (through source) other (ap through (no_steps net absent through source y is) ∙ passes))
            placed (suc m) less is =
                elim (cases_lt m n) [
                  | inl before ↦ flat_has next_ring (below n) m y (has_below n m before) (ring_has net absent source through m y within passes is)
                  | inr last ↦ (let equal : m ≡ n = omega arith in
                      absurd (both_ways (same_number (steps net absent through source y) (suc n)) apart
                      (some-same_number (steps net absent through source y) (suc n) (is ∙ ap (λ (k : ℕ). Some (suc k)) equal))))
                ]

    -- so it is placed below its primary parent
    ring_child : (n q y : ℕ) → suc n ≤ length net.devices → y < length net.devices
        → is_child may_pass net absent (old ++ rings (below n)) (ring net absent source through n) q y ≡ is_of net absent source through n q y
    ring_child n q y room within = by (find (are_neighbours net absent y) (ring net absent source through n)) refl
      where
        near : List ℕ
        near = ring net absent source through n

        same : Bool
        same = same_number (steps net absent through source y) (suc n)

        placed : is_placed (old ++ rings (below n)) y ≡ (is_placed old y || has (flat_map next_ring (below n)) y)
        placed = placed-append old (rings (below n)) y
            ∙ ap (λ b. is_placed old y || b) (placed-devices (rings (below n)) y ∙ ap (λ ds. has ds y) (rings_devices (below n)))

        by_through : (b : Bool) → through y ≡ b → (through y ≡ true → not (has (flat_map next_ring (below n)) y) ≡ same)
            → (b && not (is_placed old y || has (flat_map next_ring (below n)) y)) ≡ (b && same)
        by_through false out next = refl
        by_through true passes next =
            ap (λ b. not (b || has (flat_map next_ring (below n)) y)) (fresh y (flags y within ∙ passes)) ∙ next passes

        by : (o : Option ℕ) → find (are_neighbours net absent y) near ≡ o
            → (is_new may_pass (old ++ rings (below n)) y && same_number (find (are_neighbours net absent y) near) q)
            ≡ (through y && same && same_number (find (are_neighbours net absent y) near) q)
        by None none =
            and_right (is_new may_pass (old ++ rings (below n)) y) (same_number (find (are_neighbours net absent y) near) q) (ap (λ o. same_number o q) none)
            ∙ sym (and_right (through y && same) (same_number (find (are_neighbours net absent y) near) q) (ap (λ o. same_number o q) none))
        by (Some e) found =
            let parts : (has near e ≡ true) × (are_neighbours net absent y e ≡ true) = found_has (are_neighbours net absent y) near e found in
            ap (λ b. b && same_number (find (are_neighbours net absent y) near) q)
            (ap (λ b. b && not (is_placed (old ++ rings (below n)) y)) (flags y within)
            ∙ ap (λ b. through y && not b) placed
            ∙ by_through (through y) refl (λ passes. is_next n e y room within passes parts.0 parts.1))

    -- a ring places the next
    ring_placed : (n : ℕ) → suc n ≤ length net.devices
        → flat_map (children_of may_pass net absent (old ++ rings (below n)) (ring net absent source through n) (depth + n)) (ring net absent source through n)
        ≡ placed_ring net absent source through depth n
    ring_placed n room =
        flat_same (children_of may_pass net absent (old ++ rings (below n)) near (depth + n))
        (λ q. map (as_placed n) (part_of net absent source through n q)) near (λ q there.
        ap (λ ds. map (below_device net absent q (depth + n)) ds)
        (filter_same (is_child may_pass net absent (old ++ rings (below n)) near q) (is_of net absent source through n q) (device_numbers net)
        (λ y at. ring_child n q y room (below_has (length net.devices) y at)))
        ∙ map_same (below_device net absent q (depth + n)) (as_placed n) (part_of net absent source through n q)
        (λ d at. parent n q d (in_part net absent source through n q d at).3))
        ∙ sym (map_flat (as_placed n) (part_of net absent source through n) near) ∙ sym (ring_as_placed n)
      where
        near : List ℕ
        near = ring net absent source through n

        parent : (n q d : ℕ) → find (are_neighbours net absent d) (ring net absent source through n) ≡ Some q
            → below_device net absent q (depth + n) d ≡ as_placed n d
        parent n q d found = ap (λ (o : Option ℕ). below_device net absent (map_or o source (λ e. e)) (depth + n) d) (sym found)

    -- what a ring places, as its devices are worked off
    turn_of : (f : ℕ → Placed) (n : ℕ) → ((d : ℕ) → (f d).device ≡ d) → ((d : ℕ) → (f d).depth ≡ depth + n) → suc n ≤ length net.devices
        → all_children may_pass net absent (old ++ rings (below n)) (map f (ring net absent source through n)) ≡ placed_ring net absent source through depth n
    turn_of f n device deep room =
        placed_by may_pass net absent f (depth + n) device deep (ring net absent source through n) (ring_apart net absent source through n)
        (old ++ rings (below n)) ∙ ring_placed n room

    all_turns : (gap n : ℕ) → gap + suc n ≡ length net.devices
        → Sweeps may_pass (neighbours_of net absent) (placed_ring net absent source through depth n) (old ++ rings (below (suc n)))
        (old ++ rings (below (length net.devices)))
    all_turns zero n is =
        let last : suc n ≡ length net.devices = omega arith in
        subst (λ ps. Sweeps may_pass (neighbours_of net absent) ps (old ++ rings (below (suc n))) (old ++ rings (below (length net.devices))))
        (sym (ring_as_placed n ∙ ap (λ ds. map (as_placed n) ds) (no_ring net absent source through inside (suc n) (omega arith))))
        (subst (λ m. Sweeps may_pass (neighbours_of net absent) [] (old ++ rings (below (suc n))) (old ++ rings (below m))) last done)
    all_turns (suc gap) n is =
        let order : List Placed = old ++ rings (below (suc n)) in
        let final : List Placed = old ++ rings (below (length net.devices)) in
        let next : List Placed = placed_ring net absent source through depth (suc n) in
        let placed : all_children may_pass net absent order (placed_ring net absent source through depth n) ≡ next =
        ap (λ ps. all_children may_pass net absent order ps) (ring_as_placed n) ∙ turn_of (as_placed n) (suc n) (λ d. refl) (λ d. deeper n) (omega arith) in
        let after : Sweeps may_pass (neighbours_of net absent) next (order ++ next) final =
        subst (λ ps. Sweeps may_pass (neighbours_of net absent) next ps final)
        (ap (λ ps. old ++ ps) (rings_more (suc n)) ∙ sym (append_assoc old (rings (below (suc n))) next)) (all_turns gap (suc n) (omega arith)) in
        subst (λ ps. Sweeps may_pass (neighbours_of net absent) ps order final) (append-nil (placed_ring net absent source through depth n))
        (sweep_all may_pass net absent (placed_ring net absent source through depth n) [] order final
        (subst (λ ps. Sweeps may_pass (neighbours_of net absent) ps (order ++ ps) final) (sym placed) after))
      where
        deeper : (n : ℕ) → (depth + n) + 1 ≡ depth + suc n
        deeper n = omega arith

    -- the source places the first ring
    first_turn : children may_pass source depth old (neighbours_of net absent source) ≡ placed_ring net absent source through depth 0
    first_turn =
        sym (append-nil (children may_pass source depth old (neighbours_of net absent source)))
        ∙ ap (λ order. all_children may_pass net absent order (map root (source ∷ []))) (sym (append-nil old))
        ∙ turn_of root 0 (λ d. refl) (λ d. same depth) (omega arith)
      where
        root : ℕ → Placed
        root d = record { device = d; depth = depth; hop = None }

        same : (k : ℕ) → k ≡ k + 0
        same k = omega arith

    pub spread_sweeps : let new = children may_pass source depth old (neighbours_of net absent source) in
        Sweeps may_pass (neighbours_of net absent) (drop (length old) (old ++ new)) (old ++ new) (old ++ spread net absent source through depth)
    spread_sweeps =
        let new : List Placed = children may_pass source depth old (neighbours_of net absent source) in
        let final : List Placed = old ++ spread net absent source through depth in
        let gap : (g : ℕ) × (g + 1 ≡ length net.devices) = (length net.devices - 1, omega (arith, inside)) in
        let all : Sweeps may_pass (neighbours_of net absent) (placed_ring net absent source through depth 0)
        (old ++ (placed_ring net absent source through depth 0 ++ [])) final = all_turns gap.0 0 gap.1 in
        let start : Sweeps may_pass (neighbours_of net absent) (placed_ring net absent source through depth 0)
        (old ++ placed_ring net absent source through depth 0) final =
        subst (λ ps. Sweeps may_pass (neighbours_of net absent) (placed_ring net absent source through depth 0) (old ++ ps) final)
        (append-nil (placed_ring net absent source through depth 0)) all in
        subst (λ ps. Sweeps may_pass (neighbours_of net absent) ps (old ++ new) final) (sym (drop_at old new (length old) refl))
        (subst (λ ps. Sweeps may_pass (neighbours_of net absent) ps (old ++ ps) final) (sym first_turn) start)
