-- What the neighbours of one device place, and those of some devices in turn.
use Rattle.std.specs.Prelude.{◌≡◌, ℕ, ◌+◌, Bool, true, false, ◌&&◌, ◌||◌, not, List, [], ◌∷◌, ◌++◌, length, map, find, filter, flat_map, nat_eq, Option, Some, None, is_some, option_map, slice_index_or, if◌then◌else◌}
use Rattle.std.proofs.Common.{refl, sym, ap, ◌∙◌, subst, cond}
use Rattle.std.proofs.lemmas.Bool.{both_ways, eq-eqb, ne_eqb, not_from_true, and_right}
use Rattle.std.proofs.lemmas.List.Folds.{list_any-append}
use Rattle.sd_num.specs.Lists.{has}
use Rattle.sd_num.proofs.Shared.{equal_swap, find_same}
use Rattle.sd_num.proofs.Distinct.{AreDistinct}
use Rattle.sd_plan.specs.topo.Network.{Network, joins, device_numbers, link_numbers}
use Rattle.sd_planner.specs.declared.present.Neighbour.{Neighbour}
use Rattle.sd_plan.specs.declared.Absent.{Absent}
use Rattle.sd_planner.specs.Usable.{is_usable, links_between, link_between, are_neighbours, neighbours_of}
use Rattle.sd_planner.specs.declared.placement.Placed.{Placed}
use Rattle.sd_planner.specs.Spreading.{is_placed, below_device}
use Rattle.sd_planner.specs.Sweeps.{child, is_new, children}
use Rattle.sd_planner.proofs.Lists.{filter_same, apart_below, find_first, find_none}
use Rattle.sd_planner.proofs.Turned.{neighbour_over}
use Rattle.sd_planner.proofs.Walks.{joins_swap}

-- Whether a device is placed

pub placed-devices : (order : List Placed) (d : ℕ) → is_placed order d ≡ has (map (λ p. p.device) order) d
placed-devices [] d = refl
placed-devices (p ∷ order) d = ap (λ b. b || is_placed order d) (equal_swap p.device d) ∙ ap (λ b. nat_eq d p.device || b) (placed-devices order d)

pub placed-append : (order more : List Placed) (d : ℕ) → is_placed (order ++ more) d ≡ (is_placed order d || is_placed more d)
placed-append order more d = list_any-append (λ p. nat_eq p.device d) order more

-- one device more is no longer new, and the others are as before
not_new : (may_pass : List Bool) (order : List Placed) (p : Placed) → is_new may_pass (order ++ p ∷ []) p.device ≡ false
not_new may_pass order p =
    and_right (slice_index_or may_pass p.device false) (not (is_placed (order ++ p ∷ []) p.device))
    (not_from_true (is_placed (order ++ p ∷ []) p.device)
    (placed-append order (p ∷ []) p.device ∙ last (is_placed order p.device) (nat_eq p.device p.device) (eq-eqb p.device p.device refl)))
  where
    last : (a b : Bool) → b ≡ true → (a || (b || false)) ≡ true
    last true b is = refl
    last false true is = refl
    last false false is = is

still_new : (may_pass : List Bool) (order : List Placed) (p : Placed) (d : ℕ) → (d ≡ p.device → ⊥)
    → is_new may_pass (order ++ p ∷ []) d ≡ is_new may_pass order d
still_new may_pass order p d other =
    ap (λ b. slice_index_or may_pass d false && not b) (placed-append order (p ∷ []) d
    ∙ last (is_placed order d) (nat_eq p.device d) (ne_eqb p.device d (λ same. other (sym same))))
  where
    last : (a b : Bool) → b ≡ false → (a || (b || false)) ≡ a
    last true b is = refl
    last false false is = refl
    last false true is = is

-- One device

module _ (net : Network) (absent : Absent) where
  -- the lowest link is the same from either end
  lowest_swap : (d e : ℕ) → link_between net absent d e ≡ find (λ l. is_usable net absent l && joins net l e d) (link_numbers net)
  lowest_swap d e =
      find_same (λ l. is_usable net absent l && joins net l d e) (λ l. is_usable net absent l && joins net l e d) (link_numbers net)
      (λ l. ap (λ b. is_usable net absent l && b) (joins_swap net l d e))

  module _ (may_pass : List Bool) (parent depth : ℕ) where
    -- neighbours to a device that is not new place nothing
    passed_by : (order : List Placed) (y : ℕ) (links : List ℕ) (rest : List Neighbour) → is_new may_pass order y ≡ false
        → children may_pass parent depth order (map (neighbour_over y) links ++ rest) ≡ children may_pass parent depth order rest
    passed_by order y [] rest old = refl
    passed_by order y (l ∷ links) rest old =
        ap (λ (b : Bool). if b then child parent depth (neighbour_over y l) ∷ children may_pass parent depth
        (order ++ child parent depth (neighbour_over y l) ∷ []) (map (neighbour_over y) links ++ rest) else children may_pass parent depth order
        (map (neighbour_over y) links ++ rest)) old
        ∙ passed_by order y links rest old

    -- the neighbours that are new
    abbrev pub new_among : List Placed → List ℕ → List ℕ
    new_among order ys = filter (λ y. is_new may_pass order y && are_neighbours net absent y parent) ys

    -- the neighbours to some devices place the neighbours among them that are new
    pub placed_among : (order : List Placed) (ys : List ℕ) → AreDistinct ys
        → children may_pass parent depth order (flat_map (λ y. map (neighbour_over y) (links_between net absent parent y)) ys)
        ≡ map (below_device net absent parent depth) (new_among order ys)
    placed_among order [] apart = refl
    placed_among order (y ∷ ys) apart = by (is_new may_pass order y) refl (links_between net absent parent y) refl (λ longer. placed_among longer ys apart.1)
      where
        row : ℕ → List Neighbour
        row z = map (neighbour_over z) (links_between net absent parent z)

        Rest : Type 0
        Rest = (longer : List Placed)
            → children may_pass parent depth longer (flat_map row ys) ≡ map (below_device net absent parent depth) (new_among longer ys)

        goal : Bool → Bool → List ℕ
        goal b n = cond (b && n) (y ∷ new_among order ys) (new_among order ys)

        by : (b : Bool) → is_new may_pass order y ≡ b → (links : List ℕ) → links_between net absent parent y ≡ links → Rest
            → children may_pass parent depth order (map (neighbour_over y) (links_between net absent parent y) ++ flat_map row ys)
            ≡ map (below_device net absent parent depth)
            (cond (is_new may_pass order y && are_neighbours net absent y parent) (y ∷ new_among order ys) (new_among order ys))
        by false old links is rest =
            passed_by order y (links_between net absent parent y) (flat_map row ys) old ∙ rest order
            ∙ ap (λ (b : Bool). map (below_device net absent parent depth) (goal b (are_neighbours net absent y parent))) (sym old)
        by true new [] is rest =
            let none : link_between net absent y parent ≡ None =
            lowest_swap y parent ∙ find_none (λ l. is_usable net absent l && joins net l parent y) (link_numbers net) is in
            ap (λ (links : List ℕ). children may_pass parent depth order (map (neighbour_over y) links ++ flat_map row ys)) is ∙ rest order
            ∙ ap (λ (n : Bool). map (below_device net absent parent depth) (goal true n)) (sym (ap (λ (o : Option ℕ). is_some o) none))
            ∙ ap (λ (b : Bool). map (below_device net absent parent depth) (goal b (are_neighbours net absent y parent))) (sym new)
        by true new (l ∷ links) is rest =
            let found : link_between net absent y parent ≡ Some l =
            lowest_swap y parent ∙ find_first (λ l. is_usable net absent l && joins net l parent y) (link_numbers net) links l is in
            let p : Placed = child parent depth (neighbour_over y l) in
            let same : p ≡ below_device net absent parent depth y =
            ap (λ (o : Option ℕ). let q : Placed =
            record { device = y; depth = depth + 1; hop = option_map (λ k. record { parent = parent; link = k }) o } in q) (sym found) in
            ap (λ (ls : List ℕ). children may_pass parent depth order (map (neighbour_over y) ls ++ flat_map row ys)) is
            ∙ ap (λ (b : Bool). if b then p ∷ children may_pass parent depth (order ++ p ∷ [])
            (map (neighbour_over y) links ++ flat_map row ys) else children may_pass parent depth order (map (neighbour_over y) links ++ flat_map row ys))
            new
            ∙ ap (λ (ps : List Placed). p ∷ ps) (passed_by (order ++ p ∷ []) y links (flat_map row ys) (not_new may_pass order p) ∙ rest (order ++ p ∷ [])
            ∙ ap (λ zs. map (below_device net absent parent depth) zs)
            (filter_same (λ z. is_new may_pass (order ++ p ∷ []) z && are_neighbours net absent z parent)
            (λ z. is_new may_pass order z && are_neighbours net absent z parent) ys
            (λ z there. ap (λ b. b && are_neighbours net absent z parent)
            (still_new may_pass order p z (λ is_y. both_ways (has ys y) apart.0 (subst (λ w. has ys w ≡ true) is_y there))))))
            ∙ ap (λ (q : Placed). q ∷ map (below_device net absent parent depth) (new_among order ys)) same
            ∙ ap (λ (n : Bool). map (below_device net absent parent depth) (goal true n)) (sym (ap (λ (o : Option ℕ). is_some o) found))
            ∙ ap (λ (b : Bool). map (below_device net absent parent depth) (goal b (are_neighbours net absent y parent))) (sym new)

    -- so do all neighbours of the device
    pub placed_below : (order : List Placed)
        → children may_pass parent depth order (neighbours_of net absent parent)
        ≡ map (below_device net absent parent depth) (new_among order (device_numbers net))
    placed_below order = placed_among order (device_numbers net) (apart_below (length net.devices))
