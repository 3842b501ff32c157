-- The neighbours over one more link.
use Rattle.std.proofs.Common.{◌≡◌, ◌≢◌, ℕ, ◌+◌, ◌<◌, ◌⊎◌, inl, inr, Bool, true, false, ◌||◌, ◌&&◌, List, [], ◌∷◌, ◌++◌, length, map, filter_map, get_or, nat_eq, Some, None, if◌then◌else◌, refl, sym, ap, ◌∙◌, subst, append_assoc}
use Rattle.std.proofs.lemmas.Bool.{cases_eq, eq-eqb, ne_eqb, and_left}
use Rattle.std.proofs.lemmas.List.{append-nil}
use Rattle.sd_plan.specs.topo.Network.{Network, device_numbers, link_of}
use Rattle.sd_plan.specs.topo.Limits.{IsNetwork}
use Rattle.sd_plan.specs.topo.Places.{is_end_of}
use Rattle.sd_plan.specs.declared.topo.LinkEntry.{LinkEntry}
use Rattle.sd_plan.proofs.topo.Laws.{link_law}
use Rattle.sd_plan.specs.IndexedPlan.{other_end}
use Rattle.sd_planner.specs.declared.present.Neighbour.{Neighbour}
use Rattle.sd_plan.proofs.Numbered.{filtered_more}
use Rattle.sd_planner.specs.Gathered.{neighbour_by, over_before, neighbour_below}
use Rattle.sd_planner.specs.Flags.{is_set}
use Rattle.sd_plan.proofs.Listing.{rows_grown}

-- a neighbour over a link
abbrev pub neighbour_to : ℕ → ℕ → Neighbour
neighbour_to l c = record { device = c; link = l }

-- the neighbours over a link that may be used
link_over : (net : Network) (flags : List Bool) (l d : ℕ) → (link_of net l).end_a ≢ (link_of net l).end_b → is_set flags l ≡ true
    → filter_map (neighbour_by net flags d) (l ∷ []) ≡ neighbour_below l (link_of net l).end_a (link_of net l).end_b d
    ++ neighbour_below l (link_of net l).end_b (link_of net l).end_a d
link_over net flags l d apart flagged =
    ap (λ p. filter_map (λ (x : ℕ). if p && is_end_of (link_of net l) d then Some (neighbour_to x (other_end (link_of net l) d)) else None) (l ∷ [])) flagged
    ∙ by_ends (link_of net l).end_a (link_of net l).end_b (nat_eq d (link_of net l).end_a) (nat_eq d (link_of net l).end_b)
    (not_both (cases_eq d (link_of net l).end_a))
  where
    not_both : (d ≡ (link_of net l).end_a) ⊎ (d ≡ (link_of net l).end_a → ⊥) → (nat_eq d (link_of net l).end_a && nat_eq d (link_of net l).end_b) ≡ false
    not_both (inl same) =
        ap (λ b. b && nat_eq d (link_of net l).end_b) (eq-eqb d (link_of net l).end_a same) ∙ ne_eqb d (link_of net l).end_b (λ also. apart (sym same ∙ also))
    not_both (inr other) = and_left (nat_eq d (link_of net l).end_a) (nat_eq d (link_of net l).end_b) (ne_eqb d (link_of net l).end_a other)

    by_ends : (a b : ℕ) (at_a at_b : Bool) → (at_a && at_b) ≡ false
        → filter_map (λ (x : ℕ). if true && (at_a || at_b) then Some (neighbour_to x (if at_a then b else a)) else None) (l ∷ [])
        ≡ (if at_a then neighbour_to l b ∷ [] else []) ++ (if at_b then neighbour_to l a ∷ [] else [])
    by_ends a b true true both = cc
    by_ends a b true false both = refl
    by_ends a b false true both = refl
    by_ends a b false false both = refl

-- one more link that may be used
over_grown : (net : Network) (flags : List Bool) (l d : ℕ) → IsNetwork net → l < length net.links → is_set flags l ≡ true
    → over_before net flags (l + 1) d ≡ (over_before net flags l d ++ neighbour_below l (link_of net l).end_a (link_of net l).end_b d)
    ++ neighbour_below l (link_of net l).end_b (link_of net l).end_a d
over_grown net flags l d law within flagged =
    filtered_more (neighbour_by net flags d) l
    ∙ ap (λ more. over_before net flags l d ++ more) (link_over net flags l d (link_law net l law within).apart flagged)
    ∙ sym (append_assoc (over_before net flags l d) (neighbour_below l (link_of net l).end_a (link_of net l).end_b d)
    (neighbour_below l (link_of net l).end_b (link_of net l).end_a d))

-- a link that may not
over_same : (net : Network) (flags : List Bool) (l d : ℕ) → is_set flags l ≡ false → over_before net flags (l + 1) d ≡ over_before net flags l d ++ []
over_same net flags l d not_flagged =
    filtered_more (neighbour_by net flags d) l
    ∙ ap (λ more. over_before net flags l d ++ more)
    (ap (λ p. filter_map (λ (x : ℕ). if p && is_end_of (link_of net l) d then Some (neighbour_to x (other_end (link_of net l) d)) else None) (l ∷ []))
    not_flagged)

-- the rows after both ends of a link
pub rows_over : (net : Network) (flags : List Bool) (l : ℕ) (link : LinkEntry) (rows some all : List (List Neighbour)) → IsNetwork net → l < length net.links
    → is_set flags l ≡ true → link ≡ link_of net l
    → rows ≡ map (over_before net flags l) (device_numbers net) → length some ≡ length rows → length all ≡ length some
    → ((d : ℕ) → d < length rows → get_or some d [] ≡ get_or rows d [] ++ neighbour_below l link.end_a link.end_b d)
    → ((d : ℕ) → d < length some → get_or all d [] ≡ get_or some d [] ++ neighbour_below l link.end_b link.end_a d)
    → all ≡ map (over_before net flags (l + 1)) (device_numbers net)
rows_over net flags l link rows some all law within flagged is before first_size second_size first second =
    let count = length net.devices in
    let half : ℕ → List Neighbour = λ d. over_before net flags l d ++ neighbour_below l link.end_a link.end_b d in
    rows_grown half (over_before net flags (l + 1)) (neighbour_below l link.end_b link.end_a) count some all second_size
    (rows_grown (over_before net flags l) half (neighbour_below l link.end_a link.end_b) count rows some first_size before first (λ d inside. refl)) second
    (λ d inside.
    subst (λ (e : LinkEntry). over_before net flags (l + 1) d ≡ (over_before net flags l d ++ neighbour_below l e.end_a e.end_b d)
    ++ neighbour_below l e.end_b e.end_a d) (sym is)
    (over_grown net flags l d law within flagged))

-- the rows after a link that may not be used
pub rows_same : (net : Network) (flags : List Bool) (l : ℕ) (rows : List (List Neighbour)) → is_set flags l ≡ false
    → rows ≡ map (over_before net flags l) (device_numbers net) → rows ≡ map (over_before net flags (l + 1)) (device_numbers net)
rows_same net flags l rows not_flagged are =
    rows_grown (over_before net flags l) (over_before net flags (l + 1)) (λ d. []) (length net.devices) rows rows refl are
    (λ d within. sym (append-nil (get_or rows d [])))
    (λ d within. over_same net flags l d not_flagged)
