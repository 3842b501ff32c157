-- The order of what is placed, and the place of each.
use Rattle.std.specs.Prelude.{◌≡◌, ℕ, zero, suc, ◌<◌, ◌≤◌, true, false, List, [], ◌∷◌, ◌++◌, length, map, nat_eq, Option, Some, None, is_some, slice_get, All, get_or, option_map}
use Rattle.std.specs.List.{list_any}
use Rattle.std.proofs.Common.{refl, sym, ap, ◌∙◌, arith, inl, inr, set}
use Rattle.std.proofs.Math.ListN.{length-set}
use Rattle.std.proofs.lemmas.Bool.{both_ways, cases_lt, cases_eq, eqb-true, eq-eqb}
use Rattle.std.proofs.lemmas.List.{get_or-set_other, length-map}
use Rattle.std.proofs.lemmas.Option.{same_Some, slice_get-map, slice_get_within, slice_get-get_or, slice_get_past}
use Rattle.std.proofs.lemmas.Map.Keys.{any_passes_from_place}
use Rattle.sd_planner.specs.declared.placement.Placed.{Placed}
use Rattle.sd_planner.specs.Spreading.{is_placed, placed_at}
use Rattle.sd_planner.specs.PlacementView.{AreTied}
use Rattle.sd_planner.proofs.Elements.{any_found, found_at_place}
use Rattle.sd_planner.proofs.Lists.{apart_from_places}
use Rattle.sd_num.specs.Lists.{has}
use Rattle.sd_num.proofs.Places.{at_has, at_cases, at_last as at_end, at_written}
use Rattle.sd_num.proofs.Distinct.{few}

-- places of a longer list
pub at_before : {X : Type 0} (xs ys : List X) (i : ℕ) (x : X) → slice_get xs i ≡ Some x → slice_get (xs ++ ys) i ≡ Some x
at_before [] ys i x at = cc
at_before (z ∷ zs) ys zero x at = at
at_before (z ∷ zs) ys (suc i) x at = at_before zs ys i x at

at_unwritten : {X : Type 0} (xs : List X) (i j : ℕ) (y : X) → (j ≡ i → ⊥) → slice_get (set xs i y) j ≡ slice_get xs j
at_unwritten xs i j y apart =
    elim (cases_lt j (length xs)) [
      | inl inside ↦ slice_get-get_or (set xs i y) j y (rw (length-set xs i y) inside) ∙ ap Some (get_or-set_other xs i j y y apart)
          ∙ sym (slice_get-get_or xs j y inside)
      | inr past ↦ slice_get_past (set xs i y) j (rw (length-set xs i y) past) ∙ sym (slice_get_past xs j past)
    ]

-- by the place of a device it is known whether it is placed, and how
pub placed_none : (order : List Placed) (places : List (Option ℕ)) (d : ℕ) → AreTied order places → slice_get places d ≡ Some None → placed_at order d ≡ None
placed_none order places d tied none = by (placed_at order d) refl
  where
    not_both : (o : Option ℕ) (i : ℕ) → o ≡ None → o ≡ Some i → ⊥
    not_both o i none some = cc

    by : (o : Option Placed) → placed_at order d ≡ o → placed_at order d ≡ None
    by None is = is
    by (Some p) is =
        let found : (i : ℕ) × (slice_get order i ≡ Some p) × (nat_eq p.device d ≡ true) = found_at_place (λ p. nat_eq p.device d) order p is in
        let known : slice_get places d ≡ Some (Some found.0) =
        ap (λ x. slice_get places x) (sym (eqb-true p.device d found.2)) ∙ tied.known found.0 p found.1 in
        absurd (not_both None found.0 refl (same_Some None (Some found.0) (sym none ∙ known)))

pub placed_here : (order : List Placed) (places : List (Option ℕ)) (d i : ℕ) → AreTied order places → slice_get places d ≡ Some (Some i)
    → placed_at order d ≡ slice_get order i
placed_here order places d i tied is = by (placed_at order d) refl
  where
    here : (p : Placed) × (slice_get order i ≡ Some p) × (p.device ≡ d)
    here = tied.stands d i is

    same_place : (j : ℕ) → ◌≡◌ {A = Option ℕ} (Some i) (Some j) → i ≡ j
    same_place j same = same_Some i j same

    by : (o : Option Placed) → placed_at order d ≡ o → placed_at order d ≡ slice_get order i
    by None none =
        let some : list_any (λ p. nat_eq p.device d) order ≡ true = any_passes_from_place (λ p. nat_eq p.device d) order i here.0 here.1 (eq-eqb here.0.device d here.2) in
        absurd (both_ways (is_some (placed_at order d)) (ap (λ (o : Option Placed). is_some o) none) (sym (any_found (λ p. nat_eq p.device d) order) ∙ some))
    by (Some p) found =
        let at : (j : ℕ) × (slice_get order j ≡ Some p) × (nat_eq p.device d ≡ true) = found_at_place (λ p. nat_eq p.device d) order p found in
        let known : slice_get places d ≡ Some (Some at.0) = ap (λ x. slice_get places x) (sym (eqb-true p.device d at.2)) ∙ tied.known at.0 p at.1 in
        let same : i ≡ at.0 = same_place at.0 (same_Some (Some i) (Some at.0) (sym is ∙ known)) in
        found ∙ sym at.1 ∙ ap (λ k. slice_get order k) (sym same)

pub has_placed : (order : List Placed) (places : List (Option ℕ)) (d : ℕ) (o : Option ℕ) → AreTied order places → slice_get places d ≡ Some o
    → is_some o ≡ is_placed order d
has_placed order places d None tied is = ap (λ (o : Option Placed). is_some o) (sym (placed_none order places d tied is))
    ∙ sym (any_found (λ p. nat_eq p.device d) order)
has_placed order places d (Some i) tied is =
    let here : (p : Placed) × (slice_get order i ≡ Some p) × (p.device ≡ d) = tied.stands d i is in
    sym (any_passes_from_place (λ p. nat_eq p.device d) order i here.0 here.1 (eq-eqb here.0.device d here.2))

-- the placed devices are in range, and no more than there are
pub tied_within : (order : List Placed) (places : List (Option ℕ)) → AreTied order places → All (λ p. p.device < length places) order
tied_within order places tied i e within =
    slice_get_within places (get_or order i e).device (Some i) (tied.known i (get_or order i e) (slice_get-get_or order i e within))

pub tied_few : (order : List Placed) (places : List (Option ℕ)) → AreTied order places → length order ≤ length places
tied_few order places tied =
    let devices : List ℕ = map (λ p. p.device) order in
    let inside : (x : ℕ) → has devices x ≡ true → x < length places = λ x there.
    (let at : (i : ℕ) × (slice_get devices i ≡ Some x) = at_has devices x there in
    slice_get_within places x (Some at.0) (known at.0 x at.1)) in
    let size : length devices ≤ length places =
    few devices (length places) (apart_from_places devices (λ i j x first second. same_place i j x (known i x first) (known j x second))) inside in
    omega (arith, length-map order (λ (p : Placed). p.device))
  where
    known : (i x : ℕ) → slice_get (map (λ p. p.device) order) i ≡ Some x → slice_get places x ≡ Some (Some i)
    known i x at = by (slice_get order i) refl (sym (slice_get-map (λ p. p.device) order i) ∙ at)
      where
        by : (o : Option Placed) → slice_get order i ≡ o → option_map (λ p. p.device) o ≡ Some x → slice_get places x ≡ Some (Some i)
        by None is here = cc
        by (Some p) is here = ap (λ y. slice_get places y) (sym (same_Some p.device x here)) ∙ tied.known i p is

    same_place : (i j x : ℕ) → slice_get places x ≡ Some (Some i) → slice_get places x ≡ Some (Some j) → i ≡ j
    same_place i j x first second = let same : ◌≡◌ {A = Option ℕ} (Some i) (Some j) = same_Some (Some i) (Some j) (sym first ∙ second) in same_Some i j same

-- one more
pub tied_more : (order : List Placed) (places : List (Option ℕ)) (p : Placed) (place : ℕ) → AreTied order places → place ≡ length order
    → is_placed order p.device ≡ false → p.device < length places
    → AreTied (order ++ p ∷ []) (set places p.device (Some place))
tied_more order places p place tied last fresh within =
    record {
      known = λ i q at. elim (at_cases order p i q at) [
        | inl before ↦ at_unwritten places p.device q.device (Some place)
            (λ same. both_ways (is_placed order p.device) fresh (any_passes_from_place (λ r. nat_eq r.device p.device) order i q before (eq-eqb q.device p.device same)))
            ∙ tied.known i q before
        | inr here ↦
            ap (λ (r : Placed). slice_get (set places p.device (Some place)) r.device) here.1 ∙ at_written places p.device (Some place) within
            ∙ ap (λ (k : ℕ). Some (Some k)) (last ∙ sym here.0)
      ];
      stands = λ d i is. elim (cases_eq d p.device) [
        | inl same ↦ (
          p,
          at_last i
              (same_place i (sym (at_written places p.device (Some place) within) ∙ ap (λ x. slice_get (set places p.device (Some place)) x) (sym same)
              ∙ is)),
          sym same,
        )
        | inr other ↦
            (let old : (q : Placed) × (slice_get order i ≡ Some q) × (q.device ≡ d) =
            tied.stands d i (sym (at_unwritten places p.device d (Some place) other) ∙ is) in
            (old.0, at_before order (p ∷ []) i old.0 old.1, old.2))
      ];
    }
  where
    same_place : (i : ℕ) → ◌≡◌ {A = Option (Option ℕ)} (Some (Some place)) (Some (Some i)) → place ≡ i
    same_place i is = let same : ◌≡◌ {A = Option ℕ} (Some place) (Some i) = same_Some (Some place) (Some i) is in same_Some place i same

    at_last : (i : ℕ) → place ≡ i → slice_get (order ++ p ∷ []) i ≡ Some p
    at_last i same = ap (λ k. slice_get (order ++ p ∷ []) k) (sym same ∙ last) ∙ at_end order p
