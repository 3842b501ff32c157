-- The halves along a walk, one hop after another.
use Rattle.std.proofs.Common.{◌≡◌, ℕ, zero, suc, ◌+◌, ◌-◌, ◌≤◌, Bool, true, false, List, [], ◌∷◌, Option, None, Some, if◌then◌else◌, refl, ap, ◌∙◌, sym, subst, arith}
use Rattle.sd_plan.specs.topo.Network.{Network, bounds_of}
use Rattle.sd_plan.specs.Plans.{primary_of, is_root}
use Rattle.sd_plan.specs.Walks.{hops}
use Rattle.sd_plan.specs.declared.Hop.{Hop}
use Rattle.sd_plan.specs.declared.Plan.{Plan}
use Rattle.sd_plan.proofs.Walking.{hops_left, no_root}
use Rattle.sd_plan.proofs.Steps.{less_one}
use Rattle.sd_drill.specs.recovery.Walks.{halves}

-- where a hop is made
step : (root : ℕ → Bool) (found : Option Hop) (more : ℕ → List Hop) (hop : Hop) → found ≡ Some hop
    → (elim found [ None ↦ [] | Some h ↦ h ∷ (elim (root h.parent) [ true ↦ [] | false ↦ more h.parent ]) ])
    ≡ hop ∷ (if root hop.parent then [] else more hop.parent)
step root found more hop is =
    subst (λ (f : Option Hop). (elim f [ None ↦ [] | Some h ↦ h ∷ (elim (root h.parent) [ true ↦ [] | false ↦ more h.parent ]) ])
    ≡ hop ∷ (if root hop.parent then [] else more hop.parent)) (sym is)
    (by_root (root hop.parent))
  where
    by_root : (b : Bool) → hop ∷ (elim b [ true ↦ [] | false ↦ more hop.parent ]) ≡ hop ∷ (if b then [] else more hop.parent)
    by_root true = refl
    by_root false = refl

-- what is left of a walk is its next hop and what is left after it
hops_on : (plan : Plan) (left here : ℕ) (hop : Hop) → 1 ≤ left → is_root plan here ≡ false → primary_of plan here ≡ Some hop
    → hops_left plan left here ≡ hop ∷ hops_left plan (left - 1) hop.parent
hops_on plan zero here hop some other primary = absurd (omega (arith, some))
hops_on plan (suc n) here hop some other primary =
    no_root (is_root plan here) [] (hops (is_root plan) plan (suc n) here) other
    ∙ step (is_root plan) (primary_of plan here) (hops (is_root plan) plan n) hop primary
    ∙ ap (λ (m : ℕ). hop ∷ hops_left plan m hop.parent) (less_one n)

pub halves_on : (net : Network) (plan : Plan) (left here : ℕ) (hop : Hop) → 1 ≤ left → is_root plan here ≡ false → primary_of plan here ≡ Some hop
    → halves net here (hops_left plan left here) ≡ (bounds_of net hop.link here).half + halves net hop.parent (hops_left plan (left - 1) hop.parent)
halves_on net plan left here hop some other primary = ap (halves net here) (hops_on plan left here hop some other primary)

pub none_left : (net : Network) (plan : Plan) (left here : ℕ) → left ≡ 0 → halves net here (hops_left plan left here) ≡ 0
none_left net plan left here none = subst (λ (n : ℕ). halves net here (hops_left plan n here) ≡ 0) (sym none) (by_root (is_root plan here))
  where
    by_root : (b : Bool) → halves net here (if b then [] else []) ≡ 0
    by_root true = refl
    by_root false = refl

pub none_without_row : (net : Network) (plan : Plan) (left here : ℕ) → primary_of plan here ≡ None → halves net here (hops_left plan left here) ≡ 0
none_without_row net plan zero here none = none_left net plan 0 here refl
none_without_row net plan (suc n) here none = by_root (is_root plan here)
  where
    nothing : hops (is_root plan) plan (suc n) here ≡ []
    nothing = subst (λ (f : Option Hop). (elim f
        [ None ↦ [] | Some h ↦ h ∷ (elim (is_root plan h.parent) [ true ↦ [] | false ↦ hops (is_root plan) plan n h.parent ]) ]) ≡ []) (sym none) refl

    by_root : (b : Bool) → halves net here (if b then [] else hops (is_root plan) plan (suc n) here) ≡ 0
    by_root true = refl
    by_root false = ap (halves net here) nothing
