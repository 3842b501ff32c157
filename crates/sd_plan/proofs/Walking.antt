-- The end of a walk, one hop after another.
use Rattle.std.proofs.Common.{◌≡◌, ℕ, zero, suc, ◌-◌, ◌≤◌, Bool, true, false, List, [], ◌∷◌, Option, None, Some, if◌then◌else◌, refl, ap, ◌∙◌, sym, subst, arith}
use Rattle.sd_plan.specs.Plans.{primary_of, is_root}
use Rattle.sd_plan.specs.Walks.{hops, end_of}
use Rattle.sd_plan.specs.declared.Hop.{Hop}
use Rattle.sd_plan.specs.declared.Plan.{Plan}
use Rattle.sd_plan.proofs.Steps.{less_one}

-- the hops that are left of a walk at a device
abbrev pub hops_left : Plan → ℕ → ℕ → List Hop
hops_left plan n x = if is_root plan x then [] else hops (is_root plan) plan n x

-- after a hop the walk ends where its parent's ends
step : (root : ℕ → Bool) (found : Option Hop) (more : ℕ → List Hop) (here : ℕ) (hop : Hop) → found ≡ Some hop
    → end_of here (elim found [ None ↦ [] | Some h ↦ h ∷ (elim (root h.parent) [ true ↦ [] | false ↦ more h.parent ]) ])
    ≡ end_of hop.parent (if root hop.parent then [] else more hop.parent)
step root found more here hop is =
    subst (λ (f : Option Hop). end_of here (elim f [ None ↦ [] | Some h ↦ h ∷ (elim (root h.parent) [ true ↦ [] | false ↦ more h.parent ]) ])
    ≡ end_of hop.parent (if root hop.parent then [] else more hop.parent)) (sym is)
    (by_root (root hop.parent))
  where
    by_root : (b : Bool) → end_of hop.parent (elim b [ true ↦ [] | false ↦ more hop.parent ]) ≡ end_of hop.parent (if b then [] else more hop.parent)
    by_root true = refl
    by_root false = refl

pub no_root : {X : Type 0} (b : Bool) (x y : X) → b ≡ false → (if b then x else y) ≡ y
no_root b x y is = subst (λ (c : Bool). (if c then x else y) ≡ y) (sym is) refl

pub walks_on : (plan : Plan) (left here : ℕ) (hop : Hop) → 1 ≤ left → is_root plan here ≡ false → primary_of plan here ≡ Some hop
    → end_of here (hops_left plan left here) ≡ end_of hop.parent (hops_left plan (left - 1) hop.parent)
walks_on plan zero here hop some other primary = absurd (omega arith)
walks_on plan (suc n) here hop some other primary =
    ap (end_of here) (no_root (is_root plan here) [] (hops (is_root plan) plan (suc n) here) other)
    ∙ step (is_root plan) (primary_of plan here) (hops (is_root plan) plan n) here hop primary
    ∙ ap (λ (m : ℕ). end_of hop.parent (hops_left plan m hop.parent)) (less_one n)
