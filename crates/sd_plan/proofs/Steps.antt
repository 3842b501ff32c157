-- One step along primary parents.
use Rattle.std.proofs.Common.{◌≡◌, append_assoc, ℕ, zero, suc, ◌-◌, ◌≤◌, ◌++◌, Bool, true, false, List, [], ◌∷◌, Option, None, Some, refl, ap, ◌∙◌, sym, subst, arith, slice_get}
use Rattle.std.specs.Prelude.{option_map, IfSome}
use Rattle.sd_num.specs.Lists.{map_or}
use Rattle.sd_plan.specs.topo.Network.{Network, Each}
use Rattle.sd_plan.specs.declared.topo.Thing.{Thing}
use Rattle.sd_plan.specs.declared.topo.Thing.TheVariants as thing
use Rattle.sd_plan.specs.Plans.{primary_of, IsHop, IsRow}
use Rattle.sd_plan.specs.Walks.{hops, things_of}
use Rattle.sd_plan.specs.declared.Hop.{Hop}
use Rattle.sd_plan.specs.declared.Plan.{Plan}
use Rattle.sd_plan.specs.declared.PlanRow.{PlanRow}

-- one hop of those that are made step by step
step : (ends : ℕ → Bool) (found : Option Hop) (more : ℕ → List Hop) (hop : Hop) → found ≡ Some hop → ends hop.parent ≡ false
    → things_of (elim found [ None ↦ [] | Some h ↦ h ∷ (elim (ends h.parent) [ true ↦ [] | false ↦ more h.parent ]) ])
    ≡ (thing.Link hop.link ∷ thing.Device hop.parent ∷ []) ++ things_of (more hop.parent)
step ends found more hop is other =
    subst (λ (f : Option Hop). things_of (elim f [ None ↦ [] | Some h ↦ h ∷ (elim (ends h.parent) [ true ↦ [] | false ↦ more h.parent ]) ])
    ≡ (thing.Link hop.link ∷ thing.Device hop.parent ∷ []) ++ things_of (more hop.parent)) (sym is)
    (subst (λ (over : Bool). things_of (hop ∷ (elim over [ true ↦ [] | false ↦ more hop.parent ])) ≡ (thing.Link hop.link ∷ thing.Device hop.parent ∷ [])
    ++ things_of (more hop.parent)) (sym other) refl)

pub less_one : (n : ℕ) → n ≡ suc n - 1
less_one n = omega arith

-- a hop that ends nothing is followed by the hops of its parent
pub goes_on : (ends : ℕ → Bool) (plan : Plan) (left here : ℕ) (hop : Hop) → 1 ≤ left → primary_of plan here ≡ Some hop → ends hop.parent ≡ false
    → things_of (hops ends plan left here) ≡ (thing.Link hop.link ∷ thing.Device hop.parent ∷ []) ++ things_of (hops ends plan (left - 1) hop.parent)
goes_on ends plan zero here hop some primary other = absurd (omega arith)
goes_on ends plan (suc n) here hop some primary other =
    subst (λ (m : ℕ). things_of (hops ends plan (suc n) here) ≡ (thing.Link hop.link ∷ thing.Device hop.parent ∷ []) ++ things_of (hops ends plan m hop.parent))
    (less_one n)
    (step ends (primary_of plan here) (hops ends plan n) hop primary other)

-- the hop of the entry of a device
entry_within : (net : Network) (entry : Option (Option PlanRow)) (hop : Hop) → ((row : Option PlanRow) → entry ≡ Some row → IsRow net row)
    → option_map (λ row. row.primary) (map_or entry None (λ row. row)) ≡ Some hop → IsHop net hop
entry_within net None hop each is = subst (λ (found : Option Hop). IfSome found (IsHop net)) is tt
entry_within net (Some None) hop each is = subst (λ (found : Option Hop). IfSome found (IsHop net)) is tt
entry_within net (Some (Some row)) hop each is = subst (λ (found : Option Hop). IfSome found (IsHop net)) is (each (Some row) refl).0

-- a plan that fits names parents and links that are there
pub primary_within : (net : Network) (plan : Plan) (here : ℕ) (hop : Hop) → Each (IsRow net) plan.rows → primary_of plan here ≡ Some hop → IsHop net hop
primary_within net plan here hop each is = entry_within net (slice_get plan.rows here) hop (λ row at. each here row at) is

-- what is added, with what follows it
pub goes_with : (before after : List Thing) (hop : Hop) (rest : List Thing) → after ≡ before ++ (thing.Link hop.link ∷ thing.Device hop.parent ∷ [])
    → before ++ ((thing.Link hop.link ∷ thing.Device hop.parent ∷ []) ++ rest) ≡ after ++ rest
goes_with before after hop rest added = sym (append_assoc before (thing.Link hop.link ∷ thing.Device hop.parent ∷ []) rest)
    ∙ ap (λ (things : List Thing). things ++ rest) (sym added)
