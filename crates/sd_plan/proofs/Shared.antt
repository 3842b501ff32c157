-- Lemmas that several crates above share.
use Rattle.std.proofs.Common.{◌≡◌, length, ap, ◌∙◌, subst, Bool, true, false, [], find, cond, Some, refl}
use Rattle.std.proofs.lemmas.List.{length-map}
use Rattle.std.specs.Prelude.{ℕ, zero, suc, List, ◌∷◌, Option}
use Rattle.std.proofs.lemmas.Option.{same_Some}
use Rattle.sd_plan.specs.topo.Network.{Network, link_numbers, Each}
use Rattle.sd_plan.specs.IndexedPlan.{IndexedPlan, IsIndexOf, carried_over}
use Rattle.sd_plan.specs.declared.Plan.{Plan}
use Rattle.sd_plan.proofs.Numbered.{length-below}
use Rattle.sd_plan.specs.declared.Absent.{Absent}
use Rattle.sd_plan.specs.declared.PlanRow.{PlanRow}

-- one entry for each link
pub carried_length : (net : Network) (plan : Plan) (index : IndexedPlan) → IsIndexOf net plan index → length index.carried ≡ length net.links
carried_length net plan index indexed = ap length indexed.carried ∙ length-map (link_numbers net) (carried_over net plan) ∙ length-below (length net.links)

pub each_more : {A : Type 0} (P : A → Type 0) (x : A) (xs : List A) → P x → Each P xs → Each P (x ∷ xs)
each_more P x xs first rest zero y at = subst P (same_Some x y at) first
each_more P x xs first rest (suc i) y at = rest i y at

-- what is found is one of the list
pub found_passes : {X : Type 0} (P : X → Type 0) (p : X → Bool) (xs : List X) (b : X) → Each P xs → find p xs ≡ Some b → P b
found_passes P p [] b each found = cc
found_passes P p (x ∷ xs) b each found = by_test (λ later. found_passes P p xs b (λ i y at. each (suc i) y at) later) (p x) found
  where
    by_test : (find p xs ≡ Some b → P b) → (t : Bool) → cond t (Some x) (find p xs) ≡ Some b → P b
    by_test rest true found = subst P (same_Some x b found) (each 0 x refl)
    by_test rest false found = rest found

-- a plan of its parts
abbrev pub plan_of : ℕ → ℕ → ℕ → ℕ → ℕ → Absent → List (Option PlanRow) → Plan
plan_of root backup_root first second ordinary absent rows =
    record { root = root; backup_root = backup_root; wait_first = first; wait_second = second; wait = ordinary; absent = absent; rows = rows }
