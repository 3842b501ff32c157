-- The plans are numbered one after the other.
use Rattle.std.specs.Prelude.{◌≡◌, ℕ, ◌+◌, ◌<◌, List, [], ◌∷◌, ◌++◌, length, map}
use Rattle.std.proofs.Common.{ap, ◌∙◌, sym, get_or}
use Rattle.sd_num.specs.Lists.{below, at_place}
use Rattle.sd_plan.specs.topo.Network.{Network}
use Rattle.sd_plan.proofs.topo.Laws.{found_at}
use Rattle.sd_plan.specs.declared.Plan.{Plan}
use Rattle.sd_plan.proofs.Numbered.{numbered_more}
use Rattle.sd_history.specs.World.{no_plan}
use Rattle.sd_world.specs.declared.membership.plans.NumberedPlan.{NumberedPlan}
use Rattle.sd_world.specs.membership.Plans.{numbered_as, numbered_at}

-- one plan more
pub plans_more : (net : Network) (plans : List Plan) (i : ℕ) (plan : Plan) → i < length plans → plan ≡ get_or plans i plan
    → map (numbered_at net plans) (below i) ++ numbered_as net (i + 1) plan ∷ [] ≡ map (numbered_at net plans) (below (i + 1))
plans_more net plans i plan within at =
    let here : at_place plans i no_plan (λ p. p) ≡ plan = found_at plans i plan no_plan (λ p. p) within ∙ sym at in
    ap (λ (p : Plan). map (numbered_at net plans) (below i) ++ numbered_as net (i + 1) p ∷ []) (sym here) ∙ sym (numbered_more (numbered_at net plans) i)

-- the same, as a loop has it
pub plans_added : (net : Network) (plans : List Plan) (i epoch : ℕ) (plan : Plan) (all new : List NumberedPlan) (added : NumberedPlan) → i < length plans
    → plan ≡ get_or plans i plan
    → all ≡ map (numbered_at net plans) (below i) → epoch ≡ i → added ≡ numbered_as net (epoch + 1) plan → new ≡ all ++ added ∷ []
    → new ≡ map (numbered_at net plans) (below (i + 1))
plans_added net plans i epoch plan all new added within at kept same is pushed =
    pushed ∙ ap (λ (ns : List NumberedPlan). ns ++ added ∷ []) kept
    ∙ ap (λ (n : NumberedPlan). map (numbered_at net plans) (below i) ++ n ∷ []) (is ∙ ap (λ (k : ℕ). numbered_as net (k + 1) plan) same)
    ∙ plans_more net plans i plan within at
