-- What holds of each plan of a list that grows.
use Rattle.std.specs.Prelude.{◌≡◌, List, [], ◌∷◌, ◌++◌}
use Rattle.std.proofs.Common.{subst, sym}
use Rattle.sd_plan.specs.topo.Network.{Each}
use Rattle.sd_plan.specs.declared.Plan.{Plan}
use Rattle.sd_plan.proofs.Shared.{each_more}
use Rattle.sd_fleet.proofs.Eaches.{each_joined}

-- the same list, as another name has it
pub each_as : (P : Plan → Type 0) (plans same : List Plan) → same ≡ plans → Each P plans → Each P same
each_as P plans same is each = subst (Each P) (sym is) each

-- and one more
pub each_longer : (P : Plan → Type 0) (plans longer : List Plan) (plan : Plan) → longer ≡ plans ++ plan ∷ [] → Each P plans → P plan → Each P longer
each_longer P plans longer plan is each more =
    each_as P (plans ++ plan ∷ []) longer is (each_joined P plans (plan ∷ []) each (each_more P plan [] more (λ i x at. cc)))
