-- Lists of plans that can be followed.
use Rattle.std.specs.Prelude.{◌≡◌, List, [], ◌∷◌, ◌++◌}
use Rattle.std.proofs.Common.{subst, sym}
use Rattle.sd_plan.specs.topo.Network.{Network}
use Rattle.sd_plan.specs.declared.Plan.{Plan}
use Rattle.sd_plan.proofs.Shared.{each_more}
use Rattle.sd_world.specs.membership.Plans.{IsFollowable, AreSound}
use Rattle.sd_fleet.proofs.Eaches.{each_joined}

-- the same list, as another name has it
pub followed_as : (net : Network) (plans same : List Plan) → same ≡ plans → AreSound net plans → AreSound net same
followed_as net plans same is sound = subst (AreSound net) (sym is) sound

-- and one more
pub followed_more : (net : Network) (plans more : List Plan) (plan : Plan) → more ≡ plans ++ plan ∷ [] → AreSound net plans → IsFollowable net plan
    → AreSound net more
followed_more net plans more plan is sound can =
    followed_as net (plans ++ plan ∷ []) more is
    (each_joined (IsFollowable net) plans (plan ∷ []) sound (each_more (IsFollowable net) plan [] can (λ i x at. cc)))
