-- A walk whose hops have a property has each weaker one, and an event as a moment.
use Rattle.std.specs.Prelude.{ℕ, List, [], ◌∷◌}
use Rattle.sd_plan.specs.declared.Hop.{Hop}
use Rattle.sd_plan.specs.declared.Plan.{Plan}
use Rattle.sd_sched.specs.declared.Event.{Event}
use Rattle.sd_history.specs.World.{Setting}
use Rattle.sd_history.specs.Chronicle.{chronicle, next_step}
use Rattle.sd_safety.specs.messages.Moments.{Moment}
use Rattle.sd_safety.proofs.silences.WalkWays.{Walks, over, walks}

pub map_walks : (plan : Plan) (P Q : ℕ → Hop → Type 0) → ((y : ℕ) (hop : Hop) → P y hop → Q y hop) → (hs : List Hop) (y : ℕ) → Walks plan P y hs
    → Walks plan Q y hs
map_walks plan P Q f [] y over = over
map_walks plan P Q f (hop ∷ hs) y (walks one rest) = walks (f y hop one) (map_walks plan P Q f hs hop.parent rest)

-- the event as a moment
abbrev pub top_of : Setting → List Event → Event → Moment
top_of setting history e = record { step = next_step setting (chronicle setting history) e; earlier = chronicle setting history }
