-- What holds of all later events after a schedule and an opening that stands for it.
use Rattle.std.specs.Prelude.{◌≡◌, List, ◌++◌, map}
use Rattle.sd_plan.specs.topo.Network.{Network}
use Rattle.sd_plan.specs.declared.Plan.{Plan}
use Rattle.sd_sched.specs.declared.Event.{Event}
use Rattle.sd_history.specs.Chronicle.{IsHistory}
use Rattle.sd_resume.specs.law.Shifts.{Shift, raised_event}
use Rattle.sd_resume.specs.law.Law.{whole, GoesOnAs}

-- Later events are as of the opening: in the first, the messages that they name have higher numbers. The first goes on as the opening does, and nothing else
-- is accepted after it.
pub record GoOnAlike (shift : Shift) (net : Network) (front plans : List Plan) (one other : List Event) : Type 0 where
  pub goes : GoesOnAs shift net front plans one other
  pub raised : (later : List Event) → IsHistory (whole net front plans) (later ++ one)
      → (behind : List Event) × (map (raised_event shift) behind ≡ later)
