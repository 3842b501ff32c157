-- Histories of any length: what the rules admit, however many events came before. Of the causes of a refusal the number of events alone is left out.
-- A history, as a replay accepts it, is one of these with at most 2 ^ 26 events.
use Rattle.std.specs.Prelude.{Bool, true, false, ◌||◌, not, List, [], ◌∷◌, IsTrue}
use Rattle.std.specs.List.{list_all}
use Rattle.sd_device.specs.declared.node.Node.{Ghosts}
use Rattle.sd_sched.specs.declared.Event.{Event}
use Rattle.sd_history.specs.declared.ApplyFault.{ApplyFault}
use Rattle.sd_history.specs.declared.ApplyFault.TheVariants as fault
use Rattle.sd_history.specs.World.{Setting}
use Rattle.sd_history.specs.Steps.{Step}
use Rattle.sd_history.specs.Refusals.{causes}
use Rattle.sd_history.specs.Chronicle.{chronicle}
use Rattle.sd_history.specs.Nodes.{NodeStep, steps_of, Follows}

-- the cause is the number of events
abbrev pub is_count : ApplyFault → Bool
is_count fault.TooManyEvents = true
is_count _ = false

-- the rules admit the event after these steps: no cause of a refusal holds, but for the number of events
abbrev pub Admits : Setting → List Step → Event → Type 0
Admits setting steps e = IsTrue (list_all (λ cause. not cause.1 || is_count cause.0) (causes setting steps e))

-- a history of any length: the rules admit each event after those before it
abbrev pub IsAdmitted : Setting → List Event → Type 0
IsAdmitted setting [] = Unit {0}
IsAdmitted setting (e ∷ earlier) = IsAdmitted setting earlier × Admits setting (chronicle setting earlier) e

-- a run of any length of such a fleet: the rules admit each event after those before it, and it follows
abbrev pub IsAdmittedRun : {N : Type 0} (g : Ghosts N) → Setting → List (NodeStep N) → Type 0
IsAdmittedRun g setting [] = Unit {0}
IsAdmittedRun g setting (x ∷ earlier) =
    IsAdmittedRun g setting earlier × Admits setting (steps_of earlier) x.step.seen.event × Follows g setting earlier x
