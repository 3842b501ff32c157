-- Accepted steps, whatever the devices are: the steps of every run of a fleet are such, and so is every chronicle of a history. What holds of
-- them holds of a fleet of any kind of node.
use Rattle.std.specs.Prelude.{◌≡◌, List, [], ◌∷◌, None}
use Rattle.sd_history.specs.World.{Setting}
use Rattle.sd_history.specs.Steps.{Step, step_of}
use Rattle.sd_history.specs.Refusals.{refusal}

-- each event is accepted after those before it, and its step is made of the event and of what its device told
abbrev pub AreSteps : Setting → List Step → Type 0
AreSteps setting [] = Unit {0}
AreSteps setting (s ∷ earlier) =
    AreSteps setting earlier × (refusal setting earlier s.seen.event ≡ None) × (s ≡ step_of setting earlier s.seen.event s.told)
