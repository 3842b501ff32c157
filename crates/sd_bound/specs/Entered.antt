-- What an onlooker takes for entered is the device's own plan.
use Rattle.std.specs.Prelude.{◌≡◌, ℕ, Bool, true, ◌||◌, not, List, IsTrue}
use Rattle.std.specs.List.{list_all}
use Rattle.sd_num.specs.Lists.{map_or, same_number}
use Rattle.sd_plan.specs.Plans.{members}
use Rattle.sd_sched.specs.Events.{is_seal}
use Rattle.sd_history.specs.World.{Setting, Seen, is_up, window_is_open, staged, staged_epoch, has_entered}
use Rattle.sd_history.specs.Steps.{Step, seen_of, epoch_in}
use Rattle.sd_history.specs.Premises.{has_seal, seals_orderly}

-- while a window is open, a device that is up has entered the staged plan, as an onlooker sees it, exactly where the plan that the device tells as its own
-- has the staged number
abbrev pub EnteredIsOwn : List Step → Type 0
EnteredIsOwn steps =
    IsTrue (window_is_open (seen_of steps)) → (d : ℕ) → IsTrue (is_up (seen_of steps) d)
    → has_entered (seen_of steps) d ≡ same_number (epoch_in steps d) (staged_epoch (seen_of steps))

-- at the first seal of a window each member of the staged plan that is up tells the staged number as its own
abbrev pub seals_with_own : Setting → Seen → List Step → Bool
seals_with_own setting s steps =
    not (is_seal s.event) || has_seal (seen_of steps)
    || map_or (staged setting (seen_of steps)) true (λ plan.
    list_all (λ d. not (is_up (seen_of steps) d) || same_number (epoch_in steps d) (staged_epoch (seen_of steps))) (members setting.net plan))

-- so this is what the premise on renewals asks of a seal
abbrev pub SealsAreOfOwn : Setting → List Step → Type 0
SealsAreOfOwn setting steps = (s : Seen) → seals_orderly setting s (seen_of steps) ≡ seals_with_own setting s steps
