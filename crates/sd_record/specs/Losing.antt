-- Which message is lost next: nobody has received it, and nobody can any more.
use Rattle.std.specs.Prelude.{ℕ, Bool, List, [], ◌∷◌, filter, nat_lt, Option, Some, None, if◌then◌else◌}
use Rattle.sd_device.specs.declared.msg.Flight.{Flight}
use Rattle.sd_history.specs.Steps.{Step}
use Rattle.sd_history.specs.Open.{unspent}
use Rattle.sd_record.specs.declared.endings.Ending.{Ending}

-- the message can be received no more at this reference
abbrev pub is_past : ℕ → Flight → Bool
is_past reference f = nat_lt f.last reference

-- the sooner of two endings, and the first where both come at once
abbrev pub sooner : Option Ending → (last number : ℕ) → Option Ending
sooner None last number = Some (record { last = last; number = number })
sooner (Some best) last number = if nat_lt last best.last then Some (record { last = last; number = number }) else Some best

-- the soonest ending of these messages and of the one before them
abbrev pub soonest : Option Ending → List Flight → Option Ending
soonest best [] = best
soonest best (f ∷ fs) = soonest (sooner best f.last f.number) fs

-- the soonest ending, before an event at this reference, of a message that is still on its way
abbrev pub next_lost : (reference : ℕ) → List Step → Option Ending
next_lost reference steps = soonest None (filter (is_past reference) (unspent steps 0))
