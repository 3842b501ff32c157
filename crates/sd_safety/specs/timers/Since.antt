-- Earlier states in a list of steps: its tails, the tails since a device's entry, and a tick in a span of references.
use Rattle.std.specs.Prelude.{◌≡◌, ℕ, Bool, false, ◌&&◌, List, ◌∷◌, nat_eq, Option, Some, is_some}
use Rattle.sd_num.specs.Lists.{map_or}
use Rattle.sd_device.specs.Calls.{Call, CallDone, Past}
use Rattle.sd_device.specs.Words.{transition_of, taken_up}
use Rattle.sd_history.specs.Steps.{Act, Makes, Calls, Asks, Passes, Step}
use Rattle.sd_history.specs.Chronicle.{past_in}
use Rattle.sd_safety.specs.timers.Times.{did_by}

-- the act makes the device, or has it take up a duty
abbrev pub enters_by : Act → ℕ → Option Past → Bool
enters_by (Makes m making) d past = nat_eq m d
enters_by (Calls m call) d past = nat_eq m d && map_or past false (λ p. is_some (taken_up (transition_of p call)))
enters_by (Asks m counter) d past = false
enters_by Passes d past = false

-- older is a tail since which the device has kept its entry
pub data SameEntry (d : ℕ) (older : List Step) : List Step → Type 0 where
  at_once : SameEntry d older older
  goes_on : {s : Step} {steps : List Step} → enters_by s.act d (past_in steps d) ≡ false → SameEntry d older steps → SameEntry d older (s ∷ steps)

-- at this step the device was called, and f tells something of it
pub record IsMarked (f : CallDone → Option ℕ) (s : Step) (earlier : List Step) (d : ℕ) : Type 0 where
  pub call : Call
  pub past : Past
  pub counter : ℕ
  pub act : s.act ≡ Calls d call
  pub there : past_in earlier d ≡ Some past
  pub told : f (did_by past call) ≡ Some counter

-- the act makes the device, or f tells something of its call
abbrev pub marks_by : (CallDone → Option ℕ) → Act → ℕ → Option Past → Bool
marks_by f (Makes m making) d past = nat_eq m d
marks_by f (Calls m call) d past = nat_eq m d && map_or past false (λ p. is_some (f (did_by p call)))
marks_by f (Asks m counter) d past = false
marks_by f Passes d past = false

-- older is a tail since which the device was not made, and f told nothing of its calls
pub data Unmarked (f : CallDone → Option ℕ) (d : ℕ) (older : List Step) : List Step → Type 0 where
  no_step : Unmarked f d older older
  one_step : {s : Step} {steps : List Step} → marks_by f s.act d (past_in steps d) ≡ false → Unmarked f d older steps → Unmarked f d older (s ∷ steps)
