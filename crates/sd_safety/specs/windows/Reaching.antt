-- How far epochs reach: before a commit nothing is of a later epoch than the era, after it nothing of a later one than the staged.
use Rattle.std.specs.Prelude.{◌≡◌, ℕ, ◌+◌, ◌≤◌, Bool, List, Some, if◌then◌else◌}
use Rattle.sd_device.specs.declared.msg.Flight.{Flight}
use Rattle.sd_device.specs.Calls.{Past}
use Rattle.sd_device.specs.Words.{epoch_now}
use Rattle.sd_history.specs.World.{has_commit}
use Rattle.sd_history.specs.Steps.{Step, seen_of, flights}
use Rattle.sd_history.specs.Chronicle.{past_in}
use Rattle.sd_history.proofs.Among.{Among}
use Rattle.sd_safety.specs.invariant.Eras.{era}

-- the greatest epoch there may be: after a commit one more than the era
abbrev pub reach_of : Bool → ℕ → ℕ
reach_of commit n = if commit then n + 1 else n

-- the latest epoch of which something may be
abbrev pub reach : List Step → ℕ
reach steps = reach_of (has_commit (seen_of steps)) (era steps)

-- no device and no message is of a later one
pub record IsWithin (steps : List Step) : Type 0 where
  pub epochs : (d : ℕ) (past : Past) → past_in steps d ≡ Some past → epoch_now past ≤ reach steps
  pub messages : (f : Flight) → Among f (flights steps) → f.message.epoch ≤ reach steps
