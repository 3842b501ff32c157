-- The order of stamps, how a past goes on by calls, and where the stamp of a device came from.
use Rattle.std.specs.Prelude.{◌≡◌, ℕ, ◌+◌, ◌<◌, ◌≤◌, Bool, true, false, List, [], ◌∷◌, nat_eq, Some, ◌⊎◌, if◌then◌else◌}
use Rattle.sd_plan.specs.declared.Duty.{Duty}
use Rattle.sd_device.specs.declared.msg.Stamp.{Stamp}
use Rattle.sd_device.specs.declared.msg.Message.{Message}
use Rattle.sd_device.specs.msg.Stamps.{stamp}
use Rattle.sd_device.specs.Calls.{Call, Commit, Transition, Entered, Committed, CallDone, Past}
use Rattle.sd_device.specs.Words.{transition_of, after, stamp_now, epoch_now, is_acting}
use Rattle.sd_history.specs.Steps.{Act, Makes, Step, Calls}
use Rattle.sd_history.specs.Chronicle.{past_in}
use Rattle.sd_safety.specs.messages.Moments.{Moment, IsIn, Sends, is_emission}

-- a comes before b: by term, then by round
abbrev pub IsOlder : Stamp → Stamp → Type 0
IsOlder a b = (a.term < b.term) ⊎ (a.term ≡ b.term) × (a.round < b.round)

-- or they are equal
abbrev pub IsUpTo : Stamp → Stamp → Type 0
IsUpTo a b = (a.term < b.term) ⊎ (a.term ≡ b.term) × (a.round ≤ b.round)

-- the past goes on to another by calls that are all of this kind
pub data GoesOn (kind : Past → Call → Type 0) (p : Past) : Past → Type 0 where
  stays : GoesOn kind p p
  calls : {q : Past} → GoesOn kind p q → (call : Call) → kind q call → GoesOn kind p (after q call)

-- the act makes the device anew
abbrev pub remakes : ℕ → Act → Bool
remakes d (Makes m making) = nat_eq m d
remakes d _ = false

-- the call is an entering receipt
abbrev pub enters : Transition → Bool
enters (Entered duty edge) = true
enters _ = false

-- it is none
abbrev pub EntersNot : Past → Call → Type 0
EntersNot past call = enters (transition_of past call) ≡ false

-- how many of these calls emitted
abbrev pub emissions : List CallDone → ℕ
emissions [] = 0
emissions (x ∷ earlier) = if is_emission x.transition then emissions earlier + 1 else emissions earlier

-- where the stamp of a device came from: it was not set since its making; or the device sent a message with it, of the epoch that it is in
-- unless it acts; or a commit that made it act set it
pub data StampFrom (steps : List Step) (d : ℕ) (past : Past) : Type 0 where
  unset : stamp_now past ≡ stamp 0 0 → StampFrom steps d past
  sent : (p : Moment) → IsIn p steps → (m : Message) → Sends p d m → m.stamp ≡ stamp_now past → (m.epoch ≡ epoch_now past) ⊎ (is_acting past ≡ true)
      → StampFrom steps d past
  committed : (p : Moment) → IsIn p steps → (before : Past) (counter : ℕ) (duty : Duty) → past_in p.earlier d ≡ Some before
      → p.step.act ≡ Calls d (Commit counter)
      → transition_of before (Commit counter) ≡ Committed duty → StampFrom steps d past
