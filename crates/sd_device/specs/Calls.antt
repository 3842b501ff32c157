-- The calls of one device.
use Rattle.std.specs.Prelude.{ℕ, List}
use Rattle.sd_num.specs.declared.Rates.{Rates}
use Rattle.sd_plan.specs.declared.Duty.{Duty}
use Rattle.sd_plan.specs.declared.Edge.{Edge}
use Rattle.sd_device.specs.declared.msg.Message.{Message}

-- how a device is made: with a duty, or without one while a new plan is brought in; then its counter, and the clock and its uncertainty
pub data Making : Type 0 where
  Started : Duty → (counter clock eps : ℕ) → Making
  Joined : Rates → (counter clock eps : ℕ) → Making

-- a call of a device that is made
pub data Call : Type 0 where
  Tick : (counter : ℕ) → Call
  Receive : (link : ℕ) → Message → (counter : ℕ) → Call
  Fix : (counter clock eps : ℕ) → Call
  Give : Duty → Call
  Commit : (counter : ℕ) → Call
  Seal : Call

-- what a call did
pub data Transition : Type 0 where
  -- it took up the duty that was given to it, by a message over this edge, the duty's primary one
  Entered : Duty → Edge → Transition
  -- it took up the duty that was given to it and began to act as root
  Committed : Duty → Transition
  -- it took up the duty that was given to it and acted as root already
  Recommitted : Duty → Transition
  -- it accepted a message over this edge to its parent
  Accepted : Edge → Transition
  -- it moved to its backup parent
  Moved : Transition
  -- it began to act as root after the root fell silent, and sent a message
  TookOver : Transition
  -- it sent a message as the acting root that it was
  Emitted : Transition
  -- none of these
  Nothing : Transition

-- a call with what it did
pub record CallDone : Type 0 where
  pub call : Call
  pub transition : Transition

-- the life of a device with what each call did, the newest first
pub record Past : Type 0 where
  pub making : Making
  pub did : List CallDone
