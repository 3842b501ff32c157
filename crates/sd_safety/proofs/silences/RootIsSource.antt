-- A device that enters does not act, and one that emits keeps its plan.
use Rattle.std.specs.Prelude.{◌≡◌, true, false, refl}
use Rattle.sd_device.specs.Calls.{Call, Transition, Entered, Committed, Recommitted, Accepted, Moved, TookOver, Emitted, Nothing, Past}
use Rattle.sd_device.specs.Words.{transition_of, after, is_acting, epoch_now}
use Rattle.sd_safety.specs.messages.Moments.{is_emission}
use Rattle.sd_safety.specs.messages.Stamping.{enters}
use Rattle.sd_device.proofs.Reached.{added}

-- who enters does not act
pub entered_still : (past : Past) (call : Call) → enters (transition_of past call) ≡ true → is_acting (after past call) ≡ false
entered_still past call is = go (transition_of past call) is
  where
    go : (transition : Transition) → enters transition ≡ true → is_acting (added past call transition) ≡ false
    go (Entered duty edge) h = refl
    go (Committed duty) h = cc
    go (Recommitted duty) h = cc
    go (Accepted edge) h = cc
    go Moved h = cc
    go TookOver h = cc
    go Emitted h = cc
    go Nothing h = cc

-- an emission leaves the plan
pub emission_keeps : (past : Past) (call : Call) → is_emission (transition_of past call) ≡ true → epoch_now (after past call) ≡ epoch_now past
emission_keeps past call is = go (transition_of past call) is
  where
    go : (transition : Transition) → is_emission transition ≡ true → epoch_now (added past call transition) ≡ epoch_now past
    go Emitted h = refl
    go TookOver h = refl
    go (Entered duty edge) h = cc
    go (Committed duty) h = cc
    go (Recommitted duty) h = cc
    go (Accepted edge) h = cc
    go Moved h = cc
    go Nothing h = cc
