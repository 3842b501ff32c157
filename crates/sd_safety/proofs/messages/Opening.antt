-- What does not fail stays, and a device that sends fails nothing.
use Rattle.std.specs.Prelude.{◌≡◌, ℕ, Bool, true, false, List, Some, None, refl, if◌then◌else◌}
use Rattle.std.proofs.Common.{sym, ◌∙◌, ap}
use Rattle.sd_num.specs.Lists.{map_or}
use Rattle.sd_plan.specs.declared.topo.Thing.{Thing}
use Rattle.sd_device.specs.declared.msg.Message.{Message}
use Rattle.sd_device.specs.Calls.{Call}
use Rattle.sd_sched.specs.declared.Event.{Event}
use Rattle.sd_sched.specs.declared.Event.TheVariants as event
use Rattle.sd_history.specs.Things.{failure_of}
use Rattle.sd_history.specs.World.{Setting, fails, is_thing}
use Rattle.sd_history.specs.Steps.{Calls, Step, act_by}
use Rattle.sd_safety.specs.messages.Moments.{IsChronicle, Moment, upto, Sends}

pub up_stays_by : (m f up : Bool) → f ≡ false → up ≡ true → map_or (if m then Some true else if f then Some false else None) up (λ told. told) ≡ true
up_stays_by true f up none is = refl
up_stays_by false false up none is = is
up_stays_by false true up none is = cc

-- an event that calls a device fails nothing
call_fails : (setting : Setting) (earlier : List Step) (e : Event) (d : ℕ) (call : Call) → act_by setting earlier e ≡ Calls d call → failure_of e ≡ None
call_fails setting earlier (event.FailDevice r v) d call acts = cc
call_fails setting earlier (event.FailLink r k) d call acts = cc
call_fails setting earlier _ d call acts = refl

pub sending_fails_not : (setting : Setting) (p : Moment) (x : ℕ) (m : Message) (y : Thing) → IsChronicle setting (upto p) → Sends p x m
    → fails y p.step.seen.event ≡ false
sending_fails_not setting p x m y is sends =
    ap (λ o. is_thing o y) (call_fails setting p.earlier p.step.seen.event x sends.call (sym (ap (λ s. s.act) is.1) ∙ sends.act))
