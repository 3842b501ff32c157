-- An event that is tried is left out, or it happens.
use Rattle.std.specs.Prelude.{◌≡◌, ℕ, Bool, List, ◌∷◌, Some, None, refl}
use Rattle.std.proofs.Common.{ap, sym, ◌∙◌, subst}
use Rattle.sd_device.specs.declared.registers.Registers.{Registers}
use Rattle.sd_device.specs.contracts.device.DeviceNode.TheImpl.{ghosts as device}
use Rattle.sd_sched.specs.declared.Event.{Event}
use Rattle.sd_sched.specs.Events.{reference_of}
use Rattle.sd_history.specs.World.{Setting}
use Rattle.sd_history.specs.Steps.{Step, act_by, step_of, flight_count}
use Rattle.sd_history.specs.Chronicle.{told_by, next_step}
use Rattle.sd_history.specs.Refusals.{refusal}
use Rattle.sd_history.specs.Nodes.{NodeStep, IsRun, steps_of}
use Rattle.sd_history.specs.Accepted.{AreSteps}
use Rattle.sd_history.proofs.Devices.{devices_tell}
use Rattle.sd_history.proofs.Accepting.{run_is_accepted}
use Rattle.sd_fleet.specs.declared.Outcome.{Outcome}
use Rattle.sd_fleet.specs.Outcomes.{outcome_of}
use Rattle.sd_gen.specs.declared.driven.Driven.{Ghosts}
use Rattle.sd_gen.specs.declared.driver.Driver.{Driver}
use Rattle.sd_gen.specs.Drafts.{Draft, each, with_message, unless_refused, try}
use Rattle.sd_gen.specs.Driving.{Run, IsAccepted, IsRefused, IsOffered}
use Rattle.sd_gen.specs.Standing.{StandsTo, StandsFor}

-- the next step of a run of devices is that of the chronicle
next_is : (setting : Setting) (run : Run) (next : NodeStep Registers) → IsRun device setting (next ∷ run)
    → next.step ≡ next_step setting (steps_of run) next.step.seen.event
next_is setting run next is =
    let told : next.step.told ≡ told_by (steps_of run) next.step.act = (devices_tell setting (next ∷ run) is).1 in
    let act : next.step.act ≡ act_by setting (steps_of run) next.step.seen.event = ap (λ (s : Step). s.act) is.2.is in
    is.2.is ∙ ap (step_of setting (steps_of run) next.step.seen.event) (told ∙ ap (told_by (steps_of run)) act)

-- the draft where the event has happened, and what it sent does not wait yet
abbrev stepped : Setting → Event → Draft → Draft
stepped setting e x = record { rng = x.rng; leads = x.leads; steps = next_step setting x.steps e ∷ x.steps; waiting = x.waiting }

-- what was told of an event that was offered
pub known : {D : Type 0} (Stands : D → Setting → Run → Type 0) (driven : D) (setting : Setting) (run : Run) (e : Event) (outcome : Outcome) (accepted so : Bool)
    → accepted ≡ so
    → IsOffered Stands driven setting run e outcome accepted → IsOffered Stands driven setting run e outcome so
known Stands driven setting run e outcome accepted so same offered = subst (IsOffered Stands driven setting run e outcome) same offered

module _ {D : Type 0} (g : Ghosts D) where
  -- the steps of a draft for which a driver stands were accepted
  pub are_steps : (r : Driver D) (setting : Setting) (x : Draft) (top : ℕ) → StandsTo g r setting x top → AreSteps setting x.steps
  are_steps r setting x top stands = subst (AreSteps setting) stands.steps (run_is_accepted device setting stands.run stands.is_run)

  -- what is refused is left out
  pub left_out : (r : Driver D) (driven : D) (setting : Setting) (x : Draft) (e : Event) → StandsFor g r setting x
      → ((s : Setting) (run : Run) → g.stands r.driven s run → IsRefused g.stands driven s run e)
      → StandsFor g (record r { driven = driven }) setting (try setting e x)
  left_out r driven setting x e stands offered =
      let refused = offered setting stands.run stands.driven in
      let here : refusal setting x.steps e ≡ Some refused.why = subst (λ s. refusal setting s e ≡ Some refused.why) stands.steps refused.refused in
      subst (λ o. StandsFor g (record r { driven = driven }) setting (unless_refused setting o e x)) (sym here)
      (record {
        net = stands.net;
        run = stands.run;
        is_run = stands.is_run;
        driven = refused.stands;
        steps = stands.steps;
        rng = stands.rng;
        leads = stands.leads;
        arrivals = stands.arrivals;
      })

  record Happens (r : Driver D) (driven : D) (setting : Setting) (x : Draft) (e : Event) (outcome : Outcome) : Type 0 where
    stands : StandsTo g (record r { driven = driven }) setting (stepped setting e x) (flight_count x.steps)
    comes : outcome ≡ outcome_of (next_step setting x.steps e)
    free : refusal setting x.steps e ≡ None

  happens : (r : Driver D) (driven : D) (setting : Setting) (x : Draft) (e : Event) (outcome : Outcome) → StandsFor g r setting x
      → ((s : Setting) (run : Run) → g.stands r.driven s run → IsAccepted g.stands driven s run e outcome) → Happens r driven setting x e outcome
  happens r driven setting x e outcome stands offered =
      let it = offered setting stands.run stands.driven in
      let is : IsRun device setting (it.next ∷ stands.run) = it.is_run in
      let by_run : it.next.step ≡ next_step setting (steps_of stands.run) e =
      next_is setting stands.run it.next is ∙ ap (next_step setting (steps_of stands.run)) it.happens in
      let step : it.next.step ≡ next_step setting x.steps e = by_run ∙ ap (λ s. next_step setting s e) stands.steps in
      let free : refusal setting (steps_of stands.run) e ≡ None = ap (refusal setting (steps_of stands.run)) (sym it.happens) ∙ is.1 in
      record {
        stands =
            record {
              net = stands.net;
              run = it.next ∷ stands.run;
              is_run = is;
              driven = it.stands;
              steps = ap (λ s. s ∷ steps_of stands.run) step ∙ ap (λ s. next_step setting x.steps e ∷ s) stands.steps;
              rng = stands.rng;
              leads = stands.leads;
              arrivals = stands.arrivals;
            };
        comes = it.comes ∙ ap outcome_of step;
        free = subst (λ s. refusal setting s e ≡ None) stands.steps free;
      }

  -- what is accepted happens, and what it sends is posted
  pub tried : (r : Driver D) (driven : D) (new : Driver D) (setting : Setting) (x : Draft) (e : Event) (outcome : Outcome) → StandsFor g r setting x
      → ((s : Setting) (run : Run) → g.stands r.driven s run → IsAccepted g.stands driven s run e outcome)
      → ((y : Draft) (s : Step) (earlier : List Step) → y.steps ≡ s ∷ earlier → outcome ≡ outcome_of s → reference_of e ≡ reference_of s.seen.event
      → StandsTo g (record r { driven = driven }) setting y (flight_count earlier) → StandsFor g new setting (each with_message s.seen.sent y))
      → StandsFor g new setting (try setting e x)
  tried r driven new setting x e outcome stands offered posts =
      let it = happens r driven setting x e outcome stands offered in
      subst (λ o. StandsFor g new setting (unless_refused setting o e x)) (sym it.free)
      (posts (stepped setting e x) (next_step setting x.steps e) x.steps refl it.comes refl it.stands)
