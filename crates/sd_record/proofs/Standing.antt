-- For which history a recorder stands.
use Rattle.std.specs.Prelude.{◌≡◌, ℕ, ◌<◌, ◌≤◌, ◌^◌, List, Result, Err}
use Rattle.std.proofs.Common.{arith, sym, ◌∙◌, ap, subst, Vec, Global}
use Rattle.sd_device.specs.declared.msg.Flight.{Flight}
use Rattle.sd_device.specs.declared.msg.TakeFault.{TakeFault}
use Rattle.sd_device.specs.declared.msg.TakeFault.TheVariants as fault
use Rattle.sd_device.specs.contracts.device.DeviceNode.TheImpl.{ghosts as device}
use Rattle.sd_device.specs.declared.registers.Registers.{Registers}
use Rattle.sd_sched.specs.declared.Event.{Event}
use Rattle.sd_history.specs.World.{Setting}
use Rattle.sd_history.specs.Steps.{Step, flight_count}
use Rattle.sd_history.specs.Accepted.{AreSteps}
use Rattle.sd_history.specs.Chronicle.{chronicle, IsHistory}
use Rattle.sd_history.specs.Nodes.{NodeStep, steps_of}
use Rattle.sd_history.specs.flights.Flights.{look_in}
use Rattle.sd_history.proofs.Accepting.{run_is_accepted}
use Rattle.sd_history.proofs.Devices.{devices_run, devices_have_history}
use Rattle.sd_history.proofs.flights.Counts.{numbers_few}
use Rattle.sd_fleet.specs.Standing as fleets
use Rattle.sd_fleet.specs.declared.fleet.Fleet.{Fleet}
use Rattle.sd_record.specs.Standing.{Keeps, StandsFor}
use Rattle.sd_record.specs.declared.recorder.Recorder.{Recorder}
use Rattle.sd_record.proofs.Members.{too_great}

module _ (r : Recorder) (setting : Setting) (events : List Event) (h : StandsFor r setting events) where
  -- the steps of its run are the chronicle of the events
  pub steps_are : steps_of h.run ≡ chronicle setting events
  steps_are = devices_run setting h.run h.fleet.is_run ∙ ap (chronicle setting) h.happened

  pub are_steps : AreSteps setting (chronicle setting events)
  are_steps = subst (AreSteps setting) steps_are (run_is_accepted device setting h.run h.fleet.is_run)

  -- each event was accepted after those before it
  pub is_history : IsHistory setting events
  is_history = subst (IsHistory setting) h.happened (devices_have_history setting h.run h.fleet.is_run)

  -- what it keeps is right after these events
  pub keeps_is : Keeps r (chronicle setting events)
  keeps_is = subst (Keeps r) steps_are h.keeps

  pub few : flight_count (chronicle setting events) ≤ 2 ^ 41
  few = numbers_few setting (chronicle setting events) are_steps (omega (arith, h.net.links))

  -- what its fleet finds under a number
  pub looked : (number : ℕ) (found : Result Flight TakeFault)
      → ((s : Setting) (run : List (NodeStep Registers)) → fleets.StandsFor device r.fleet s run → found ≡ look_in (steps_of run) number)
      → found ≡ look_in (chronicle setting events) number
  looked number found told = told setting h.run h.fleet ∙ ap (λ (s : List Step). look_in s number) steps_are

  -- nothing is found under a number that is greater than any schedule has
  pub none_so_great : (number : ℕ) → 2 ^ 60 < number → Err fault.Unknown ≡ look_in (chronicle setting events) number
  none_so_great number great =
      let most = few in too_great setting (chronicle setting events) number are_steps (omega (arith, most, great))

  -- one with the same fleet, of which what it keeps is right, stands for the same
  pub stands_on : (new : Recorder) → new.fleet ≡ r.fleet → Keeps new (chronicle setting events) → StandsFor new setting events
  stands_on new same keeps =
      record {
        net = h.net;
        run = h.run;
        fleet = subst (λ (f : Fleet Registers device). fleets.StandsFor device f setting h.run) (sym same) h.fleet;
        happened = h.happened;
        keeps = subst (Keeps new) (sym steps_are) keeps;
      }

-- it stands for the same, whatever text it has
pub with_text : (r : Recorder) (setting : Setting) (events : List Event) (text : Vec ℕ Global) → StandsFor r setting events
    → StandsFor (record r { text = text }) setting events
with_text r setting events text h =
    let k = h.keeps in
    record {
      net = h.net;
      run = h.run;
      fleet = h.fleet;
      happened = h.happened;
      keeps = record { looked = k.looked; listed = k.listed; named = k.named; sent = k.sent; ended = k.ended };
    }
