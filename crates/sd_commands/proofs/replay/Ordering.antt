-- The device of the latest report, and the lines of commit wait that bear its name.
use Rattle.std.proofs.Common.{◌≡◌, ℕ, ◌-◌, ◌<◌, List, [], Option, Some, None, sym, ap, ◌∙◌, subst, length}
use Rattle.std.proofs.Props.{props}
use Rattle.std.proofs.Math.Logic.{∥∥₁_elim}
use Rattle.sd_num.specs.Lists.{map_or}
use Rattle.sd_plan.specs.topo.Network.{Network, device_names, name_at}
use Rattle.sd_device.specs.declared.registers.Registers.{Registers}
use Rattle.sd_device.specs.contracts.device.DeviceNode.TheImpl.{ghosts as device}
use Rattle.sd_device.specs.msg.Observed.{ReportAt}
use Rattle.sd_sched.specs.declared.Event.{Event}
use Rattle.sd_history.specs.World.{Setting}
use Rattle.sd_history.specs.Steps.{Step}
use Rattle.sd_history.specs.Chronicle.{chronicle}
use Rattle.sd_history.specs.Nodes.{NodeStep, steps_of}
use Rattle.sd_history.specs.Lines.{reports}
use Rattle.sd_history.specs.Text.{device_name}
use Rattle.sd_history.proofs.Accepting.{run_is_accepted}
use Rattle.sd_replay.specs.declared.replay.Replay.{Replay}
use Rattle.sd_replay.specs.Devices.{HasReplayed}
use Rattle.sd_replay.specs.Replaying.{StandsFor as StandsForRun}
use Rattle.sd_replay.specs.Standing.{HasRun}
use Rattle.sd_replay.specs.wait.Printed.{bytes_at}
use Rattle.sd_replay.specs.wait.Standing.{StandsFor}
use Rattle.sd_commands.specs.replay.Telling.{latest_device, latest_name, latest_waits}
use Rattle.sd_commands.specs.contracts.replay.observer.WaitObserverObserver.TheImpl.{ghosts}
use Rattle.sd_commands.specs.declared.replay.observer.WaitObserver.{WaitObserver}
use Rattle.sd_commands.proofs.replay.Reporting.{latest_known}
use Rattle.sd_commands.proofs.replay.Stepping.{chronicled}

module _ (replay : Replay Registers WaitObserver device ghosts) (observer : WaitObserver) (same : observer ≡ replay.observer) (net : Network)
    (net_is : (s : Setting) (run : List (NodeStep Registers)) → StandsForRun device ghosts replay s run → net ≡ s.net) where
  -- it is one of the topology's
  pub name_known : (d : ℕ) → observer.device ≡ Some d → ∥ HasRun device ghosts replay.fleet replay.monitors replay.event_output replay.observer ∥₁
      → d < length net.devices
  name_known d is there = ∥∥₁_elim there (search props) known
    where
      known : HasRun device ghosts replay.fleet replay.monitors replay.event_output replay.observer → d < length net.devices
      known has =
          let latest : latest_device (reports (steps_of has.steps)) ≡ Some d = sym has.stands.told.device ∙ ap (λ (w : WaitObserver). w.device) (sym same) ∙ is in
          subst (λ (n : Network). d < length n.devices) (sym (net_is has.setting has.steps has.stands))
          (latest_known has.setting (steps_of has.steps) d (run_is_accepted device has.setting has.steps has.stands.made.is_run) latest)

  -- and so its name is that of the latest report
  pub named : (d : ℕ) (name : List ℕ) → observer.device ≡ Some d → name ≡ name_at (device_names net) d → (setting : Setting) (events : List Event)
      → HasReplayed ghosts replay setting events
      → name ≡ latest_name setting.net (reports (chronicle setting events))
  named d name is called setting events replayed =
      let steps : steps_of replayed.run ≡ chronicle setting events = chronicled ghosts setting events replay replayed in
      let latest : latest_device (reports (chronicle setting events)) ≡ Some d =
      subst (λ (ss : List Step). latest_device (reports ss) ≡ Some d) steps
      (sym replayed.stands.told.device ∙ ap (λ (w : WaitObserver). w.device) (sym same) ∙ is) in
      called ∙ ap (λ (n : Network). device_name n d) (net_is setting replayed.run replayed.stands)
      ∙ ap (λ (o : Option ℕ). map_or o [] (device_name setting.net)) (sym latest)

-- no report, no name
pub unnamed : (replay : Replay Registers WaitObserver device ghosts) (observer : WaitObserver) → observer ≡ replay.observer → (name : List ℕ) → observer.device ≡ None
    → name ≡ [] → (setting : Setting) (events : List Event) → HasReplayed ghosts replay setting events
    → name ≡ latest_name setting.net (reports (chronicle setting events))
unnamed replay observer same name is called setting events replayed =
    let steps : steps_of replayed.run ≡ chronicle setting events = chronicled ghosts setting events replay replayed in
    let latest : latest_device (reports (chronicle setting events)) ≡ None =
    subst (λ (ss : List Step). latest_device (reports ss) ≡ None) steps (sym replayed.stands.told.device ∙ ap (λ (w : WaitObserver). w.device) (sym same) ∙ is) in
    called ∙ ap (λ (o : Option ℕ). map_or o [] (device_name setting.net)) (sym latest)

-- what is said of the lines that bear the name is said of those of the latest report
pub waits_named : (Says : List ℕ → Type 0) (replay : Replay Registers WaitObserver device ghosts) (observer : WaitObserver)
    → observer ≡ replay.observer → (name : List ℕ)
    → ((told : List ReportAt) → StandsFor observer.waits told → Says (bytes_at told (length told - 1) name))
    → (setting : Setting) (events : List Event) → HasReplayed ghosts replay setting events
    → name ≡ latest_name setting.net (reports (chronicle setting events))
    → Says (latest_waits setting.net (reports (chronicle setting events)))
waits_named Says replay observer same name says setting events replayed called =
    let told : List ReportAt = reports (chronicle setting events) in
    let stands : StandsFor observer.waits told =
    subst (λ (w : WaitObserver). StandsFor w.waits told) (sym same)
    (subst (λ (ss : List Step). StandsFor replay.observer.waits (reports ss))
    (chronicled ghosts setting events replay replayed) replayed.stands.told.waits) in
    subst (λ (n : List ℕ). Says (bytes_at told (length told - 1) n)) called (says told stands)
