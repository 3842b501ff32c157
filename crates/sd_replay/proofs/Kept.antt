-- What is promised of reports is kept: by each history, and by each replay of devices.
use Rattle.std.specs.Prelude.{◌≡◌, true, List, [], ◌∷◌, IfSome, IsTrue, Option, Some, None, Result, Ok, Err, refl}
use Rattle.std.specs.List.{list_all}
use Rattle.std.proofs.Common.{sym, ap, ◌∙◌, subst, arith}
use Rattle.sd_num.specs.clock.Estimates.{contains}
use Rattle.sd_device.specs.declared.msg.observer.Observer as observers
use Rattle.sd_device.specs.declared.registers.Registers.{Registers}
use Rattle.sd_device.specs.contracts.device.DeviceNode.TheImpl.{ghosts}
use Rattle.sd_device.specs.declared.node.Node.{Ghosts}
use Rattle.sd_device.specs.Living.{Life}
use Rattle.sd_device.specs.Exact.{IsExact}
use Rattle.sd_device.proofs.Exactness.{device_is_exact}
use Rattle.sd_sched.specs.declared.Event.{Event}
use Rattle.sd_history.specs.World.{Setting}
use Rattle.sd_history.specs.declared.ApplyFault.{ApplyFault}
use Rattle.sd_history.specs.Steps.{Step, seen_of, events_of}
use Rattle.sd_history.specs.Nodes.{steps_of}
use Rattle.sd_history.specs.Chronicle.{chronicle, IsHistory}
use Rattle.sd_history.specs.Premises.{breaks, is_honest}
use Rattle.sd_history.specs.Lines.{reports}
use Rattle.sd_history.proofs.Contained as contained
use Rattle.sd_history.proofs.Exactness.{exact_run, exact_history}
use Rattle.sd_replay.specs.Promises.{ReportsContain}
use Rattle.sd_replay.specs.Tallies.{lines_that}
use Rattle.sd_replay.specs.declared.faults.ReplayFault.{ReplayFault}
use Rattle.sd_replay.specs.declared.faults.ReplayFault.TheVariants as fault
use Rattle.sd_replay.specs.declared.replay.Replay.{Replay}
use Rattle.sd_replay.specs.Replaying.{IsStepped}
use Rattle.sd_replay.specs.Devices.{HasReplayed, NodesKeepChronicle, is_miss, AllContain, NodesContain}
use Rattle.sd_replay.proofs.Due.{four_parts, none_broken, no_interval, reports_before, all_contain}

pub reports_contain : (setting : Setting) → ReportsContain setting
reports_contain setting = contained.reports_contain setting

-- Lines of reports that contain

none_misses : (setting : Setting) (steps : List Step) → all_contain (reports steps) ≡ true → lines_that is_miss setting steps ≡ 0
none_misses setting [] all = refl
none_misses setting (s ∷ earlier) all =
    let before = none_misses setting earlier (reports_before setting s earlier all) in
    let parts = four_parts setting s earlier is_miss in
    let premises = none_broken is_miss (λ p. refl) (breaks setting (seen_of (s ∷ earlier))) in
    let others = no_interval setting s earlier all in
    omega (arith, before, parts, premises, others)

-- Replays of exact nodes

pub nodes_keep_chronicle : {N V : Type 0} {g : Ghosts N} {stands : N → Life → Type 0} → IsExact g stands → (o : observers.Ghosts V) → NodesKeepChronicle g o
nodes_keep_chronicle exact o replay setting events replayed =
    record {
      history = subst (IsHistory setting) replayed.happened (exact_history exact setting replayed.run replayed.stands.made.is_run);
      chronicle = exact_run exact setting replayed.run replayed.stands.made.is_run ∙ ap (chronicle setting) replayed.happened;
    }

pub devices_keep_chronicle : {V : Type 0} (o : observers.Ghosts V) → NodesKeepChronicle ghosts o
devices_keep_chronicle = nodes_keep_chronicle device_is_exact

-- an event that was accepted goes on with the events
pub replayed_next : {V : Type 0} (o : observers.Ghosts V) (old new : Replay Registers V ghosts o) (setting : Setting) (events : List Event) (e : Event)
    (replayed : HasReplayed o old setting events)
    → IsStepped ghosts o new setting replayed.run e → HasReplayed o new setting (e ∷ events)
replayed_next o old new setting events e replayed stepped =
    record {
      run = stepped.next ∷ replayed.run;
      stands = stepped.stands;
      happened = ap (λ (x : Event). x ∷ events_of (steps_of replayed.run)) stepped.happens ∙ ap (λ xs. e ∷ xs) replayed.happened;
    }

-- what went on was not refused
pub went_on : (result : Result (Unit {0}) ReplayFault) (u : Unit {0}) (why : ReplayFault) → result ≡ Ok u → result ≡ Err why → ⊥
went_on (Ok u) v why went refused = cc
went_on (Err w) v why went refused = cc

pub not_refused : (r : Option ApplyFault) (result : Result (Unit {0}) ReplayFault) (u : Unit {0}) → result ≡ Ok u → IfSome r (λ why. result ≡ Err (fault.Apply why))
    → r ≡ None
not_refused None result u went refused = refl
not_refused (Some why) result u went refused = absurd (went_on result u (fault.Apply why) went refused)

-- steps whose reports contain their references have no line that says otherwise
contain : (setting : Setting) (steps : List Step) → IsTrue (list_all (λ r. contains r.report r.reference) (reports steps)) → AllContain setting steps
contain setting steps all = record { reports_contain = all; no_miss = none_misses setting steps all }

pub nodes_contain : {N V : Type 0} {g : Ghosts N} {stands : N → Life → Type 0} → IsExact g stands → (o : observers.Ghosts V) → NodesContain g o
nodes_contain exact o replay setting run stands honest =
    let same : steps_of run ≡ chronicle setting (events_of (steps_of run)) = exact_run exact setting run stands.made.is_run in
    contain setting (steps_of run)
    (subst (λ steps. IsTrue (all_contain (reports steps))) (sym same)
    (reports_contain setting (events_of (steps_of run)) (exact_history exact setting run stands.made.is_run)
    (subst (λ steps. IsTrue (is_honest setting (seen_of steps))) same honest)))
