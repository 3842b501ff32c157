-- For which runs a replay stands at first, and how it goes on.
use Rattle.std.specs.Prelude.{◌≡◌, ◌≤◌, false, List, [], length, slice_get, Some}
use Rattle.std.proofs.Common.{sym, ◌∙◌, subst}
use Rattle.sd_plan.specs.topo.Network.{Network, Each}
use Rattle.sd_plan.specs.topo.Limits.{IsNetwork}
use Rattle.sd_plan.specs.topo.Topologies.{network}
use Rattle.sd_plan.specs.declared.topo.topology.Topology.{Topology}
use Rattle.sd_plan.specs.declared.Plan.{Plan}
use Rattle.sd_plan.specs.Plans.{Fits}
use Rattle.sd_checker.specs.Conditions.{IsAccepted}
use Rattle.sd_device.specs.declared.node.Node.{Ghosts}
use Rattle.sd_device.specs.msg.Observed.{ReportAt}
use Rattle.sd_device.specs.declared.msg.observer.Observer as observers
use Rattle.sd_history.specs.World.{Setting}
use Rattle.sd_history.specs.Steps.{Step}
use Rattle.sd_history.specs.Nodes.{NodeStep, steps_of}
use Rattle.sd_history.specs.Lines.{reports}
use Rattle.sd_world.specs.membership.Plans.{AreSound}
use Rattle.sd_fleet.specs.declared.fleet.Fleet.{Fleet}
use Rattle.sd_fleet.specs.Standing as fleets
use Rattle.sd_replay.specs.lines.Printed.{printed}
use Rattle.sd_replay.specs.declared.monitors.Monitors.{Monitors}
use Rattle.sd_replay.specs.declared.event_output.EventOutput.{EventOutput}
use Rattle.sd_replay.specs.Counting.{no_tally}
use Rattle.sd_replay.specs.Standing.{HasSeen, HasPrinted, Stands, HasRun}

-- plans that are accepted can be followed
pub are_sound : (net : Network) (plans given : List Plan) → given ≡ plans → Each (Fits net) plans → Each (IsAccepted net) plans → AreSound net given
are_sound net plans given same fit accepted =
    λ i plan at. let there = subst (λ ps. slice_get ps i ≡ Some plan) same at in
    record { fits = fit i plan there; structured = (accepted i plan there).structure }

-- Before any event

pub first_stands : {N V : Type 0} (g : Ghosts N) (o : observers.Ghosts V) (topo : Topology) (plans : List Plan) (fleet : Fleet N g) (monitors : Monitors)
    (event_output : EventOutput) (observer : V) (setting : Setting)
    → setting.net ≡ network topo → setting.plans ≡ plans → 1 ≤ length plans → Each (Fits (network topo)) plans → Each (IsAccepted (network topo)) plans
    → fleets.StandsFor g fleet setting [] → HasSeen monitors setting [] → network event_output.topology ≡ network topo → printed event_output.lines ≡ []
    → event_output.tally ≡ no_tally → event_output.ended ≡ false
    → o.stands observer [] → Stands g o fleet monitors event_output observer setting []
first_stands g o topo plans fleet monitors event_output observer setting net same some fit accepted made has_seen topology lines tally ended told =
    record {
      sound =
          record {
            network = subst IsNetwork (sym net) topo.is_network;
            some_plan = subst (λ ps. 1 ≤ length ps) (sym same) some;
            fit = λ i plan at. subst (λ n. Fits n plan) (sym net) (fit i plan (subst (λ ps. slice_get ps i ≡ Some plan) same at));
            accepted = λ i plan at. subst (λ n. IsAccepted n plan) (sym net) (accepted i plan (subst (λ ps. slice_get ps i ≡ Some plan) same at));
          };
      made = made;
      has_seen = has_seen;
      tells = record { net = topology ∙ sym net; lines = lines; tally = tally; ended = ended };
      told = told;
    }

-- Room

module _ {N V : Type 0} (g : Ghosts N) (o : observers.Ghosts V) (fleet : Fleet N g) (event_output : EventOutput) where
  pub with_monitors : (observer : V) (old new : Monitors) → ((setting : Setting) (steps : List Step) → HasSeen old setting steps → HasSeen new setting steps)
      → HasRun g o fleet old event_output observer → HasRun g o fleet new event_output observer
  with_monitors observer old new keeps has =
      record {
        setting = has.setting;
        steps = has.steps;
        stands =
            record {
              sound = has.stands.sound;
              made = has.stands.made;
              has_seen = keeps has.setting (steps_of has.steps) has.stands.has_seen;
              tells = has.stands.tells;
              told = has.stands.told;
            };
      }

  pub with_observer : (monitors : Monitors) (old new : V) → ((told : List ReportAt) → o.stands old told → o.stands new told)
      → HasRun g o fleet monitors event_output old → HasRun g o fleet monitors event_output new
  with_observer monitors old new keeps has =
      record {
        setting = has.setting;
        steps = has.steps;
        stands =
            record {
              sound = has.stands.sound;
              made = has.stands.made;
              has_seen = has.stands.has_seen;
              tells = has.stands.tells;
              told = keeps (reports (steps_of has.steps)) has.stands.told;
            };
      }

-- the fleet is another that stands for the same runs
pub stands_prepared : {N V : Type 0} (g : Ghosts N) (o : observers.Ghosts V) (before after : Fleet N g) (monitors : Monitors) (event_output : EventOutput)
    (observer : V) (setting : Setting) (run : List (NodeStep N))
    → ((setting : Setting) (run : List (NodeStep N)) → fleets.StandsFor g before setting run → fleets.StandsFor g after setting run)
    → Stands g o before monitors event_output observer setting run → Stands g o after monitors event_output observer setting run
stands_prepared g o before after monitors event_output observer setting run keeps stands =
    record { sound = stands.sound; made = keeps setting run stands.made; has_seen = stands.has_seen; tells = stands.tells; told = stands.told }

-- another fleet that stands for the same runs
pub with_fleet : {N V : Type 0} (g : Ghosts N) (o : observers.Ghosts V) (before after : Fleet N g) (monitors : Monitors) (event_output : EventOutput)
    (observer : V)
    → ((setting : Setting) (run : List (NodeStep N)) → fleets.StandsFor g before setting run → fleets.StandsFor g after setting run)
    → HasRun g o before monitors event_output observer → HasRun g o after monitors event_output observer
with_fleet g o before after monitors event_output observer keeps has =
    record {
      setting = has.setting;
      steps = has.steps;
      stands =
          record {
            sound = has.stands.sound;
            made = keeps has.setting has.steps has.stands.made;
            has_seen = has.stands.has_seen;
            tells = has.stands.tells;
            told = has.stands.told;
          };
    }

-- the parts once there is room
pub stands_ready : {N V : Type 0} (g : Ghosts N) (o : observers.Ghosts V) (fleet same : Fleet N g) (old new : Monitors) (event_output noted : EventOutput)
    (observer told : V) (setting : Setting) (run : List (NodeStep N)) → same ≡ fleet → noted ≡ event_output
    → ((s : Setting) (steps : List Step) → HasSeen old s steps → HasSeen new s steps) → ((xs : List ReportAt) → o.stands observer xs → o.stands told xs)
    → Stands g o fleet old event_output observer setting run → Stands g o same new noted told setting run
stands_ready g o fleet same old new event_output noted observer told setting run fleets_same event_outputs_same keeps tells stands =
    record {
      sound = stands.sound;
      made = subst (λ f. fleets.StandsFor g f setting run) (sym fleets_same) stands.made;
      has_seen = keeps setting (steps_of run) stands.has_seen;
      tells = subst (λ (j : EventOutput). HasPrinted j setting (steps_of run)) (sym event_outputs_same) stands.tells;
      told = tells (reports (steps_of run)) stands.told;
    }

-- the fleet is prepared, and then there is room
pub stands_with_room : {N V : Type 0} (g : Ghosts N) (o : observers.Ghosts V) {fleet prepared same : Fleet N g} {old new : Monitors}
    {event_output noted : EventOutput} {observer told : V} (setting : Setting) (run : List (NodeStep N))
    → ((s : Setting) (r : List (NodeStep N)) → fleets.StandsFor g fleet s r → fleets.StandsFor g prepared s r) → same ≡ prepared → noted ≡ event_output
    → ((s : Setting) (steps : List Step) → HasSeen old s steps → HasSeen new s steps) → ((xs : List ReportAt) → o.stands observer xs → o.stands told xs)
    → Stands g o fleet old event_output observer setting run → Stands g o same new noted told setting run
stands_with_room g o {fleet} {prepared} {same} {old} {new} {event_output} {noted} {observer}
    {told} setting run prepares fleets_same event_outputs_same keeps tells stands =
    stands_ready g o prepared same old new event_output noted observer told setting run fleets_same event_outputs_same keeps tells
    (stands_prepared g o fleet prepared old event_output observer setting run prepares stands)
