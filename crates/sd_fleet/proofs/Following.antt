-- What is done to the nodes is a step of the run.
use Rattle.std.specs.Prelude.{◌≡◌, ℕ, ◌<◌, Bool, true, false, List, ◌∷◌, length, slice_set, nat_eq, Option, Some, None, option_and_then, refl, if◌then◌else◌}
use Rattle.std.proofs.Common.{sym, ◌∙◌, ap, subst}
use Rattle.std.proofs.lemmas.Bool.{eqb-true}
use Rattle.sd_num.specs.Lists.{map_or, same_number}
use Rattle.sd_device.specs.declared.node.Node.{Ghosts}
use Rattle.sd_sched.specs.declared.Event.{Event}
use Rattle.sd_sched.specs.declared.Event.TheVariants as event
use Rattle.sd_sched.specs.Events.{device_of}
use Rattle.sd_device.specs.Calls as calls
use Rattle.sd_plan.specs.declared.Plan.{Plan}
use Rattle.sd_plan.specs.Duties.{duty_of}
use Rattle.sd_device.specs.declared.msg.Flight.{Flight}
use Rattle.sd_history.specs.World.{Setting, staged, staged_epoch}
use Rattle.sd_history.specs.Steps as steps
use Rattle.sd_history.specs.Steps.{Calls, Passes, seen_of, flight_numbered, Told, tells_nothing, tells_made, tells_called, Step, changed, act_by, step_of}
use Rattle.sd_history.specs.Lives.{tells_report}
use Rattle.sd_history.specs.Nodes.{answers_of, NodeStep, steps_of, node_in, addressed, Allows, IsRun}
use Rattle.sd_history.specs.Steps.{Act}
use Rattle.sd_fleet.specs.declared.Reply.{Reply}
use Rattle.sd_fleet.specs.Registers.{Registers}
use Rattle.sd_fleet.specs.Causes.{refusal_in}
use Rattle.sd_fleet.specs.Doing.{MatchesTold}
use Rattle.sd_fleet.specs.FabricStanding.{Stands}
use Rattle.sd_fleet.proofs.FabricActing as fabric
use Rattle.sd_fleet.specs.declared.nodes.CallContext.{CallContext}
use Rattle.sd_fleet.specs.Nodes.{node_at, Acts}
use Rattle.sd_fleet.proofs.Going.{set_other, some_at}

-- what the device told, and the node that is left, as the kind of node allows
pub record Shows {N : Type 0} (g : Ghosts N) (nodes after : List (Option N)) (a : steps.Act) (reply : Reply) : Type 0 where
  pub told : Told
  pub node : Option N
  pub says : MatchesTold reply told
  pub allowed : Allows g (option_and_then (node_at nodes) (addressed a)) a told node
  pub left : (d : ℕ) → d < length nodes → node_at after d ≡ map_or (if same_number (changed a) d then Some node else None) (node_at nodes d) (λ x. x)

-- the nodes where one is placed
left_placed : {N : Type 0} (nodes after : List (Option N)) (m d : ℕ) (x : N) → d < length nodes → after ≡ slice_set nodes m (Some x)
    → node_at after d ≡ map_or (if nat_eq m d then Some (Some x) else None) (node_at nodes d) (λ y. y)
left_placed nodes after m d x within placed = by (nat_eq m d) refl
  where
    by : (b : Bool) → nat_eq m d ≡ b → node_at after d ≡ map_or (if b then Some (Some x) else None) (node_at nodes d) (λ y. y)
    by true here = some_at nodes after d x within (subst (λ (k : ℕ). after ≡ slice_set nodes k (Some x)) (eqb-true m d here) placed)
    by false apart = set_other nodes after m d (Some x) placed apart

pub shows : {N : Type 0} (g : Ghosts N) (nodes after : List (Option N)) (a : Act) (context : CallContext) (reply : Reply) → Acts g nodes a context reply after
    → Shows g nodes after a reply
shows g nodes after (steps.Makes m making) context reply acts =
    record {
      told = tells_made (answers_of g acts.node);
      node = Some acts.node;
      says = record {
        effect = ap (λ (x : Reply). x.effect) acts.replied;
        answers = ap (λ (x : Reply). x.answers) acts.replied;
        report = ap (λ (x : Reply). x.report) acts.replied;
      };
      allowed = record { node = acts.node; made = acts.made; tells = refl; left = refl };
      left = λ d within. left_placed nodes after m d acts.node within acts.placed;
    }
shows g nodes after (steps.Calls m call) context reply acts =
    record {
      told = tells_called reply.effect (answers_of g acts.node);
      node = Some acts.node;
      says = record { effect = refl; answers = ap (λ (x : Reply). x.answers) acts.replied; report = ap (λ (x : Reply). x.report) acts.replied };
      allowed = record { old = acts.before; node = acts.node; effect = reply.effect; there = acts.was; stepped = acts.stepped; tells = refl; left = refl };
      left = λ d within. left_placed nodes after m d acts.node within acts.placed;
    }
shows g nodes after (steps.Asks m counter) context reply acts =
    record {
      told = tells_report acts.0.report;
      node = None;
      says = record {
        effect = ap (λ (x : Reply). x.effect) acts.0.replied;
        answers = ap (λ (x : Reply). x.answers) acts.0.replied;
        report = ap (λ (x : Reply). x.report) acts.0.replied;
      };
      allowed = record { node = acts.0.node; report = acts.0.report; there = acts.0.was; reported = acts.0.reported; tells = refl; left = refl };
      left = λ d within. ap (λ ns. node_at ns d) acts.1;
    }
shows g nodes after steps.Passes context reply acts =
    record {
      told = tells_nothing;
      node = None;
      says = record {
        effect = ap (λ (x : Reply). x.effect) acts.0;
        answers = ap (λ (x : Reply). x.answers) acts.0;
        report = ap (λ (x : Reply). x.report) acts.0;
      };
      allowed = (refl, refl);
      left = λ d within. ap (λ ns. node_at ns d) acts.1;
    }

-- The run

same_before : {N : Type 0} (f h : ℕ → Option N) (o : Option ℕ) → ((d : ℕ) → o ≡ Some d → f d ≡ h d) → option_and_then f o ≡ option_and_then h o
same_before f h None same = refl
same_before f h (Some d) same = same d refl

-- whom an act addresses or changes is the device that the event names
named_only : (setting : Setting) (earlier : List Step) (e : Event) (d : ℕ) → addressed (act_by setting earlier e) ≡ Some d → device_of e ≡ Some d
named_only setting earlier (event.Tick reference m counter) d is = is
named_only setting earlier (event.Recv reference m counter message) d is = by (flight_numbered earlier message) is
  where
    by : (o : Option Flight) → addressed (map_or o Passes (λ f. Calls m (calls.Receive f.link f.message counter))) ≡ Some d → Some m ≡ Some d
    by None is' = cc
    by (Some f) is' = is'
named_only setting earlier (event.Fix reference m counter clock eps) d is = is
named_only setting earlier (event.Ask reference m counter) d is = is
named_only setting earlier (event.Give reference m) d is = by (staged setting (seen_of earlier)) is
  where
    by : (o : Option Plan) → addressed (map_or o Passes (λ plan. Calls m (calls.Give (duty_of setting.net plan (staged_epoch (seen_of earlier)) m)))) ≡ Some d
        → Some m ≡ Some d
    by None is' = cc
    by (Some plan) is' = is'
named_only setting earlier (event.Commit reference m counter) d is = is
named_only setting earlier (event.Seal reference m) d is = is
named_only setting earlier _ d is = cc

module _ {N : Type 0} (g : Ghosts N) (setting : Setting) (run : List (NodeStep N)) (r : Registers) (e : Event) (reply : Reply) (nodes after : List (Option N))
    (earlier : IsRun g setting run) (stands : Stands r setting (steps_of run)) (places : length nodes ≡ length setting.net.devices)
    (kept : (d : ℕ) → d < length setting.net.devices → node_at nodes d ≡ node_in run d) (accepted : refusal_in r e ≡ None)
    (shown : Shows g nodes after (act_by setting (steps_of run) e) reply) where
  -- the step of the run
  abbrev pub next : NodeStep N
  next = record { step = step_of setting (steps_of run) e shown.told; node = shown.node }

  pub goes_on : IsRun g setting (next ∷ run)
  goes_on = (
    earlier,
    fabric.accepts setting r (steps_of run) stands e accepted,
    record {
      is = refl;
      allowed =
          subst (λ (o : Option N). Allows g o (act_by setting (steps_of run) e) shown.told shown.node)
          (same_before (node_at nodes) (node_in run) (addressed (act_by setting (steps_of run) e))
          (λ d is. kept d (fabric.device_within setting r (steps_of run) stands e accepted d (named_only setting (steps_of run) e d is))))
          shown.allowed;
    },
  )

  pub nodes_stand : (d : ℕ) → d < length setting.net.devices → node_at after d ≡ node_in (next ∷ run) d
  nodes_stand d within =
      shown.left d (subst (λ (n : ℕ). d < n) (sym places) within)
      ∙ ap (λ (o : Option N). map_or (if same_number (changed (act_by setting (steps_of run) e)) d then Some shown.node else None) o (λ x. x)) (kept d within)
