-- The outcome says whether the device acted before the event, which flight it received and what it sent; nothing else came of it.
use Rattle.std.proofs.Common.{◌∙◌, length, sym, ap}
use Rattle.sd_sched.specs.Events.{device_of}
use Rattle.sd_history.specs.Steps.{Step, acted_by}
use Rattle.sd_history.specs.Nodes.{steps_of}
use Rattle.sd_history.proofs.Known.{named_is_known}
use Rattle.sd_fleet.specs.declared.Outcome.{Outcome}
use Rattle.sd_replay.specs.Replaying.{quick_outcome}
use Rattle.sd_replay.proofs.Observing.{named}
use Rattle.sd_replay.proofs.Tried.{happened}
use Rattle.sd_replay.proofs.replay.Replay.try_quick_to.Goals as goal

pub returns-clause-accepted : goal.returns-clause-accepted
returns-clause-accepted g c = λ yes setting run stands.
    let quick = happened g.N.Node g.V.Observer c.args.self.now c.try_quick.new.self c.args.event.now c.try_quick.result c.in-Some.quick
    c.try_quick.ensures c.in-Some.is setting run stands in
    let happens = quick.stepped.happens in
    let are = quick.stepped.stands.made.fabric.accepted in
    let acted = c.acts_named-acted.ensures setting run stands.made
    (named (length setting.net.devices) (device_of c.args.event.now)
    (λ d at. named_is_known setting (steps_of run) quick.stepped.next.step.seen.event d are.1 (ap device_of happens ∙ at))) in
    record {
      stepped = quick.stepped;
      comes =
          ap (λ (o : Outcome). record o {
            acted = c.acts_named-acted.result;
            taken = c.in-Some.quick.taken;
            first_sent = c.in-Some.quick.sent.first;
            sent = c.in-Some.quick.sent.count;
          }) c.nothing.ensures
          ∙ ap (quick_outcome c.in-Some.quick.taken c.in-Some.quick.sent)
          (acted ∙ sym (ap (λ (s : Step). s.seen.acted) are.2 ∙ ap (acted_by (steps_of run)) happens))
          ∙ sym quick.comes;
    }
