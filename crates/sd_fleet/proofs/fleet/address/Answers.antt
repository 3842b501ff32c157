-- What an event asks of its device can be asked of it, and what is done is what the event does.
use Rattle.std.proofs.Common.{refl, sym, ◌∙◌, ap}
use Rattle.sd_sched.specs.declared.Event.TheVariants as event
use Rattle.sd_device.specs.Calls as calls
use Rattle.sd_history.specs.Steps as steps
use Rattle.sd_world.specs.membership.Memberships.{staged_number}
use Rattle.sd_fleet.specs.Doing.{act_in, receipt}
use Rattle.sd_fleet.proofs.Applying.{device_if, can_do, can_as, done, with_its_duty, numbers_made}
use Rattle.sd_fleet.proofs.fleet.address.Goals as goal

pub context_at-context-requires : goal.context_at-context-requires
context_at-context-requires g c = device_if c.args.fabric.now c.args.event.now c.requires.accepted

pub start-requires-clause-duty : goal.start-requires-clause-duty
start-requires-clause-duty g c =
    (can_do g.N.Node c.args.fabric.now c.args.event.now c.args.nodes.now c.args.nodes.now c.context_at-context.result
    (steps.Makes c.in-Start.device (calls.Started c.duty-duty.result.now c.in-Start.counter c.in-Start.clock c.in-Start.eps)) refl
    c.context_at-context.ensures.context (with_its_duty c.args.fabric.now c.args.fabric.now.membership.world.epoch c.in-Start.device
    (λ duty. steps.Makes c.in-Start.device (calls.Started duty c.in-Start.counter c.in-Start.clock c.in-Start.eps))
    c.duty-duty.result.now c.duty-duty.ensures ∙ ap (act_in c.args.fabric.now) (sym c.in-Start.is))
    c.requires.nodes c.context_at-context.ensures.sound c.requires.accepted c.requires.within).1.0

pub join-requires-clause-rates : goal.join-requires-clause-rates
join-requires-clause-rates g c =
    (can_do g.N.Node c.args.fabric.now c.args.event.now c.args.nodes.now c.args.nodes.now c.context_at-context.result
    (steps.Makes c.in-Join.device (calls.Joined c.rates-rates.result c.in-Join.counter c.in-Join.clock c.in-Join.eps)) refl
    c.context_at-context.ensures.context
    (ap (λ rates. steps.Makes c.in-Join.device (calls.Joined rates c.in-Join.counter c.in-Join.clock c.in-Join.eps)) c.rates-rates.ensures
    ∙ ap (act_in c.args.fabric.now) (sym c.in-Join.is)) c.requires.nodes c.context_at-context.ensures.sound c.requires.accepted c.requires.within).1.0

pub call_at-requires-clause-can : goal.call_at-requires-clause-can
call_at-requires-clause-can g c =
    can_as g.N.Node c.args.fabric.now c.args.event.now (event.Tick c.in-Tick.reference c.in-Tick.device c.in-Tick.counter) c.args.nodes.now
    c.context_at-context.result c.in-Tick.is c.context_at-context.ensures.context
    c.requires.nodes c.context_at-context.ensures.sound c.requires.accepted c.requires.within

pub call_at-requires-in-Recv-clause-can : goal.call_at-requires-in-Recv-clause-can
call_at-requires-in-Recv-clause-can g c =
    can_do g.N.Node c.args.fabric.now c.args.event.now c.args.nodes.now c.args.nodes.now c.context_at-context.result
    (steps.Calls c.in-Recv.device (calls.Receive c.in-Ok.flight.link c.in-Ok.flight.message c.in-Recv.counter)) refl c.context_at-context.ensures.context
    (sym (ap (λ look. receipt look c.in-Recv.device c.in-Recv.counter) (sym c.flight.ensures.found ∙ c.in-Ok.is))
    ∙ ap (act_in c.args.fabric.now) (sym c.in-Recv.is)) c.requires.nodes c.context_at-context.ensures.sound c.requires.accepted c.requires.within

pub call_at-requires-in-Fix-clause-can : goal.call_at-requires-in-Fix-clause-can
call_at-requires-in-Fix-clause-can g c =
    can_as g.N.Node c.args.fabric.now c.args.event.now (event.Fix c.in-Fix.reference c.in-Fix.device c.in-Fix.counter c.in-Fix.clock c.in-Fix.eps)
    c.args.nodes.now c.context_at-context.result c.in-Fix.is c.context_at-context.ensures.context
    c.requires.nodes c.context_at-context.ensures.sound c.requires.accepted c.requires.within

pub call_at-requires-in-Give-clause-can : goal.call_at-requires-in-Give-clause-can
call_at-requires-in-Give-clause-can g c =
    can_do g.N.Node c.args.fabric.now c.args.event.now c.args.nodes.now c.args.nodes.now c.context_at-context.result
    (steps.Calls c.in-Give.device (calls.Give c.staged_duty-duty.result.now)) refl c.context_at-context.ensures.context
    (with_its_duty c.args.fabric.now (staged_number c.args.fabric.now.membership) c.in-Give.device (λ duty. steps.Calls c.in-Give.device (calls.Give duty))
    c.staged_duty-duty.result.now c.staged_duty-duty.ensures ∙ ap (act_in c.args.fabric.now) (sym c.in-Give.is))
    c.requires.nodes c.context_at-context.ensures.sound c.requires.accepted c.requires.within

pub call_at-requires-in-Commit-clause-can : goal.call_at-requires-in-Commit-clause-can
call_at-requires-in-Commit-clause-can g c =
    can_as g.N.Node c.args.fabric.now c.args.event.now (event.Commit c.in-Commit.reference c.in-Commit.device c.in-Commit.counter) c.args.nodes.now
    c.context_at-context.result c.in-Commit.is c.context_at-context.ensures.context
    c.requires.nodes c.context_at-context.ensures.sound c.requires.accepted c.requires.within

pub call_at-requires-in-Seal-clause-can : goal.call_at-requires-in-Seal-clause-can
call_at-requires-in-Seal-clause-can g c =
    can_as g.N.Node c.args.fabric.now c.args.event.now (event.Seal c.in-Seal.reference c.in-Seal.device) c.args.nodes.now c.context_at-context.result
    c.in-Seal.is c.context_at-context.ensures.context c.requires.nodes c.context_at-context.ensures.sound c.requires.accepted c.requires.within

pub ask_at-requires-clause-there : goal.ask_at-requires-clause-there
ask_at-requires-clause-there g c =
    (can_as g.N.Node c.args.fabric.now c.args.event.now (event.Ask c.in-Ask.reference c.in-Ask.device c.in-Ask.counter) c.args.nodes.now
    c.context_at-context.result c.in-Ask.is c.context_at-context.ensures.context
    c.requires.nodes c.context_at-context.ensures.sound c.requires.accepted c.requires.within).1

pub ask_at-requires-clause-numbers : goal.ask_at-requires-clause-numbers
ask_at-requires-clause-numbers g c =
    (can_as g.N.Node c.args.fabric.now c.args.event.now (event.Ask c.in-Ask.reference c.in-Ask.device c.in-Ask.counter) c.args.nodes.now
    c.context_at-context.result c.in-Ask.is c.context_at-context.ensures.context
    c.requires.nodes c.context_at-context.ensures.sound c.requires.accepted c.requires.within).2

pub returns-in-Start-clause-acts : goal.returns-in-Start-clause-acts
returns-in-Start-clause-acts g c =
    done g.N.Node c.args.fabric.now c.args.event.now c.args.nodes.now c.args.nodes.now c.place.new.nodes c.context_at-context.result
    (steps.Makes c.in-Start.device (calls.Started c.duty-duty.result.now c.in-Start.counter c.in-Start.clock c.in-Start.eps)) c.place.result refl
    c.context_at-context.ensures.context (with_its_duty c.args.fabric.now c.args.fabric.now.membership.world.epoch c.in-Start.device
    (λ duty. steps.Makes c.in-Start.device (calls.Started duty c.in-Start.counter c.in-Start.clock c.in-Start.eps))
    c.duty-duty.result.now c.duty-duty.ensures ∙ ap (act_in c.args.fabric.now) (sym c.in-Start.is))
    (c.place.ensures (calls.Started c.duty-duty.result.now c.in-Start.counter c.in-Start.clock c.in-Start.eps) c.start.ensures.made
    (numbers_made g.N.Node c.in-Start.counter c.start.result c.start.ensures.floor c.start.ensures.ceiling c.start.ensures.height))

pub returns-in-Join-clause-acts : goal.returns-in-Join-clause-acts
returns-in-Join-clause-acts g c =
    done g.N.Node c.args.fabric.now c.args.event.now c.args.nodes.now c.args.nodes.now c.place-in-Join.new.nodes c.context_at-context.result
    (steps.Makes c.in-Join.device (calls.Joined c.rates-rates.result c.in-Join.counter c.in-Join.clock c.in-Join.eps)) c.place-in-Join.result refl
    c.context_at-context.ensures.context
    (ap (λ rates. steps.Makes c.in-Join.device (calls.Joined rates c.in-Join.counter c.in-Join.clock c.in-Join.eps)) c.rates-rates.ensures
    ∙ ap (act_in c.args.fabric.now) (sym c.in-Join.is))
    (c.place-in-Join.ensures (calls.Joined c.rates-rates.result c.in-Join.counter c.in-Join.clock c.in-Join.eps) c.join.ensures.made
    (numbers_made g.N.Node c.in-Join.counter c.join.result c.join.ensures.floor c.join.ensures.ceiling c.join.ensures.height))

pub returns-in-Give-clause-acts : goal.returns-in-Give-clause-acts
returns-in-Give-clause-acts g c =
    done g.N.Node c.args.fabric.now c.args.event.now c.args.nodes.now c.args.nodes.now c.call_at-in-Give.new.nodes c.context_at-context.result
    (steps.Calls c.in-Give.device (calls.Give c.staged_duty-duty.result.now)) c.call_at-in-Give.result refl c.context_at-context.ensures.context
    (with_its_duty c.args.fabric.now (staged_number c.args.fabric.now.membership) c.in-Give.device (λ duty. steps.Calls c.in-Give.device (calls.Give duty))
    c.staged_duty-duty.result.now c.staged_duty-duty.ensures ∙ ap (act_in c.args.fabric.now) (sym c.in-Give.is)) c.call_at-in-Give.ensures
