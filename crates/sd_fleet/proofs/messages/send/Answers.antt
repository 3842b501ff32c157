-- What the named device sends is what a device sends that replies so.
use Rattle.std.proofs.Common.{◌≡◌, ◌≤◌, ◌++◌, ◌+◌, List, length, filter, sym, ◌∙◌, ap, subst}
use Rattle.sd_plan.specs.topo.Topologies.{network}
use Rattle.sd_device.specs.declared.msg.Flight.{Flight}
use Rattle.sd_fleet.specs.Registers.{kept}
use Rattle.sd_fleet.specs.Sending.{sent_by, sent_in}
use Rattle.sd_fleet.specs.Outcomes.{first_number}
use Rattle.sd_fleet.proofs.Replies.{sent_as}
use Rattle.sd_fleet.proofs.messages.send.Goals as goal

-- what is sent is what its answers and its effect send
same : (c : goal.After-send_by)
    → sent_in (kept (network c.args.topology.now) c.args.membership.now c.args.book.now) c.args.event.now c.args.reply.now
    ≡ sent_by (kept (network c.args.topology.now) c.args.membership.now c.args.book.now) c.reference.result c.in-Some.sender
    c.in-Some-answers.answers.epoch c.args.reply.now.effect
same c =
    sent_as (kept (network c.args.topology.now) c.args.membership.now c.args.book.now) c.args.event.now c.args.reply.now c.reference.result c.device.result
    c.in-Some.sender c.in-Some-answers.answers
    c.reference.ensures c.device.ensures c.in-Some.is c.in-Some-answers.is

pub send_by-requires-clause-room : goal.send_by-requires-clause-room
send_by-requires-clause-room c =
    subst (λ (fs : List Flight). length fs ≤ c.args.book.now.room)
    (sent_as (kept (network c.args.topology.now) c.args.membership.now c.args.book.now) c.args.event.now c.args.reply.now c.reference.result c.device.result
    c.in-Some.sender c.in-Some-answers.answers
    c.reference.ensures c.device.ensures c.in-Some.is c.in-Some-answers.is)
    c.requires.room

pub returns-clause-flights : goal.returns-clause-flights
returns-clause-flights c = c.send_by.ensures.flights ∙ ap (λ fs. c.args.book.now.flights ++ filter (λ (f : Flight). f.reaches) fs) (sym (same c))

pub returns-clause-last : goal.returns-clause-last
returns-clause-last c = c.send_by.ensures.last ∙ ap (λ (fs : List Flight). c.args.book.now.last + length fs) (sym (same c))

pub returns-clause-first : goal.returns-clause-first
returns-clause-first c = c.send_by.ensures.first ∙ ap first_number (sym (same c))

pub returns-clause-count : goal.returns-clause-count
returns-clause-count c = c.send_by.ensures.count ∙ ap length (sym (same c))
