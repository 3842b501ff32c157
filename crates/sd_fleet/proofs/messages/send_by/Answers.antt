-- What is sent goes over the ends below the sender, which are sound; where there are none, nothing is.
use Rattle.std.proofs.Common.{◌++◌, length, filter, sym, ◌∙◌, ap, subst, arith}
use Rattle.std.proofs.lemmas.List.{append-nil}
use Rattle.sd_plan.specs.topo.Topologies.{network}
use Rattle.sd_plan.specs.topo.Network.{Each}
use Rattle.sd_device.specs.declared.msg.Flight.{Flight}
use Rattle.sd_world.specs.membership.Plans.{IsEnd}
use Rattle.sd_fleet.specs.Registers.{kept}
use Rattle.sd_fleet.specs.Outcomes.{first_number}
use Rattle.sd_fleet.proofs.FabricKeeping.{ends_sound}
use Rattle.sd_fleet.proofs.Replies.{sent_size, sent_nowhere}
use Rattle.sd_fleet.proofs.messages.send_by.Goals as goal

pub returns-then-is_empty-clause-flights : goal.returns-then-is_empty-clause-flights
returns-then-is_empty-clause-flights c =
    let nothing = sent_nowhere (kept (network c.args.topology.now) c.args.membership.now c.args.book.now) c.args.reference c.args.sender c.args.epoch
    c.ends_below-ends.result.now c.args.effect.now c.in-Send.message c.ends_below-ends.ensures c.in-Send.is (sym c.is_empty.ensures ∙ c.if-is_empty.true) in
    sym (ap (λ fs. c.args.book.now.flights ++ filter (λ (f : Flight). f.reaches) fs) nothing ∙ append-nil c.args.book.now.flights)

pub returns-then-is_empty-clause-last : goal.returns-then-is_empty-clause-last
returns-then-is_empty-clause-last c =
    let nothing = sent_nowhere (kept (network c.args.topology.now) c.args.membership.now c.args.book.now) c.args.reference c.args.sender c.args.epoch
    c.ends_below-ends.result.now c.args.effect.now c.in-Send.message c.ends_below-ends.ensures c.in-Send.is (sym c.is_empty.ensures ∙ c.if-is_empty.true) in
    omega (arith, ap length nothing)

pub returns-then-is_empty-clause-first : goal.returns-then-is_empty-clause-first
returns-then-is_empty-clause-first c =
    let nothing = sent_nowhere (kept (network c.args.topology.now) c.args.membership.now c.args.book.now) c.args.reference c.args.sender c.args.epoch
    c.ends_below-ends.result.now c.args.effect.now c.in-Send.message c.ends_below-ends.ensures c.in-Send.is (sym c.is_empty.ensures ∙ c.if-is_empty.true) in
    omega (arith, ap first_number nothing)

pub returns-then-is_empty-clause-count : goal.returns-then-is_empty-clause-count
returns-then-is_empty-clause-count c =
    let nothing = sent_nowhere (kept (network c.args.topology.now) c.args.membership.now c.args.book.now) c.args.reference c.args.sender c.args.epoch
    c.ends_below-ends.result.now c.args.effect.now c.in-Send.message c.ends_below-ends.ensures c.in-Send.is (sym c.is_empty.ensures ∙ c.if-is_empty.true) in
    omega (arith, ap length nothing)

pub send-requires-clause-ends : goal.send-requires-clause-ends
send-requires-clause-ends c =
    subst (λ es. Each (IsEnd (network c.args.topology.now)) es) (sym c.ends_below-ends.ensures)
    (ends_sound (kept (network c.args.topology.now) c.args.membership.now c.args.book.now) c.args.epoch c.args.sender c.requires.sound).each

pub send-requires-clause-few : goal.send-requires-clause-few
send-requires-clause-few c =
    let same = ap length c.ends_below-ends.ensures in
    let few = (ends_sound (kept (network c.args.topology.now) c.args.membership.now c.args.book.now) c.args.epoch c.args.sender c.requires.sound).few in
    omega (arith, same, few, c.requires.sound.net.links)

pub send-requires-clause-room : goal.send-requires-clause-room
send-requires-clause-room c =
    let size = sent_size (kept (network c.args.topology.now) c.args.membership.now c.args.book.now) c.args.reference c.args.sender c.args.epoch
    c.ends_below-ends.result.now c.args.effect.now c.in-Send.message c.ends_below-ends.ensures c.in-Send.is in
    omega (arith, size, c.requires.room)

pub returns-clause-last : goal.returns-clause-last
returns-clause-last c =
    let size = sent_size (kept (network c.args.topology.now) c.args.membership.now c.args.book.now) c.args.reference c.args.sender c.args.epoch
    c.ends_below-ends.result.now c.args.effect.now c.in-Send.message c.ends_below-ends.ensures c.in-Send.is in
    omega (arith, size, c.send.ensures.last)

pub returns-clause-count : goal.returns-clause-count
returns-clause-count c =
    c.send.ensures.count
    ∙ sent_size (kept (network c.args.topology.now) c.args.membership.now c.args.book.now) c.args.reference c.args.sender c.args.epoch
    c.ends_below-ends.result.now c.args.effect.now c.in-Send.message c.ends_below-ends.ensures c.in-Send.is
