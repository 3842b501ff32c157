-- One end more is sent over.
use Rattle.std.proofs.Common.{◌<◌, length, get_or, arith}
use Rattle.std.proofs.lemmas.List.{get_or_default}
use Rattle.std.proofs.lemmas.Option.{slice_get-get_or}
use Rattle.sd_plan.specs.topo.Topologies.{network}
use Rattle.sd_plan.specs.declared.End.{End}
use Rattle.sd_fleet.proofs.Adding.{sent_one_more}
use Rattle.sd_fleet.proofs.messages.Router.send.Goals as goal

abbrev no_end : End
no_end = record { link = 0; device = 0 }

pub send_one-number-requires-clause-end : goal.send_one-number-requires-clause-end
send_one-number-requires-clause-end c =
    let within : c.loop-end.end-index < length c.args.ends.now = omega arith in
    c.requires.ends c.loop-end.end-index (get_or c.args.ends.now c.loop-end.end-index no_end)
    (slice_get-get_or c.args.ends.now c.loop-end.end-index no_end within)

pub loop-end-preserved : goal.loop-end-preserved
loop-end-preserved c =
    let within : c.loop-end.end-index < length c.args.ends.now = omega arith in
    let e : End = get_or c.args.ends.now c.loop-end.end-index no_end in
    sent_one_more (network c.args.self.now.topology.now) c.args.self.now.world.now c.args.sending.now c.args.ends.now c.args.book.now c.loop-end.end-index
    c.loop-end.book c.send_one-number.new.book c.loop-end.sent c.add.new.self
    c.send_one-number.result e within (get_or_default c.args.ends.now c.loop-end.end-index no_end e within) c.loop-end.invariant c.send_one-number.ensures.given
    c.send_one-number.ensures.number
    c.send_one-number.ensures.flights c.send_one-number.ensures.last c.send_one-number.ensures.size c.send_one-number.ensures.room c.add.ensures.first c.add.ensures.count
