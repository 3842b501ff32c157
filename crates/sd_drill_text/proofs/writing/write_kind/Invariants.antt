use Rattle.std.proofs.Common.{◌≡◌}
use Rattle.sd_plan.specs.topo.Topologies.{network}
use Rattle.sd_drill_text.specs.Adding.{Added}
use Rattle.sd_drill_text.specs.Kinds.{first_of}
use Rattle.sd_drill_text.specs.Rooms.{IsRoomFor}
use Rattle.sd_drill_text.proofs.writing.write_kind.Given as goal

-- the lines of the domains below were added
abbrev pub invariant-loop-number : goal.invariant-loop-number
invariant-loop-number g l =
    let net = network l.planned.topo.now in
    let sink = g.O.Sink in
    let lines = g.D.DomainLines in
    record {
      added : Added (lines.lines net l.planned.plan.now (lines.granted l.fn.room.lines)) (first_of l.kind l.number) (sink.written l.fn.out) (sink.written l.out);
      room : IsRoomFor lines net l.planned.plan.now l.room;
      granted : lines.granted l.room.lines ≡ lines.granted l.fn.room.lines;
      steady : sink.faults l.out ≡ sink.faults l.fn.out;
    }
