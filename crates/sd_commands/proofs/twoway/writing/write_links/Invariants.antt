use Rattle.std.proofs.Common.{◌≡◌, ◌≤◌}
use Rattle.sd_io.specs.outside.Pieces.{AddsPieces}
use Rattle.sd_plan.specs.topo.Topologies.{network}
use Rattle.sd_commands.specs.twoway.Tallies.{count_of, lines_of}
use Rattle.sd_commands.proofs.twoway.writing.write_links.Given as goal

-- the lines of the links below were written, and they are counted
abbrev pub invariant-loop-link : goal.invariant-loop-link
invariant-loop-link g l =
    let sink = g.O.Sink in
    record {
      added : AddsPieces (sink.written l.fn.out) (sink.written l.out) (lines_of (network l.topo) l.tally.spans l.link);
      count : l.links ≡ count_of l.tally.spans l.link;
      few : l.links ≤ l.link;
      steady : sink.faults l.out ≡ sink.faults l.fn.out;
    }
