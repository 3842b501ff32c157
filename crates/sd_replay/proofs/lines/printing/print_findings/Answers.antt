use Rattle.std.specs.Prelude.{[]}
use Rattle.std.proofs.Common.{sym}
use Rattle.sd_num.specs.Lists.{map_or}
use Rattle.sd_plan.specs.topo.Topologies.{network}
use Rattle.sd_history.specs.Lines.{broken_lines, report_lines}
use Rattle.sd_replay.specs.lines.Findings.{line_bytes, loop_found, roots_found}
use Rattle.sd_replay.proofs.lines.Bytes.{four_parts}
use Rattle.sd_replay.proofs.lines.printing.print_findings.Goals as goal

pub returns : goal.returns
returns c =
    let found = c.args.findings.now in
    rw (c.print_answer.ensures.text, c.print_roots.ensures.text, c.print_loop.ensures.text, c.print_broken.ensures.text, c.clear.ensures)
    (sym (four_parts (line_bytes (network c.args.topo.now) c.args.number) (broken_lines found.broken) (loop_found found.looped) (roots_found found.roots)
    (map_or found.report [] (report_lines found.reference))))
