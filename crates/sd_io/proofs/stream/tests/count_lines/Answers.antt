use Rattle.std.proofs.Common.{rules}
use Rattle.sd_io.proofs.stream.Counted.{counted_more, counted_all}
use Rattle.sd_io.proofs.stream.tests.count_lines.Goals as goal

pub lines-preserved : goal.lines-preserved
lines-preserved g c =
    let has = c.next_line.follows.holds-at-none in
    let answer = rw c.in-Some.is at c.in_ok-next_line.ensures.answer in
    record {
      counted = counted_more _ _ _ _ _ _ _ c.lines.invariant.counted answer (rw c.in_ok-next_line.was at has.past);
      within = search rules;
      fits = search rules;
      steady = search rules;
      same_shelf = search rules;
      same_held = search rules;
      same_names = search rules;
    }

pub returns-in-None-clause-count : goal.returns-in-None-clause-count
returns-in-None-clause-count g c =
    let answer = rw c.in-None.is at c.in_ok-next_line.ensures.answer in
    counted_all _ _ _ _ c.lines.invariant.counted answer
