use Rattle.std.proofs.Common.{◌≡◌, map}
use Rattle.sd_num.specs.Lists.{below}
use Rattle.sd_planner.specs.Serving.{greedy_row}
use Rattle.sd_planner.specs.Surveys.{net_in, absent_in, AreClear}
use Rattle.sd_planner.proofs.backups.greedy_rows.Given as goal

abbrev pub invariant-loop-d : goal.invariant-loop-d
invariant-loop-d l =
    record {
      rows : l.rows ≡ map (greedy_row (net_in l.survey) l.survey.root (absent_in l.survey)) (below l.d);
      clear : AreClear (net_in l.survey) l.joining.items;
    }
