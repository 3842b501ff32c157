use Rattle.std.proofs.Common.{take}
use Rattle.sd_planner.specs.Serving.{serves}
use Rattle.sd_planner.specs.Surveys.{net_in, absent_in}
use Rattle.sd_planner.proofs.FirstHops.{NonePasses}
use Rattle.sd_planner.proofs.backups.survey.Survey.first_serving.Given as goal

abbrev pub invariant-loop-neighbour : goal.invariant-loop-neighbour
invariant-loop-neighbour l =
    NonePasses (serves (net_in l.self) l.self.root (absent_in l.self) l.own.device l.primary) (take l.neighbour-index l.neighbour-items)
