use Rattle.sd_planner.specs.Surveys.{order_of}
use Rattle.sd_planner.proofs.Adding.{IsUnderWay}
use Rattle.sd_planner.proofs.backups.survey.Survey.add_walk.Given as goal

abbrev pub invariant-loop-here : goal.invariant-loop-here
invariant-loop-here l = IsUnderWay (order_of l.self) l.fn.own l.here l.fn.things l.things

abbrev pub decreases-loop-here : goal.decreases-loop-here
decreases-loop-here l = l.here.depth
