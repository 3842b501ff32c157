use Rattle.std.proofs.Common.{sym, ap, ◌∙◌, arith}
use Rattle.sd_planner.specs.Spreading.{placed_at}
use Rattle.sd_planner.specs.Surveys.{net_in, absent_in, order_of}
use Rattle.sd_planner.proofs.FoundDevices.{found_same, survey_grows}
use Rattle.sd_planner.proofs.Walking.{past_none}
use Rattle.sd_planner.proofs.backups.survey.Survey.placed.Goals as goal

pub returns-then-d-devices-clause-same : goal.returns-then-d-devices-clause-same
returns-then-d-devices-clause-same c = found_same c.args.self.now.placement.now.order c.args.d c.find.result c.find.ensures

pub returns-else-d-devices-clause-is : goal.returns-else-d-devices-clause-is
returns-else-d-devices-clause-is c =
    let s = c.args.self.now in
    sym (past_none (net_in s) s.root (absent_in s) (order_of s) (survey_grows c.args.self.now) c.args.d (omega arith))

pub find-requires : goal.find-requires
find-requires c = omega (arith, c.devices.ensures, ap (λ p. p.count) c.args.self.now.placement_is, c.if-d-devices.true)

pub returns-then-d-devices-clause-is : goal.returns-then-d-devices-clause-is
returns-then-d-devices-clause-is c = c.find.ensures ∙ ap (λ p. placed_at p.order c.args.d) c.args.self.now.placement_is
