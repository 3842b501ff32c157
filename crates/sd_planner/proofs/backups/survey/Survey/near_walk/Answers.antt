use Rattle.sd_planner.specs.Climbs.{way_up}
use Rattle.sd_planner.specs.Surveys.{net_in, absent_in, order_of}
use Rattle.sd_planner.proofs.Near.{near_is}
use Rattle.sd_planner.proofs.Within.{way_within}
use Rattle.sd_planner.proofs.FoundDevices.{survey_grows}
use Rattle.sd_planner.proofs.backups.survey.Survey.near_walk.Goals as goal

pub returns : goal.returns
returns c =
    let s = c.args.self.now in
    let net = net_in s in
    let within = way_within net s.root (absent_in s) (order_of s) (survey_grows s) c.args.own.device in
    near_is net (way_up (order_of s) c.args.own.device) within.parents within.over c.in_ok-walk.walk c.add_walk.new.things c.in_ok-near.near c.add_met.new.self
    c.add_walk-2.new.things
    c.in_ok-walk.ensures c.add_walk.ensures c.in_ok-near.ensures c.add_met.ensures c.add_walk-2.ensures
