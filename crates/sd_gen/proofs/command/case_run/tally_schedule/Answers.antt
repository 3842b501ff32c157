use Rattle.std.proofs.Common.{refl}
use Rattle.sd_history.specs.World.{setting_over}
use Rattle.sd_plan.specs.topo.Topologies.{network}
use Rattle.sd_gen.specs.Drafts.{history_of}
use Rattle.sd_gen.proofs.command.Driven.{tally_as}
use Rattle.sd_gen.proofs.command.case_run.tally_schedule.Goals as goal

pub returns : goal.returns
returns c =
    let setting = setting_over (network c.args.topo) c.args.plans in
    tally_as c.in_ok-replayed.replayed c.tally-tally.result c.tally-tally.ensures setting (history_of setting c.args.number)
    (c.in_ok-replayed.ensures setting c.args.topo.is_network (c.in_ok-replay.ensures.stands setting refl refl))
