-- When one replay is an opening for another.
use Rattle.std.specs.Prelude.{◌≡◌, List, length}
use Rattle.sd_plan.specs.topo.Network.{Network}
use Rattle.sd_plan.specs.declared.Plan.{Plan}
use Rattle.sd_sched.specs.declared.Event.{Event}
use Rattle.sd_history.specs.World.{setting_over}
use Rattle.sd_resume.specs.law.Shifts.{Shift}
use Rattle.sd_resume.specs.law.Law.{whole}
use Rattle.sd_resume.specs.Differences.{Opens}
use Rattle.sd_replay.specs.Devices.{QuietReplay}
use Rattle.sd_resume.specs.command.Played.{HasPlayed}

-- The replays have played these events, the second over the last plans alone, and its run is an opening for that of the first.
pub record OpensFor (shift : Shift) (net : Network) (front plans : List Plan) (one other : QuietReplay) (events others : List Event) : Type 0 where
  pub behind : shift.plans ≡ length front
  pub first : HasPlayed one (whole net front plans) events
  pub second : HasPlayed other (setting_over net plans) others
  pub opens : Opens shift net front plans first.run second.run
