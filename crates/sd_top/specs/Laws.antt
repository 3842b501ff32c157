-- What holds of the answers themselves, whatever a run does.
use Rattle.sd_gen.specs.command.Laws.{CaseCompletes}
use Rattle.sd_commands.specs.replay.Promises.{Completes}
use Rattle.sd_commands.specs.replay.Replays.{IsOrder, IsReplay}
use Rattle.sd_commands.specs.solo.Promises.{ReportsContain}
use Rattle.sd_commands.specs.exchanges.Spans.{NoneIsHonest}
use Rattle.sd_top.specs.Checks.{CheckCompletes}
use Rattle.sd_top.specs.Drills.{DrillCompletes}
use Rattle.sd_top.specs.Migration.{MigrationCompletes}
use Rattle.sd_top.specs.Plannings.{PlanCompletes, RenewalCompletes}
use Rattle.sd_top.specs.Schedules.{SoloCompletes}
use Rattle.sd_top.specs.Slack.{SlackKeepsPlans, SlackRaisesNoBound}
use Rattle.sd_top.specs.Twoways.{TwowayCompletes}
use Rattle.sd_top.specs.Unique.{HasOneAnswer}
use Rattle.sd_top.specs.Versions.{MigrationLaw}

-- what holds of the answers
pub record Laws : Type 0 where
  -- a command has one answer over the same texts
  pub one_answer : HasOneAnswer
  -- right files are answered with Done
  pub solo_completes : SoloCompletes
  pub plan_completes : PlanCompletes
  pub check_completes : CheckCompletes
  pub renewal_completes : RenewalCompletes
  pub migration_completes : MigrationCompletes
  pub twoway_completes : TwowayCompletes
  pub drill_completes : DrillCompletes
  -- and those of a schedule with Done, or with Broken where it shows some trouble
  pub replay_completes : Completes IsReplay
  pub order_completes : Completes IsOrder
  pub case_completes : CaseCompletes
  -- a topology that is written again with version 2 changes no answer
  pub migration_law : MigrationLaw
  -- whatever the events that one device alone accepts, an honest report has its reference time inside
  pub reports_contain : ReportsContain
  -- an exchange that goes backwards, or is impossible, has no honest run
  pub none_is_honest : NoneIsHonest
  -- better oscillators, narrower delays, less loss and fewer listed domains take no plan away, and raise no number of a drill
  pub slack_keeps_plans : SlackKeepsPlans
  pub slack_raises_no_bound : SlackRaisesNoBound
