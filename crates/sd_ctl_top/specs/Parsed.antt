-- The command that was read from the words of the second program.
use Rattle.std.specs.Prelude.{◌<◌, ◌≤◌, length, map, string_bytes}
use Rattle.sd_drill.specs.Budgets.{IsBudget}
use Rattle.sd_ctl_top.specs.Words.{Command}
use Rattle.sd_ctl_top.specs.Words.Command.{Search, Renew, Why, Bounds, Resume, Record, Merge, Version}
use Rattle.sd_ctl_top.specs.declared.words.Command.{Command as Parsed}
use Rattle.sd_ctl_top.specs.declared.words.Command.TheVariants as parsed

-- the command that the words name
abbrev pub named : Parsed → Command
named (parsed.Search topology settings) = Search topology.now settings
named (parsed.Renew topology plan absent settings) = Renew topology.now plan.now absent.now settings
named (parsed.Why topology) = Why topology.now
named (parsed.Bounds topology plan budget) = Bounds topology.now plan.now budget
named (parsed.Resume files) = Resume files.topology.now (map string_bytes files.plans.now) files.left files.schedule.now files.opening.now
named (parsed.Record files) = Record files.topology.now (map string_bytes files.plans.now) files.log.now
named (parsed.Merge logs feed) = Merge logs feed.now
named parsed.Version = Version

-- its budget is within the limits, and its plans are 1 to 64, of which an opening leaves out fewer than all
abbrev pub IsGranted : Parsed → Type 0
IsGranted (parsed.Search topology settings) = IsBudget settings.budget
IsGranted (parsed.Renew topology plan absent settings) = IsBudget settings.budget
IsGranted (parsed.Why topology) = Unit {0}
IsGranted (parsed.Bounds topology plan budget) = IsBudget budget
IsGranted (parsed.Resume files) = (length files.plans.now ≤ 64) × (files.left < length files.plans.now)
IsGranted (parsed.Record files) = (1 ≤ length files.plans.now) × (length files.plans.now ≤ 64)
IsGranted (parsed.Merge logs feed) = Unit {0}
IsGranted parsed.Version = Unit {0}
