-- The command that was read from the words.
use Rattle.std.specs.Prelude.{◌≤◌, length, map, string_bytes}
use Rattle.sd_drill.specs.Budgets.{IsBudget}
use Rattle.sd_gen.specs.command.Sizes.{IsWithin}
use Rattle.sd_top.specs.Words.{Command}
use Rattle.sd_top.specs.Words.Command.{Solo, Plan, Check, Renew, Replay, Case, Migrate, Order, Twoway, Drill}
use Rattle.sd_top.specs.declared.words.Command.{Command as Parsed}
use Rattle.sd_top.specs.declared.words.Command.TheVariants as parsed

-- the command that the words name
abbrev pub named : Parsed → Command
named (parsed.Solo schedule) = Solo schedule.now
named (parsed.Plan topology) = Plan topology.now
named (parsed.Check topology plan) = Check topology.now plan.now
named (parsed.Renew topology plan absent) = Renew topology.now plan.now absent.now
named (parsed.Replay files) = Replay files.topology.now (map string_bytes files.plans.now) files.schedule.now
named (parsed.Case number fabric) = Case number fabric
named (parsed.Migrate topology) = Migrate topology.now
named (parsed.Order files) = Order files.topology.now (map string_bytes files.plans.now) files.schedule.now
named (parsed.Twoway topology exchanges) = Twoway topology.now exchanges.now
named (parsed.Drill topology plan budget) = Drill topology.now plan.now budget

-- the plans and the numbers of a command that has some are within their limits
abbrev pub IsGranted : Parsed → Type 0
IsGranted (parsed.Replay files) = (1 ≤ length files.plans.now) × (length files.plans.now ≤ 64)
IsGranted (parsed.Order files) = (1 ≤ length files.plans.now) × (length files.plans.now ≤ 64)
IsGranted (parsed.Case number fabric) = IsWithin fabric
IsGranted (parsed.Drill topology plan budget) = IsBudget budget
IsGranted _ = Unit {0}
