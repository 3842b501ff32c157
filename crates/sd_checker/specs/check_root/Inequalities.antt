-- The rules of timing by name.
use Rattle.std.specs.Prelude.{ℕ}
use Rattle.sd_checker.specs.declared.check_root.TimingBreach.{TimingBreach}
use Rattle.sd_checker.specs.declared.check_root.waits.Inequality.{Inequality}
use Rattle.sd_checker.specs.declared.check_root.waits.Rule.{Rule}
use Rattle.sd_checker.specs.declared.check_root.waits.Rule.TheVariants as rule

-- the number that is printed
abbrev pub number_of : Rule → ℕ
number_of rule.Period = 1
number_of rule.FirstWait = 2
number_of rule.SecondWait = 3
number_of rule.Wait = 4
number_of rule.WaitAnew = 5

-- what is shown of an inequality
abbrev pub breach_of : Inequality → TimingBreach
breach_of i = record { rule = number_of i.rule; left = i.left; right = i.right }
