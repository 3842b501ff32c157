-- The rules of structure by name: their numbers, and what each asks of one device.
use Rattle.std.specs.Prelude.{ℕ, Bool, true}
use Rattle.sd_plan.specs.topo.Network.{Network}
use Rattle.sd_plan.specs.Structure.{row_is_right, hops_are_right, links_differ, reaches_root, falls_back}
use Rattle.sd_plan.specs.declared.Plan.{Plan}
use Rattle.sd_plan.specs.declared.structure.Rule.{Rule}
use Rattle.sd_plan.specs.declared.structure.Rule.TheVariants as rule

-- the number that is printed
abbrev pub number_of : Rule → ℕ
number_of rule.Roots = 1
number_of rule.Rows = 2
number_of rule.Hops = 3
number_of rule.Links = 4
number_of rule.Walks = 5
number_of rule.Fallback = 6

-- a rule's number, with the device that breaks it
abbrev pub numbered : Rule × ℕ → ℕ × ℕ
numbered broken = (number_of broken.0, broken.1)

-- the device keeps the rule by itself; the rule on the two roots is none of one device
abbrev pub keeps : Rule → Network → Plan → ℕ → Bool
keeps rule.Roots net plan d = true
keeps rule.Rows net plan d = row_is_right plan d
keeps rule.Hops net plan d = hops_are_right net plan d
keeps rule.Links net plan d = links_differ plan d
keeps rule.Walks net plan d = reaches_root net plan d
keeps rule.Fallback net plan d = falls_back plan d
