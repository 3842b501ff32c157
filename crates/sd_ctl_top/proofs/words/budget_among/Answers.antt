use Rattle.std.proofs.Common.{arith, string_bytes}
use Rattle.sd_ctl_top.proofs.Settings.{few_for_budget, many_for_budget}
use Rattle.sd_ctl_top.proofs.words.budget_among.Goals as goal

pub returns-in_default-clause-is : goal.returns-in_default-clause-is
returns-in_default-clause-is c = few_for_budget string_bytes c.args.words.now (omega (arith, c.in_default.len_below))

pub returns-in_default-2-clause-is : goal.returns-in_default-2-clause-is
returns-in_default-2-clause-is c = many_for_budget string_bytes c.args.words.now (omega (arith, c.in_default.len_at_least))
