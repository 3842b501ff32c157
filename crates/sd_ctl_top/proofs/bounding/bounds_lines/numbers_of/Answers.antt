use Rattle.std.proofs.Common.{sym}
use Rattle.sd_drill.proofs.Shared.{bound_is}
use Rattle.sd_ctl_top.proofs.bounding.bounds_lines.numbers_of.Goals as goal

pub returns-clause-drill : goal.returns-clause-drill
returns-clause-drill c = sym (bound_is c.args.page.drill.now c.args.d c.requires.drill)

pub returns-clause-tight : goal.returns-clause-tight
returns-clause-tight c = sym (bound_is c.args.page.tight.now c.args.d c.requires.tight)
