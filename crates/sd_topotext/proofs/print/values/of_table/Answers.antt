use Rattle.toml.proofs.Views.{view-Table}
use Rattle.sd_topotext.proofs.print.values.of_table.Goals as goal

pub returns : goal.returns
returns c = view-Table c.args.members
