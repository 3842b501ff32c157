use Rattle.toml.proofs.Views.{view-Array}
use Rattle.sd_topotext.proofs.print.values.of_array.Goals as goal

pub returns : goal.returns
returns c = view-Array c.args.items
