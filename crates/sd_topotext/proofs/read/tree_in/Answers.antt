use Rattle.sd_topotext.proofs.Trees.{tree_known}
use Rattle.sd_topotext.proofs.read.tree_in.Goals as goal

pub returns-in-Ok-table_from_str-clause-ok : goal.returns-in-Ok-table_from_str-clause-ok
returns-in-Ok-table_from_str-clause-ok c =
    tree_known c.args.bytes.now c.in-Ok.text.now _ c.in-Ok.ensures.cases.0 c.in-Ok.ensures.cases.1 c.in-Ok-table_from_str.ensures.ok
