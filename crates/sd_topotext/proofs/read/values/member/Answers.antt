use Rattle.std.proofs.Common.{◌∙◌, ap}
use Rattle.toml.specs.Data.{get_member}
use Rattle.toml.specs.View.{members_view}
use Rattle.toml.proofs.Views.{table_get}
use Rattle.sd_topotext.proofs.read.values.member.Goals as goal

pub returns : goal.returns
returns c =
    table_get c.get.result c.in_table.result.now c.args.table.now.entries c.get.ensures.value
    ∙ ap (λ k. get_member k (members_view c.args.table.now.entries)) c.in_table.ensures
