use Rattle.toml.specs.View.{table_view, items_view}
use Rattle.sd_plan.specs.topo.Seen.{names_seen}
use Rattle.sd_topotext.proofs.Sound.{members_are}
use Rattle.sd_topotext.proofs.read.domains.members_at.Goals as goal

pub returns-in-Ok : goal.returns-in-Ok
returns-in-Ok g c =
    members_are c.args.key c.args.entry (names_seen c.args.names.now) (table_view c.args.table.now)
    (items_view c.in_ok-items.items.now) c.in_ok-listed.listed.keys c.in-Ok.numbers.items
    c.in_ok-items.ensures c.in_ok-listed.ensures c.in-Ok.ensures.ok
