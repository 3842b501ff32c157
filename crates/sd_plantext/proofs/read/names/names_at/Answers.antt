use Rattle.std.proofs.Common.{◌∙◌}
use Rattle.serde_json.specs.View.{view, items_view}
use Rattle.sd_plan.specs.topo.Topologies.{network}
use Rattle.sd_plantext.specs.Counted.{names_of}
use Rattle.sd_plantext.proofs.Sound.{names_are}
use Rattle.sd_plantext.proofs.read.names.names_at.Goals as goal

pub returns-in-Ok : goal.returns-in-Ok
returns-in-Ok c =
    names_are c.args.key (names_of c.args.kind (network c.args.topo.now)) (view c.args.object.now)
    (items_view c.in_ok-items.items.now) c.in_ok-listed.listed.keys c.from_vec.result
    c.in_ok-items.ensures c.in_ok-listed.ensures (λ count bound. c.from_vec.ensures ∙ c.in-Ok.ensures.ok count bound)
