use Rattle.std.proofs.Common.{List, ℕ, [], ◌∷◌, refl, sym, subst}
use Rattle.sd_plan.specs.topo.Topologies.{network}
use Rattle.sd_drill_text.proofs.Prefixes.{adds_nothing, adds_one}
use Rattle.sd_drill_text.proofs.Ranges.{has_one}
use Rattle.sd_drill_text.proofs.writing.write_domain.Goals as goal

pub returns-in-Ok-clause-adds : goal.returns-in-Ok-clause-adds
returns-in-Ok-clause-adds g c =
    let net = network c.args.planned.topo.now in
    let plan = c.args.planned.plan.now in
    let budget = g.D.DomainLines.granted c.args.room.now.lines in
    let lines = g.D.DomainLines.lines net plan budget in
    let printed = c.printed.result.now in
    let are = subst (λ (bytes : List ℕ). lines c.args.domain bytes) (sym c.printed.ensures) c.in-Ok.ensures.lines in
    adds_one lines c.args.domain printed _ _ c.send.result are
    (g.met.D.DomainLines.ends net plan budget c.args.domain printed are) c.send.ensures.only c.send.ensures.writes

pub returns-in-Err-clause-adds : goal.returns-in-Err-clause-adds
returns-in-Err-clause-adds g c =
    let net = network c.args.planned.topo.now in
    let plan = c.args.planned.plan.now in
    let budget = g.D.DomainLines.granted c.args.room.now.lines in
    let lines = g.D.DomainLines.lines net plan budget in
    let has = g.met.D.DomainLines.has net plan budget c.args.planned.topo.now.is_network c.args.planned.is_index.fits c.requires.accepted in
    let out = g.O.Sink.written c.args.out.now in
    adds_nothing lines (Unit {0}) (c.args.domain ∷ []) out out (has_one net lines has c.args.domain c.requires.domain) refl
