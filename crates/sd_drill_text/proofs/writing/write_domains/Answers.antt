use Rattle.std.proofs.Common.{◌∙◌, Result, Err, subst}
use Rattle.sd_plan.specs.topo.Topologies.{network}
use Rattle.sd_plan.specs.domain.Domains.{domains}
use Rattle.sd_drill.specs.declared.Budget.{Budget}
use Rattle.sd_files.specs.declared.command_error.IoError.{IoError}
use Rattle.sd_drill_text.specs.Adding.{Added, AddsLines}
use Rattle.sd_drill_text.specs.Kinds.{all_of}
use Rattle.sd_drill_text.specs.declared.kinds.Kind.TheVariants as kind
use Rattle.sd_files.proofs.work.Adding.{handed_on}
use Rattle.sd_drill_text.proofs.Ranges.{come_third, stopped_first, stopped_second}
use Rattle.sd_drill_text.proofs.writing.write_domains.Goals as goal

pub returns-in_err-write_kind-clause-adds : goal.returns-in_err-write_kind-clause-adds
returns-in_err-write_kind-clause-adds g c =
    let net = network c.args.planned.topo.now in
    let plan = c.args.planned.plan.now in
    let budget = g.D.DomainLines.granted c.args.room.now.lines in
    let lines = g.D.DomainLines.lines net plan in
    let has = g.met.D.DomainLines.has net plan budget c.args.planned.topo.now.is_network c.args.planned.is_index.fits c.requires.accepted in
    let first = g.O.Sink.written c.args.out.now in
    let after = g.O.Sink.written c.write_kind.new.out in
    let why = c.in_err-write_kind.field-0.0 in
    subst (λ (r : Result (Unit {0}) IoError). AddsLines (lines budget) (domains net) first after r)
    (handed_on c.from_residual.result why c.from_residual.ensures.1)
    (stopped_first net (lines budget) has (Unit {0})
    (Unit {0}) first after why c.in_err-write_kind.ensures.adds)

pub returns-in_err-write_kind-2-clause-adds : goal.returns-in_err-write_kind-2-clause-adds
returns-in_err-write_kind-2-clause-adds g c =
    let net = network c.args.planned.topo.now in
    let plan = c.args.planned.plan.now in
    let budget = g.D.DomainLines.granted c.args.room.now.lines in
    let lines = g.D.DomainLines.lines net plan in
    let has = g.met.D.DomainLines.has net plan budget c.args.planned.topo.now.is_network c.args.planned.is_index.fits c.requires.accepted in
    let first = g.O.Sink.written c.args.out.now in
    let before = g.O.Sink.written c.write_kind.new.out in
    let after = g.O.Sink.written c.write_kind-2.new.out in
    let why = c.in_err-write_kind-2.field-0.0 in
    subst (λ (r : Result (Unit {0}) IoError). AddsLines (lines budget) (domains net) first after r)
    (handed_on c.from_residual-in_err-write_kind-2.result why c.from_residual-in_err-write_kind-2.ensures.1)
    (stopped_second net (lines budget) has (Unit {0})
    (Unit {0}) first before after why c.in_ok-write_kind.ensures.adds
    (subst (λ (b : Budget). AddsLines {T = Unit {0}} (lines b) (all_of net kind.Device) before after (Err why)) c.write_kind.ensures.room.budget
    c.in_err-write_kind-2.ensures.adds))

pub returns-clause-adds : goal.returns-clause-adds
returns-clause-adds g c =
    let net = network c.args.planned.topo.now in
    let plan = c.args.planned.plan.now in
    let budget = g.D.DomainLines.granted c.args.room.now.lines in
    let lines = g.D.DomainLines.lines net plan in
    let has = g.met.D.DomainLines.has net plan budget c.args.planned.topo.now.is_network c.args.planned.is_index.fits c.requires.accepted in
    let first = g.O.Sink.written c.args.out.now in
    let before = g.O.Sink.written c.write_kind.new.out in
    let between = g.O.Sink.written c.write_kind-2.new.out in
    let after = g.O.Sink.written c.write_kind-3.new.out in
    come_third net (lines budget) has first before between after
    c.write_kind-3.result c.in_ok-write_kind.ensures.adds
    (subst (λ (b : Budget). Added (lines b) (all_of net kind.Device) before between) c.write_kind.ensures.room.budget c.in_ok-write_kind-2.ensures.adds)
    (subst (λ (b : Budget). AddsLines (lines b) (all_of net kind.Link) between after c.write_kind-3.result)
    (c.write_kind-2.ensures.room.budget ∙ c.write_kind.ensures.room.budget) c.write_kind-3.ensures.adds)
