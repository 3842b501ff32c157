use Rattle.std.proofs.Common.{Result, subst}
use Rattle.sd_plan.specs.topo.Topologies.{network}
use Rattle.sd_files.specs.declared.Status.{Status}
use Rattle.sd_files.specs.declared.command_error.IoError.{IoError}
use Rattle.sd_drill_text.specs.Adding.{AddsAll}
use Rattle.sd_drill_text.proofs.Prefixes.{adds_last, stopped_before_last}
use Rattle.sd_files.proofs.work.Adding.{handed_on}
use Rattle.sd_drill_text.proofs.writing.write_whole.Goals as goal

pub returns-in_err-write_domains-clause-adds : goal.returns-in_err-write_domains-clause-adds
returns-in_err-write_domains-clause-adds g c =
    let net = network c.args.planned.topo.now in
    let plan = c.args.planned.plan.now in
    let lines = g.D.DomainLines.lines net plan (g.D.DomainLines.granted c.args.room.now.lines) in
    let first = g.O.Sink.written c.args.out.now in
    let after = g.O.Sink.written c.write_domains.new.out in
    let why = c.in_err-write_domains.field-0.0 in
    subst (λ (r : Result Status IoError). AddsAll lines net plan first after r) (handed_on c.from_residual.result why c.from_residual.ensures.1)
    (stopped_before_last lines net plan (Unit {0}) first after why c.in_err-write_domains.ensures.adds)

pub returns-clause-adds : goal.returns-clause-adds
returns-clause-adds g c =
    let net = network c.args.planned.topo.now in
    let plan = c.args.planned.plan.now in
    let lines = g.D.DomainLines.lines net plan (g.D.DomainLines.granted c.args.room.now.lines) in
    adds_last lines net plan _ _ _ c.write_done.result c.in_ok-write_domains.ensures.adds c.write_done.ensures.status
    c.write_done.ensures.only c.write_done.ensures.writes
