use Rattle.std.proofs.Common.{refl}
use Rattle.sd_plan.specs.topo.Topologies.{network}
use Rattle.sd_plan.specs.domain.Domains.{domains}
use Rattle.sd_files.specs.declared.command_error.IoError.TheVariants as stop
use Rattle.sd_drill_text.proofs.Prefixes.{adds_nothing, stopped_before_last}
use Rattle.sd_drill_text.proofs.Ranges.{has_all}
use Rattle.sd_drill_text.proofs.writing.write_plan.Goals as goal

pub returns-in-Err-clause-adds : goal.returns-in-Err-clause-adds
returns-in-Err-clause-adds g c =
    let net = network c.args.topo.now in
    let plan = c.args.plan.now in
    let lines = g.D.DomainLines.lines net plan c.args.budget in
    let has = g.met.D.DomainLines.has net plan c.args.budget c.args.topo.now.is_network c.requires.fits c.requires.accepted in
    let out = g.O.Sink.written c.args.out.now in
    stopped_before_last lines net plan (Unit {0}) out out stop.Memory
    (adds_nothing lines (Unit {0}) (domains net) out out (has_all net lines has) refl)
