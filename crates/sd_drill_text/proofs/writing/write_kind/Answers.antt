use Rattle.std.proofs.Common.{rules, ◌∙◌, ◌<◌, [], ◌∷◌, Result, Err, subst, arith}
use Rattle.sd_plan.specs.topo.Topologies.{network}
use Rattle.sd_drill.specs.declared.Budget.{Budget}
use Rattle.sd_files.specs.declared.command_error.IoError.{IoError}
use Rattle.sd_drill_text.specs.Adding.{Added, AddsLines}
use Rattle.sd_drill_text.specs.Kinds.{all_of, count_of}
use Rattle.sd_files.proofs.work.Adding.{handed_on}
use Rattle.sd_drill_text.proofs.Ranges.{kind_more, kind_stopped}
use Rattle.sd_drill_text.proofs.writing.write_kind.Goals as goal

pub returns-in_err-write_domain-clause-adds : goal.returns-in_err-write_domain-clause-adds
returns-in_err-write_domain-clause-adds g c =
    let net = network c.args.planned.topo.now in
    let plan = c.args.planned.plan.now in
    let budget = g.D.DomainLines.granted c.args.room.now.lines in
    let lines = g.D.DomainLines.lines net plan in
    let has = g.met.D.DomainLines.has net plan budget c.args.planned.topo.now.is_network c.args.planned.is_index.fits c.requires.accepted in
    let come = c.loop-number.invariant in
    let why = c.in_err-write_domain.field-0.0 in
    let before = g.O.Sink.written c.loop-number.out in
    let after = g.O.Sink.written c.write_domain.new.out in
    let first = g.O.Sink.written c.args.out.now in
    let less : c.loop-number.number < count_of net c.args.kind = omega (arith, c.loop-number-test.true, c.count-number-end.ensures) in
    subst (λ (r : Result (Unit {0}) IoError). AddsLines (lines budget) (all_of net c.args.kind) first after r)
    (handed_on c.from_residual.result why c.from_residual.ensures.1)
    (kind_stopped net (lines budget) has (Unit {0})
    (Unit {0}) c.args.kind c.loop-number.number c.domain.result first before after why less
    c.domain.ensures.is come.added
    (subst (λ (b : Budget). AddsLines {T = Unit {0}} (lines b) (c.domain.result ∷ []) before after (Err why)) come.granted c.in_err-write_domain.ensures.adds))

pub loop-number-preserved : goal.loop-number-preserved
loop-number-preserved g c =
    let net = network c.args.planned.topo.now in
    let plan = c.args.planned.plan.now in
    let budget = g.D.DomainLines.granted c.args.room.now.lines in
    let lines = g.D.DomainLines.lines net plan in
    let has = g.met.D.DomainLines.has net plan budget c.args.planned.topo.now.is_network c.args.planned.is_index.fits c.requires.accepted in
    let come = c.loop-number.invariant in
    let before = g.O.Sink.written c.loop-number.out in
    let after = g.O.Sink.written c.write_domain.new.out in
    let first = g.O.Sink.written c.args.out.now in
    record {
      added = kind_more net (lines budget) has c.args.kind c.loop-number.number
          c.domain.result first before after c.domain.ensures.is come.added
          (subst (λ (b : Budget). Added (lines b) (c.domain.result ∷ []) before after) come.granted c.in_ok-write_domain.ensures.adds);
      room = c.write_domain.ensures.room.ready;
      granted = c.write_domain.ensures.room.budget ∙ come.granted;
      steady = search (rules, come.steady);
    }
