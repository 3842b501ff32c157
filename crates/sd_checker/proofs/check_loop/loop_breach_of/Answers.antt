use Rattle.std.proofs.Common.{◌∙◌, refl, sym}
use Rattle.std.proofs.lemmas.Bool.{eqb-true}
use Rattle.std.proofs.lemmas.List.{nil_from_length}
use Rattle.std.proofs.lemmas.Result.{IfOk-weaker}
use Rattle.sd_checker.specs.check_hit.Outages.{net_of, plan_of}
use Rattle.sd_checker.specs.check_loop.Answered.{LoopShown}
use Rattle.sd_checker.specs.check_loop.Shown.{AnswersFor}
use Rattle.sd_checker.proofs.check_loop.Answering.{answered, none_hit}
use Rattle.sd_checker.proofs.check_loop.Listed.{hit_ascends}
use Rattle.sd_checker.proofs.check_loop.Judging.{is_graph}
use Rattle.sd_checker.proofs.check_loop.loop_breach_of.Goals as goal

pub returns-then-is_empty : goal.returns-then-is_empty
returns-then-is_empty c =
    let o = c.args.outage.now in
    none_hit (net_of o) (plan_of o) o.domain o.planned.is_index.fits o.planned.is_index.structured o.hit.now o.hits
    (nil_from_length o.hit.now (eqb-true _ 0 (sym c.is_empty.ensures ∙ c.if-is_empty.true)))

pub loop_among-requires-clause-ascending : goal.loop_among-requires-clause-ascending
loop_among-requires-clause-ascending c =
    let o = c.args.outage.now in
    hit_ascends (net_of o) (plan_of o) o.domain o.hit.now o.hits

pub loop_among-requires-clause-graph : goal.loop_among-requires-clause-graph
loop_among-requires-clause-graph c =
    let o = c.args.outage.now in
    is_graph (net_of o) (plan_of o) o.domain o.planned.is_index.fits o.planned.is_index.structured o.hit.now o.hits _ refl

pub returns : goal.returns
returns c =
    let o = c.args.outage.now in
    IfOk-weaker c.loop_among.result (AnswersFor (plan_of o) o.hit.now) (LoopShown (net_of o) (plan_of o) o.domain)
    (λ shown is. answered (net_of o) (plan_of o) o.domain o.planned.is_index.fits o.planned.is_index.structured o.hit.now o.hits shown is)
    c.loop_among.ensures
