use Rattle.std.proofs.Common.{◌≡◌, ◌+◌, ◌∙◌, Some, get_or, ap, sym, subst, arith, slice_get}
use Rattle.std.proofs.lemmas.Bool.{eq-eqb, ne_eqb}
use Rattle.std.proofs.lemmas.Option.{slice_get-get_or}
use Rattle.sd_plan.specs.domain.NumberSets.{Numbers}
use Rattle.sd_planner.specs.Views.{net_of, left_out}
use Rattle.sd_planner.specs.declared.present.Neighbour.{Neighbour}
use Rattle.sd_why.specs.Bridges.{IsAround}
use Rattle.sd_why.proofs.Searches.{around_end, around_over, around_past}
use Rattle.sd_why.proofs.bridges.meet_besides.Goals as goal
use Rattle.sd_why.proofs.bridges.meet_besides.Goals.{then-neighbour-link, else-neighbour-link}

pub loop-neighbour-preserved : goal.loop-neighbour-preserved
loop-neighbour-preserved c =
    let net = net_of c.args.present.now in
    let l = c.args.link in
    let d = c.args.d in
    let near = c.neighbours_of-neighbours.result.now in
    let i = c.loop-neighbour.neighbour-index in
    let old = c.args.met.now.numbers in
    let new = c.loop-neighbour.met.numbers in
    let this : Neighbour = get_or near i (record { device = 0; link = 0 }) in
    let at : slice_get near i ≡ Some this = slice_get-get_or near i (record { device = 0; link = 0 }) c.loop-neighbour-test.true in
    let are = c.neighbours_of-neighbours.ensures.are in
    let absent = left_out c.args.present.now in
    elim c.if-neighbour-link.branch [
      | then-neighbour-link w ↦
          (let is = w.met-is ∙ w.insert.ensures.added in
          record {
            room = ap (λ (m : Numbers). m.bound) is ∙ c.loop-neighbour.invariant.room;
            around = subst (λ (m : Numbers). IsAround net l d (i + 1) near old m.numbers) (sym is)
                (around_over net l d absent near are i old new this at (ne_eqb this.link l w.if-neighbour-link.true) c.loop-neighbour.invariant.around);
          })
      | else-neighbour-link w ↦
          record {
            room = ap (λ (m : Numbers). m.bound) w.met-is ∙ c.loop-neighbour.invariant.room;
            around = subst (λ (m : Numbers). IsAround net l d (i + 1) near old m.numbers) (sym w.met-is)
                (around_past net l d absent near are i old new this at (eq-eqb this.link l w.if-neighbour-link.false) c.loop-neighbour.invariant.around);
          }
    ]

pub returns-clause-met : goal.returns-clause-met
returns-clause-met c =
    around_end (net_of c.args.present.now) c.args.link c.args.d (left_out c.args.present.now) c.neighbours_of-neighbours.result.now
    c.neighbours_of-neighbours.ensures.are c.loop-neighbour.neighbour-index c.args.met.now.numbers c.loop-neighbour.met.numbers c.requires.whole
    (omega (arith, c.loop-neighbour-test.false)) c.loop-neighbour.invariant.around
