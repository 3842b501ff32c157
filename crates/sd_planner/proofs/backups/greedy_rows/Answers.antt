use Rattle.std.proofs.Common.{◌≡◌, ℕ, length, map, sym, ap, ◌∙◌, arith, rules}
use Rattle.sd_num.specs.Lists.{below}
use Rattle.sd_planner.specs.declared.present.Present.{Present}
use Rattle.sd_planner.specs.Views.{net_of, left_out}
use Rattle.sd_planner.proofs.Growing.{placed_grows}
use Rattle.sd_planner.specs.Serving.{greedy_row, greedy_rows}
use Rattle.sd_planner.specs.Surveys.{net_in}
use Rattle.sd_planner.proofs.Rowing.{clear_first}
use Rattle.sd_planner.proofs.RowFitting.{rows_fit}
use Rattle.sd_planner.proofs.backups.greedy_rows.Goals as goal

pub loop-d-init : goal.loop-d-init
loop-d-init c =
    record {
      rows = search rules;
      clear =
          clear_first (net_in c.in_ok-survey.survey) c.domains.result c.in_ok-joining.joining.items c.in_ok-joining.ensures
          (c.domains.ensures ∙ ap (λ (p : Present). length (net_of p).domains) (sym c.in_ok-survey.ensures.present));
    }

pub returns-clause-rows : goal.returns-clause-rows
unfolding greedy_rows
returns-clause-rows c =
    let net = net_of c.args.present.now in
    let absent = left_out c.args.present.now in
    let root = c.in_ok-survey.survey.root in
    let all : c.loop-d.d ≡ length net.devices = omega arith in
    c.loop-d.invariant.rows
    ∙ ap (λ (p : Present). map (greedy_row (net_of p) root (left_out p)) (below c.loop-d.d)) c.in_ok-survey.ensures.present
    ∙ ap (λ (r : ℕ). map (greedy_row net r absent) (below c.loop-d.d)) c.in_ok-survey.ensures.root
    ∙ ap (λ n. map (greedy_row net c.args.root absent) (below n)) all

pub returns-clause-fit : goal.returns-clause-fit
returns-clause-fit c =
    let net = net_of c.args.present.now in
    let absent = left_out c.args.present.now in
    rows_fit net c.args.root absent (placed_grows net c.args.root absent c.args.present.now.topo.now.is_network c.requires.root) c.loop-d.rows
    (returns-clause-rows c)
