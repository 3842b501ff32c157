use Rattle.std.proofs.Common.{◌≤◌, ◌++◌, ◌∷◌, [], Some, ap, sym, ◌∙◌, subst}
use Rattle.std.proofs.lemmas.Result.{IfOk-weaker}
use Rattle.serde_json.specs.Data.{Data, depth}
use Rattle.serde_json.specs.Read.{max_depth}
use Rattle.serde_json.specs.Written.{compact_text}
use Rattle.sd_plan.specs.topo.Topologies.{network}
use Rattle.sd_plantext.specs.Meaning.{plan_of}
use Rattle.sd_plantext.specs.PrintedTree.{IsPlain}
use Rattle.sd_plantext.proofs.ReadBack.{plan_read_back}
use Rattle.sd_plantext.proofs.Shape.{plan_plain, plan_depth}
use Rattle.sd_plantext.proofs.Shown.{plan_shown}
use Rattle.sd_plantext.proofs.print.plan_line.Goals as goal

pub line_of-requires-clause-plain : goal.line_of-requires-clause-plain
line_of-requires-clause-plain c =
    subst (λ (d : Data). IsPlain d) (sym c.in_ok-value.ensures) (plan_plain (network c.args.topo.now) c.args.plan.now c.requires.fits)

pub line_of-requires-clause-depth : goal.line_of-requires-clause-depth
line_of-requires-clause-depth c = subst (λ (d : Data). depth d ≤ max_depth) (sym c.in_ok-value.ensures) (plan_depth (network c.args.topo.now) c.args.plan.now)

pub returns-clause-text : goal.returns-clause-text
returns-clause-text c =
    let net = network c.args.topo.now in
    IfOk-weaker c.line_of.result _ _ (λ text is. is ∙ ap (λ (d : Data). compact_text d ++ 10 ∷ []) c.in_ok-value.ensures
    ∙ plan_shown net c.args.plan.now c.args.topo.now.is_network) c.line_of.ensures.text

pub returns-clause-reads_back : goal.returns-clause-reads_back
returns-clause-reads_back c =
    let net = network c.args.topo.now in
    let plan = c.args.plan.now in
    IfOk-weaker c.line_of.result _ _ (λ text is. ap (plan_of net) (is ∙ ap (λ (d : Data). Some d) c.in_ok-value.ensures)
    ∙ plan_read_back net plan c.args.topo.now.is_network c.requires.fits) c.line_of.ensures.reads_back
