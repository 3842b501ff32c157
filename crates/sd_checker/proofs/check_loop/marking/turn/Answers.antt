use Rattle.std.proofs.Common.{◌≡◌, true, List, ap, sym, subst, ◌∙◌, ℕ}
use Rattle.sd_checker.specs.check_loop.Graphs.{leads}
use Rattle.sd_checker.specs.check_loop.Markings.{step_at}
use Rattle.sd_checker.specs.declared.check_loop.marking.Mark.{Mark}
use Rattle.sd_checker.specs.declared.check_loop.marking.Step.TheVariants as step
use Rattle.sd_checker.proofs.check_loop.Searching.{is_condemned}
use Rattle.sd_checker.proofs.check_loop.marking.turn.Goals as goal

pub condemn-requires-clause-endless : goal.condemn-requires-clause-endless
condemn-requires-clause-endless c = λ k last.
    let is : step_at c.args.graph.now c.args.marks.now.items c.args.top ≡ step.Condemn =
    ap (λ (marks : List Mark). step_at c.args.graph.now marks c.args.top) (sym c.deref.ensures.value) ∙ sym c.in-Condemn.ensures in
    let next = is_condemned c.args.graph.now c.args.marks.now.items c.args.top is in
    (next.0, subst (λ (x : ℕ). leads c.args.graph.now x next.0 ≡ true) (sym (c.requires.top k last)) next.1, next.2)
