use Rattle.std.proofs.Common.{List, ℕ, subst, sym, arith}
use Rattle.sd_checker.specs.check_loop.Markings.{IsSearch}
use Rattle.sd_checker.proofs.check_loop.Searching.{search_begun}
use Rattle.sd_checker.proofs.check_loop.marking.marks_of.Goals as goal

pub loop-start-init : goal.loop-start-init
loop-start-init c =
    record {
      searched = subst (λ (stack : List ℕ). IsSearch c.args.graph.now c.in-Ok.marks.items stack) (sym c.new-stack.ensures.items)
          (search_begun c.args.graph.now c.in-Ok.marks.items (c.in-Ok.ensures.items_if_clones_equal (λ y same. same)));
      alone = c.new-stack.ensures.items;
      old = λ k below. absurd (omega arith);
    }
