use Rattle.std.proofs.Common.{subst, sym, List, ℕ, set as put}
use Rattle.sd_checker.specs.check_loop.Markings.{IsSearch}
use Rattle.sd_checker.specs.declared.check_loop.marking.Mark.TheVariants as mark
use Rattle.sd_checker.proofs.check_loop.Searching.{search_entered}
use Rattle.sd_checker.proofs.check_loop.marking.enter.Goals as goal

pub returns-clause-searched : goal.returns-clause-searched
returns-clause-searched c =
    subst (λ (stack : List ℕ). IsSearch c.args.graph.now (put c.args.marks.now.items c.args.next mark.Entered) stack) (sym c.in-Ok.ensures.items)
    (search_entered c.args.graph.now c.args.marks.now.items c.args.stack.now.items c.requires.searched c.args.next c.requires.place c.requires.new
    c.requires.led)
