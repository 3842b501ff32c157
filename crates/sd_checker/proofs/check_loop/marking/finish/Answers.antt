use Rattle.std.proofs.Common.{arith}
use Rattle.sd_checker.proofs.check_loop.Searching.{finished_at}
use Rattle.sd_checker.proofs.check_loop.marking.finish.Goals as goal

pub returns-clause-searched : goal.returns-clause-searched
returns-clause-searched c =
    finished_at c.args.graph.now c.args.marks.now.items c.args.stack.now.items c.pop.new.self.items c.args.stack.now.len c.args.top c.requires.searched
    (omega (arith, c.args.stack.now.ok.0))
    c.requires.some c.requires.top c.requires.ends c.pop.ensures.rest
