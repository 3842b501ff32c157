use Rattle.std.proofs.Common.{arith}
use Rattle.sd_checker.proofs.check_loop.Searching.{condemned_at, condemned_left}
use Rattle.sd_checker.proofs.check_loop.marking.condemn.Goals as goal

pub returns-clause-searched : goal.returns-clause-searched
returns-clause-searched c =
    condemned_at c.args.graph.now c.args.marks.now.items c.deref_mut.result.now c.mark_endless.new.marks c.args.stack.now.items c.deref.result.now
    c.args.marks.now.len
    c.deref_mut.ensures.value c.deref.ensures.value (omega (arith, c.args.marks.now.ok.0)) c.mark_endless.auto.marks c.mark_endless.ensures
    c.requires.searched c.requires.endless c.clear.new.self.items c.clear.ensures.items

pub returns-clause-left : goal.returns-clause-left
returns-clause-left c =
    condemned_left c.args.graph.now c.args.marks.now.items c.deref_mut.result.now c.mark_endless.new.marks c.args.stack.now.items c.deref.result.now
    c.args.marks.now.len
    c.deref_mut.ensures.value c.deref.ensures.value (omega (arith, c.args.marks.now.ok.0)) c.mark_endless.auto.marks c.mark_endless.ensures
    c.requires.some c.clear.new.self.items c.clear.ensures.items
