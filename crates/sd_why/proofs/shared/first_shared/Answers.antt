use Rattle.std.proofs.Common.{length, sym, arith}
use Rattle.sd_plan.specs.topo.Topologies.{network}
use Rattle.sd_num.proofs.Firsts.{find_below_here, find_below_more}
use Rattle.sd_why.specs.Kinds.{shares_all}
use Rattle.sd_why.proofs.shared.first_shared.Goals as goal

pub returns-then-has_all : goal.returns-then-has_all
returns-then-has_all c =
    sym (find_below_here (shares_all (network c.args.topo.now)) c.loop-k.k (length (network c.args.topo.now).domains) (omega arith) c.loop-k.invariant
    (sym c.if-has_all.ensures))

pub loop-k-preserved : goal.loop-k-preserved
loop-k-preserved c = find_below_more (shares_all (network c.args.topo.now)) c.loop-k.k c.loop-k.invariant (sym c.if-has_all.ensures)
