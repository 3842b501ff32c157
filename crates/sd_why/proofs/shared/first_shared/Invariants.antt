use Rattle.std.proofs.Common.{◌≡◌, find, None}
use Rattle.sd_num.specs.Lists.{below}
use Rattle.sd_plan.specs.topo.Topologies.{network}
use Rattle.sd_why.specs.Kinds.{shares_all}
use Rattle.sd_why.proofs.shared.first_shared.Given as goal

abbrev pub invariant-loop-k : goal.invariant-loop-k
invariant-loop-k l = find (shares_all (network l.topo)) (below l.k) ≡ None
