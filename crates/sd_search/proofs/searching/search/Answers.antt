use Rattle.sd_plan.specs.topo.Topologies.{network}
use Rattle.sd_search.proofs.Greedy.{as_good}
use Rattle.sd_search.proofs.searching.search.Goals as goal

pub returns-in_ok-refine-in-Some-clause-good : goal.returns-in_ok-refine-in-Some-clause-good
returns-in_ok-refine-in-Some-clause-good c =
    as_good (network c.args.topo.now) c.args.absent.now c.args.root c.args.settings.budget c.in_ok-first.field-0 c.in-Some.first
    c.in_ok-refine-in-Some.field-0 c.in-Some.is c.in_ok-first.ensures c.in_ok-refine-in-Some.ensures.good
