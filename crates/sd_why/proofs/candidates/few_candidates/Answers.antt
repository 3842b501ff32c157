use Rattle.std.proofs.Common.{ℕ, List, ◌<◌, length, subst}
use Rattle.sd_plan.specs.topo.Topologies.{network}
use Rattle.sd_why.proofs.Laws.{few_candidates_law}
use Rattle.sd_why.proofs.candidates.few_candidates.Goals as goal

pub returns-then-count-lt2-clause-law : goal.returns-then-count-lt2-clause-law
returns-then-count-lt2-clause-law c =
    few_candidates_law (network c.args.topo.now) (subst (λ (xs : List ℕ). length xs < 2) c.roots-count.ensures c.if-count-lt2.true)
