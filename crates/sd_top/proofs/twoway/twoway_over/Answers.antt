use Rattle.std.proofs.Common.{List, ℕ, Some, true}
use Rattle.sd_plan.specs.topo.Topologies.{network}
use Rattle.sd_files.specs.Answering.{InWrites}
use Rattle.sd_io.specs.stream.Reader.{IsNear}
use Rattle.sd_files.specs.work.Ending.{LeavesAt}
use Rattle.sd_files.specs.work.Works.{InSteps, IsOutcome, refused_part}
use Rattle.sd_commands.specs.twoway.Twoways.{twoway_work}
use Rattle.sd_top.proofs.Bounding.{rest_told}
use Rattle.sd_top.proofs.twoway.twoway_over.Goals as goal

pub returns-in-Ok-clause-outcome : goal.returns-in-Ok-clause-outcome
returns-in-Ok-clause-outcome g c =
    let work = twoway_work (network c.args.topo.now) in
    rest_told (λ (text : List ℕ). LeavesAt true (InWrites (InSteps work text) (IsOutcome work text)) _ _ c.bound_links.result) _ _ _ c.in-Ok.ensures.text
    c.bound_links.ensures.outcome

pub returns-in-Ok-clause-near : goal.returns-in-Ok-clause-near
returns-in-Ok-clause-near g c =
    λ refused.
    rest_told (λ (text : List ℕ). IsNear (Some (refused_part (twoway_work (network c.args.topo.now)) text)) _) _ _ _ c.in-Ok.ensures.text
    (c.bound_links.ensures.near refused)
