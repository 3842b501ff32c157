-- The least device on the loop that the walk came to settles what the walk has passed, and the lesser of it and the first that was found settles all.
use Rattle.std.proofs.Common.{ℕ, Some, subst}
use Rattle.std.proofs.lemmas.Option.{same_Some}
use Rattle.sd_replay.specs.watch.Watch.{parent_in}
use Rattle.sd_replay.specs.watch.Settled.{IsSettled}
use Rattle.sd_replay.proofs.watch.Marking.{settled_lower, all_settled_lower}
use Rattle.sd_replay.proofs.watch.marks.settle.Goals as goal

pub returns-in-Some-clause-settled : goal.returns-in-Some-clause-settled
returns-in-Some-clause-settled c =
    let parent = parent_in c.args.parents.now in
    c.in-Some.ensures.settled (Some c.lesser.result)
    (all_settled_lower parent c.args.first c.lesser.result c.args.marks.now c.lesser.ensures.first c.requires.settled)
    (λ d same. settled_lower parent (Some c.least_on_loop.result) c.lesser.result d c.lesser.ensures.other
    (subst (λ (e : ℕ). IsSettled parent (Some c.least_on_loop.result) e) (same_Some c.in-Some.met d same) c.least_on_loop.ensures.least))
