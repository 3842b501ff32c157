use Rattle.std.proofs.Common.{ℕ, List, ◌∙◌, subst}
use Rattle.std.specs.List.Sorted.{IsPermutation}
use Rattle.sd_plan.proofs.topo.Ascending.{sorted_ascending}
use Rattle.sd_plantext.proofs.read.names.sorted.Goals as goal

pub returns-in-Ok-sort-clause-ok : goal.returns-in-Ok-sort-clause-ok
returns-in-Ok-sort-clause-ok c = λ count bound.
    let moved = subst (λ (l : List ℕ). IsPermutation l c.sort.new.self.items)
    (c.in-Ok.ensures.items ∙ c.as_slice.ensures.keys) c.in-Ok-sort.ensures.permutation in
    sorted_ascending count c.args.listed.now.keys c.sort.new.self.items c.as_slice.ensures.unique bound moved c.in-Ok-sort.ensures.sorted
