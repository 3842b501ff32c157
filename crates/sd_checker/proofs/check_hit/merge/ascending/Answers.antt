use Rattle.std.proofs.Common.{◌≡◌, ℕ, List, subst, sym, ◌∙◌, arith}
use Rattle.std.specs.List.Sorted.{IsPermutation, IsNonDecreasing}
use Rattle.std.proofs.lemmas.List.{take_all}
use Rattle.std.proofs.lemmas.List.Sorted.{IsNonDecreasingBy-from_sort}
use Rattle.sd_checker.proofs.check_hit.merge.ascending.Goals as goal

pub returns : goal.returns
returns c =
    let all : c.loop-number.list ≡ c.sort_unstable.new.self.items =
    c.loop-number.invariant ∙ take_all c.loop-number.number-index c.deref-number-items.result.now (omega arith) ∙ c.deref-number-items.ensures.value
    in
    subst (λ (list : List ℕ). IsPermutation c.args.numbers.items list × IsNonDecreasing list) (sym all)
    (c.sort_unstable.ensures.permutation, IsNonDecreasingBy-from_sort (λ (x : ℕ). x) c.sort_unstable.new.self.items c.sort_unstable.ensures.sorted)
