use Rattle.std.proofs.Common.{◌≡◌, [], false, replicate, nat_eq, subst, sym, arith}
use Rattle.std.specs.List.{IsDistinct}
use Rattle.sd_plan.proofs.domain.Marks.{AreMarked, none_marked_first, distinct_none}
use Rattle.sd_plan.proofs.domain.number_set.NumberSet.new.Goals as goal

pub invariant_of-result : goal.invariant_of-result
invariant_of-result c =
    let marks_are : c.in-Ok.marks.items ≡ replicate c.args.bound false = c.in-Ok.ensures.items_if_clones_equal (λ y same. same) in
    record {
      marked =
          subst (AreMarked c.in-Ok.marks.items) (sym c.in-Ok-with_capacity.ensures.items)
          (subst (λ marks. AreMarked marks []) (sym marks_are) (none_marked_first c.args.bound));
      distinct = subst (IsDistinct nat_eq) (sym c.in-Ok-with_capacity.ensures.items) distinct_none;
      room = omega (arith, c.in-Ok.ensures.len, c.in-Ok-with_capacity.ensures.capacity);
    }
