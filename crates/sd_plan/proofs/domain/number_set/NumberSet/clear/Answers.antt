use Rattle.std.proofs.Common.{◌≡◌, ℕ, false, not, ◌&&◌, nat_eq, get_or, subst, sym, arith}
use Rattle.std.specs.List.{IsDistinct}
use Rattle.std.specs.Vec.{with_items}
use Rattle.std.proofs.lemmas.List.{with_items_is}
use Rattle.sd_num.specs.Lists.{has}
use Rattle.sd_plan.proofs.domain.Marks.{AreMarked, all_below_marks, none_marked, distinct_none}
use Rattle.sd_plan.proofs.domain.number_set.NumberSet.clear.Goals as goal

pub unmark-requires : goal.unmark-requires
unmark-requires c =
    let s = c.self.inside in
    rw (c.deref.ensures.value, c.deref_mut.ensures.value) (all_below_marks s.marks.items s.numbers.items c.self.invariant.marked)

pub invariant_of-self : goal.invariant_of-self
invariant_of-self c =
    let s = c.self.inside in
    let kept : (with_items s.marks c.unmark.new.marks).items ≡ c.unmark.new.marks =
    with_items_is s.marks c.unmark.new.marks (omega (arith, c.deref_mut.ensures.len)) in
    let taken : (k : ℕ) → get_or (with_items s.marks c.unmark.new.marks).items k false ≡ (get_or s.marks.items k false && not (has s.numbers.items k)) =
    rw (kept, ← c.deref.ensures.value, ← c.deref_mut.ensures.value) c.unmark.ensures
    in
    record {
      marked =
          subst (AreMarked (with_items s.marks c.unmark.new.marks).items) (sym c.clear.ensures.items)
          (none_marked s.marks.items (with_items s.marks c.unmark.new.marks).items s.numbers.items c.self.invariant.marked taken);
      distinct = subst (IsDistinct nat_eq) (sym c.clear.ensures.items) distinct_none;
      room = omega (arith, c.self.invariant.room, c.clear.ensures.capacity);
    }
