use Rattle.std.proofs.Common.{◌≡◌, ◌<◌, true, false, length, get_or, set as put, nat_eq, ap, subst, sym, ◌∙◌, arith}
use Rattle.std.specs.List.{IsDistinct}
use Rattle.std.specs.Vec.{vec_len}
use Rattle.std.proofs.lemmas.List.{get_or_read}
use Rattle.sd_plan.proofs.domain.Marks.{AreMarked, marked_push, distinct_push, room_push, seen_push, seen_again}
use Rattle.sd_plan.proofs.domain.number_set.NumberSet.insert.Goals as goal

pub push_reserved-requires : goal.push_reserved-requires
push_reserved-requires c =
    let s = c.self.inside in
    let within : c.args.number < length s.marks.items = omega (arith, c.requires, ap (λ v. v.bound) c.self.view_is, s.marks.ok.0) in
    let none : get_or s.marks.items c.args.number false ≡ false =
    sym (get_or_read s.marks.items c.args.number c.index.result.now within c.index.ensures false) ∙ c.if-index.false in
    omega (
      arith,
      room_push s.marks.items s.numbers.items c.args.number within c.self.invariant.marked none
          c.self.invariant.distinct,
      s.marks.ok.0,
      s.numbers.ok.0,
      c.self.invariant.room,
    )

pub invariant_of-self : goal.invariant_of-self
invariant_of-self c =
    let s = c.self.inside in
    let within : c.args.number < length s.marks.items = omega (arith, c.requires, ap (λ v. v.bound) c.self.view_is, s.marks.ok.0) in
    let none : get_or s.marks.items c.args.number false ≡ false =
    sym (get_or_read s.marks.items c.args.number c.index.result.now within c.index.ensures false) ∙ c.if-index.false in
    record {
      marked = subst (AreMarked (put s.marks.items c.args.number true)) (sym c.push_reserved.ensures.items)
          (marked_push s.marks.items s.numbers.items c.args.number within c.self.invariant.marked);
      distinct = subst (IsDistinct nat_eq) (sym c.push_reserved.ensures.items)
          (distinct_push s.marks.items s.numbers.items c.args.number c.self.invariant.marked none c.self.invariant.distinct);
      room = omega (arith, c.self.invariant.room, c.push_reserved.ensures.capacity);
    }

pub returns-clause-added : goal.returns-clause-added
returns-clause-added c =
    let s = c.self.inside in
    let within : c.args.number < length s.marks.items = omega (arith, c.requires, ap (λ v. v.bound) c.self.view_is, s.marks.ok.0) in
    let none : get_or s.marks.items c.args.number false ≡ false =
    sym (get_or_read s.marks.items c.args.number c.index.result.now within c.index.ensures false) ∙ c.if-index.false in
    seen_push c.args.self.now s.marks.items s.numbers.items c.push_reserved.new.self.items
    (vec_len s.marks) c.args.number c.self.view_is c.self.invariant.marked none c.push_reserved.ensures.items

pub returns-then-index-clause-added : goal.returns-then-index-clause-added
returns-then-index-clause-added c =
    let s = c.self.inside in
    let within : c.args.number < length s.marks.items = omega (arith, c.requires, ap (λ v. v.bound) c.self.view_is, s.marks.ok.0) in
    let there : get_or s.marks.items c.args.number false ≡ true =
    sym (get_or_read s.marks.items c.args.number c.index.result.now within c.index.ensures false) ∙ c.if-index.true in
    seen_again c.args.self.now s.marks.items s.numbers.items (vec_len s.marks) c.args.number c.self.view_is c.self.invariant.marked there

pub returns-clause-distinct : goal.returns-clause-distinct
returns-clause-distinct c =
    let s = c.self.inside in
    let within : c.args.number < length s.marks.items = omega (arith, c.requires, ap (λ v. v.bound) c.self.view_is, s.marks.ok.0) in
    let none : get_or s.marks.items c.args.number false ≡ false =
    sym (get_or_read s.marks.items c.args.number c.index.result.now within c.index.ensures false) ∙ c.if-index.false in
    subst (IsDistinct nat_eq) (sym c.push_reserved.ensures.items)
    (distinct_push s.marks.items s.numbers.items c.args.number c.self.invariant.marked none c.self.invariant.distinct)
