use Rattle.std.proofs.Common.{◌<◌, ◌≤◌, ◌-◌, ◌+◌, ◌^◌, List, ℕ, [], ◌∷◌, ◌++◌, length, get_or, take, flat_map, subst, sym, ◌∙◌, arith}
use Rattle.sd_plan.specs.Subtrees.{listed, subtree, IsWithin, ArePlaced}
use Rattle.sd_plan.proofs.Subtrees.{within_range, within_left, within_child, placed_none, placed_more, placed_all, placed_itself, room_more, length_all, read_children}
use Rattle.sd_plan.proofs.index.preorder.+place.Goals as goal

pub bounds-children-d : goal.bounds-children-d
bounds-children-d t c = within_range c.args.children.now c.args.hops c.args.d c.requires.within

pub loop-child-init : goal.loop-child-init
loop-child-init t c =
    subst (λ (order : List ℕ). ArePlaced c.args.children.now [] (c.args.order.now.items ++ c.args.d ∷ []) order c.args.spans.now c.args.spans.now)
    (sym c.in-Ok.ensures.items)
    (placed_none c.args.children.now (c.args.order.now.items ++ c.args.d ∷ []) c.args.spans.now)

pub overflow_sub-hops : goal.overflow_sub-hops
overflow_sub-hops t c =
    let range = within_range c.args.children.now c.args.hops c.args.d c.requires.within in
    let below = read_children c.args.children.now c.args.d c.index-children-d.result c.as_slice-below.result.now range c.index-children-d.is
    c.as_slice-below.ensures in
    within_left c.args.children.now c.args.hops c.args.d c.loop-child.child-index c.requires.within
    (subst (λ (xs : List ℕ). c.loop-child.child-index < length xs) below c.loop-child-test.true)

pub place-requires : goal.place-requires
place-requires t c =
    let range = within_range c.args.children.now c.args.hops c.args.d c.requires.within in
    let below = read_children c.args.children.now c.args.d c.index-children-d.result c.as_slice-below.result.now range c.index-children-d.is
    c.as_slice-below.ensures in
    let inside : c.loop-child.child-index < length (listed c.args.children.now c.args.d) =
    subst (λ (xs : List ℕ). c.loop-child.child-index < length xs) below c.loop-child-test.true in
    let left : 1 ≤ c.args.hops = within_left c.args.children.now c.args.hops c.args.d c.loop-child.child-index c.requires.within inside in
    let here : ArePlaced c.args.children.now
    (flat_map (subtree c.args.children.now (c.args.hops - 1)) (take c.loop-child.child-index (listed c.args.children.now c.args.d)))
    (c.args.order.now.items ++ c.args.d ∷ [])
    c.loop-child.order.items c.args.spans.now c.loop-child.spans =
    subst
    (λ (cs : List ℕ). ArePlaced c.args.children.now (flat_map (subtree c.args.children.now (c.args.hops - 1)) (take c.loop-child.child-index cs))
    (c.args.order.now.items ++ c.args.d ∷ []) c.loop-child.order.items c.args.spans.now c.loop-child.spans)
    below c.loop-child.invariant
    in
    let room = room_more c.args.children.now c.args.hops c.args.d c.loop-child.child-index c.args.order.now.items c.loop-child.order.items c.args.spans.now
    c.loop-child.spans c.requires.within inside here in (
      omega arith,
      (
        subst (λ (cs : List ℕ). IsWithin c.args.children.now (c.args.hops - 1) (get_or cs c.loop-child.child-index 0)) (sym below)
            (within_child c.args.children.now c.args.hops c.args.d c.loop-child.child-index 0 c.requires.within inside),
        (
          c.loop-child.auto.spans ∙ c.requires.spans,
          subst (λ (cs : List ℕ). length c.loop-child.order.items + length
              (subtree c.args.children.now (c.args.hops - 1) (get_or cs c.loop-child.child-index 0)) < 2 ^ 32) (sym below)
              (omega (arith, room, c.requires.room)),
        ),
      ),
    )

pub loop-child-preserved : goal.loop-child-preserved
loop-child-preserved t c =
    placed_more c.args.children.now (subtree c.args.children.now (c.args.hops - 1)) c.as_slice-below.result.now c.loop-child.child-index
    (c.args.order.now.items ++ c.args.d ∷ []) c.loop-child.order.items c.place.new.order.items
    c.args.spans.now c.loop-child.spans c.place.new.spans c.loop-child-test.true c.loop-child.invariant c.in_ok-place.ensures

pub overflow_cast-spans : goal.overflow_cast-spans
overflow_cast-spans t c =
    let range = within_range c.args.children.now c.args.hops c.args.d c.requires.within in
    let below = read_children c.args.children.now c.args.d c.index-children-d.result c.as_slice-below.result.now range c.index-children-d.is
    c.as_slice-below.ensures in
    let all =
    placed_all c.args.children.now (subtree c.args.children.now (c.args.hops - 1)) c.as_slice-below.result.now c.loop-child.child-index
    (c.args.order.now.items ++ c.args.d ∷ []) c.loop-child.order.items c.args.spans.now
    c.loop-child.spans c.loop-child-test.false c.loop-child.invariant
    in
    let long =
    length_all c.args.children.now c.args.hops c.args.d c.args.order.now.items c.loop-child.order.items c.args.spans.now c.loop-child.spans c.requires.within
    (subst (λ (cs : List ℕ). ArePlaced c.args.children.now (flat_map (subtree c.args.children.now (c.args.hops - 1)) cs)
    (c.args.order.now.items ++ c.args.d ∷ []) c.loop-child.order.items c.args.spans.now c.loop-child.spans) below all)
    in
    omega (arith, long, c.requires.room, c.len.ensures, c.loop-child.order.ok.0)

pub bounds-spans-d : goal.bounds-spans-d
bounds-spans-d t c =
    omega (arith, c.loop-child.invariant.size, c.requires.spans, within_range c.args.children.now c.args.hops c.args.d c.requires.within)

pub returns : goal.returns
returns t c =
    let range = within_range c.args.children.now c.args.hops c.args.d c.requires.within in
    let below = read_children c.args.children.now c.args.d c.index-children-d.result c.as_slice-below.result.now range c.index-children-d.is
    c.as_slice-below.ensures in
    let all =
    placed_all c.args.children.now (subtree c.args.children.now (c.args.hops - 1)) c.as_slice-below.result.now c.loop-child.child-index
    (c.args.order.now.items ++ c.args.d ∷ []) c.loop-child.order.items c.args.spans.now
    c.loop-child.spans c.loop-child-test.false c.loop-child.invariant
    in
    placed_itself c.args.children.now c.args.hops c.args.d c.args.order.now.items c.loop-child.order.items c.args.spans.now c.loop-child.spans c.len-from.result
    c.len.result c.requires.within (omega (arith, c.requires.spans, range))
    (omega (arith, c.len-from.ensures, c.args.order.now.ok.0)) (omega (arith, c.len.ensures, c.loop-child.order.ok.0))
    (subst (λ (cs : List ℕ). ArePlaced c.args.children.now (flat_map (subtree c.args.children.now (c.args.hops - 1)) cs)
    (c.args.order.now.items ++ c.args.d ∷ []) c.loop-child.order.items c.args.spans.now c.loop-child.spans) below all)
