use Rattle.std.proofs.Common.{◌≡◌, ◌<◌, ◌≤◌, ◌+◌, ◌++◌, ◌^◌, ℕ, List, length, drop, get_or, None, Some, ap, ◌∙◌, sym, subst, arith, length-append}
use Rattle.std.specs.List.{slice_get}
use Rattle.std.proofs.lemmas.List.{drop_all}
use Rattle.std.proofs.lemmas.Option.{slice_get-get_or}
use Rattle.sd_planner.specs.Usable.{neighbours_of}
use Rattle.sd_planner.specs.Views.{net_of, left_out}
use Rattle.sd_planner.specs.declared.placement.Placed.{Placed}
use Rattle.sd_planner.specs.Placements.{Placements}
use Rattle.sd_planner.specs.Sweeps.{children, IsShallow, Sweeps}
use Rattle.sd_planner.proofs.Queue.{shallow_more, swept, queue_turn}
use Rattle.sd_planner.proofs.spreading.sweep.Goals as goal

pub loop-next-preserved : goal.loop-next-preserved
loop-next-preserved c =
    let may_pass = c.args.may_pass.now in
    let near = neighbours_of (net_of c.args.present.now) (left_out c.args.present.now) in
    let next = c.loop-next.next in
    let order = c.loop-next.placement.order in
    let none : Placed = record { device = 0; depth = 0; hop = None } in
    let p : Placed = get_or c.order-in-loop-next.result.now next none in
    let here : p ≡ get_or order next none = ap (λ (xs : List Placed). get_or xs next none) c.order-in-loop-next.ensures.order in
    let within : next < length order = subst (λ (xs : List Placed). next < length xs) c.order.ensures.order c.loop-next-test.true in
    let at : slice_get order next ≡ Some p = slice_get-get_or order next none within ∙ ap (λ (q : Placed). Some q) (sym here) in
    let new : List Placed = children may_pass p.device p.depth order (near p.device) in
    let more : c.place_below.new.placement ≡ record { order = order ++ new; count = c.loop-next.placement.count } = c.in_ok-place_below.ensures in
    let longer : c.place_below.new.placement.order ≡ order ++ new = ap (λ (seen : Placements). seen.order) more in
    let shallow : p.depth ≤ 2 ^ 16 + length order = c.loop-next.invariant.shallow next p c.loop-next.invariant.from at in
    record {
      count = ap (λ (seen : Placements). seen.count) more ∙ c.loop-next.invariant.count;
      from = omega (arith, c.loop-next.invariant.from);
      within = subst (λ (xs : List Placed). next + 1 ≤ length xs) (sym longer) (omega (arith, length-append order new));
      shallow = subst (λ (xs : List Placed). IsShallow c.args.first xs) (sym longer)
          (shallow_more may_pass c.args.first p.depth p.device order (near p.device) c.loop-next.invariant.shallow shallow);
      queue = λ final sweeps. subst (λ (xs : List Placed). Sweeps may_pass near (drop (next + 1) xs) xs final) (sym longer)
          (queue_turn may_pass near order final next p none within here (c.loop-next.invariant.queue final sweeps));
    }

pub returns : goal.returns
returns c =
    let order = c.loop-next.placement.order in
    let past : length order ≤ c.loop-next.next = subst (λ (xs : List Placed). length xs ≤ c.loop-next.next) c.order.ensures.order c.loop-next-test.false in
    λ final sweeps.
    let same : order ≡ final =
    swept c.args.may_pass.now (neighbours_of (net_of c.args.present.now) (left_out c.args.present.now)) (drop c.loop-next.next order) order final
    (c.loop-next.invariant.queue final sweeps) (drop_all c.loop-next.next order past) in
    let count : c.loop-next.placement.count ≡ c.args.placement.now.count = c.loop-next.invariant.count in
    ap (λ (xs : List Placed). let seen : Placements = record { order = xs; count = c.loop-next.placement.count } in seen) same
    ∙ ap (λ (n : ℕ). let seen : Placements = record { order = final; count = n } in seen) count
