use Rattle.std.proofs.Common.{◌≡◌, ◌<◌, ◌++◌, ℕ, List, false, length, drop, OnOk, slice_index_or, ◌∙◌, sym, subst}
use Rattle.std.proofs.lemmas.Bool.{both_ways, false_from_ne_true}
use Rattle.sd_planner.specs.Usable.{neighbours_of}
use Rattle.sd_planner.specs.Views.{net_of, left_out}
use Rattle.sd_planner.specs.declared.placement.Placed.{Placed}
use Rattle.sd_planner.specs.Placements.{Placements}
use Rattle.sd_planner.specs.Spreading as spreading
use Rattle.sd_planner.specs.Spreading.{is_placed}
use Rattle.sd_planner.specs.Sweeps.{children, IsShallow, Sweeps}
use Rattle.sd_planner.proofs.Queue.{shallow_start}
use Rattle.sd_planner.proofs.Ringwise.{spread_sweeps}
use Rattle.sd_planner.proofs.spreading.spread.Goals as goal

pub sweep-requires-clause-deep : goal.sweep-requires-clause-deep
sweep-requires-clause-deep c =
    let order = c.args.placement.now.order in
    let near = neighbours_of (net_of c.args.present.now) (left_out c.args.present.now) c.args.source.device in
    subst (λ (xs : List Placed). IsShallow (length xs) c.place_below.new.placement.order) (sym c.order-first.ensures.order)
    (subst (λ (seen : Placements). IsShallow (length order) seen.order) (sym c.in_ok-place_below.ensures)
    (shallow_start c.args.may_pass.now c.args.source.device c.args.source.depth order near c.requires.deep))

pub returns : goal.returns
returns c =
    let net = net_of c.args.present.now in
    let absent = left_out c.args.present.now in
    let near = neighbours_of net absent in
    let may_pass = c.args.may_pass.now in
    let old = c.args.placement.now in
    let source = c.args.source.device in
    let depth = c.args.source.depth in
    λ through flags.
    let inside : source < length net.devices = subst (λ n. source < n) c.requires.count c.requires.range in
    let other : through source ≡ false = false_from_ne_true (through source) (λ passes.
    both_ways (is_placed old.order source) (c.requires.fresh source (flags source c.requires.range ∙ passes)) c.requires.source) in
    let agree : (d : ℕ) → d < length net.devices → slice_index_or may_pass d false ≡ through d =
    λ d within. flags d (subst (λ n. d < n) (sym c.requires.count) within) in
    let new : List Placed = children may_pass source depth old.order (near source) in
    let final : List Placed = old.order ++ spreading.spread net absent source through depth in
    let sweeps : Sweeps may_pass near (drop (length old.order) (old.order ++ new)) (old.order ++ new) final =
    spread_sweeps net absent source through depth may_pass old.order inside other agree c.requires.fresh in
    let from_first : Sweeps may_pass near (drop (length c.order-first.result.now) (old.order ++ new)) (old.order ++ new) final =
    subst (λ (xs : List Placed). Sweeps may_pass near (drop (length xs) (old.order ++ new)) (old.order ++ new) final)
    (sym c.order-first.ensures.order) sweeps in
    subst (λ (seen : Placements). (end : List Placed) → Sweeps may_pass near (drop (length c.order-first.result.now) seen.order) seen.order end
    → OnOk c.sweep.result (c.sweep.new.placement ≡ record { order = end; count = seen.count })) c.in_ok-place_below.ensures c.sweep.ensures final from_first
