use Rattle.std.proofs.Common.{◌≡◌, ℕ, List, [], ◌∷◌, ◌++◌, length, arith, sym, ap, ◌∙◌}
use Rattle.sd_planner.specs.Placements.{Placements}
use Rattle.sd_planner.specs.Views.{net_of, left_out}
use Rattle.sd_planner.specs.declared.placement.Placed.{Placed}
use Rattle.sd_planner.specs.Spreading.{is_placed, spread}
use Rattle.sd_planner.specs.Placing.{through_root}
use Rattle.sd_planner.proofs.Growing.{root_placed, root_fresh}
use Rattle.sd_planner.proofs.Steps.{flag_tells, flags_fresh, flags_count}
use Rattle.sd_planner.proofs.placing.place_root_part.Goals as goal

-- some more placed devices
abbrev with_more : Placements → List Placed → Placements
with_more p more = record { order = p.order ++ more; count = p.count }

-- nothing placed of this many devices
abbrev none_of : ℕ → Placements
none_of n = record { order = []; count = n }

pub spread-requires-clause-count : goal.spread-requires-clause-count
spread-requires-clause-count c = ap (λ p. p.count) c.in_ok-add.ensures ∙ ap (λ p. p.count) c.in_ok-placement.ensures ∙ c.devices.ensures

pub spread-requires-clause-flags : goal.spread-requires-clause-flags
spread-requires-clause-flags c =
    let net = net_of c.args.present.now in
    let absent = left_out c.args.present.now in
    flags_count (through_root net c.args.root absent) (length net.devices) c.deref.result.now (c.deref.ensures.value ∙ c.in_ok-through.ensures)
    ∙ sym (spread-requires-clause-count c)

pub spread-requires-clause-fresh : goal.spread-requires-clause-fresh
spread-requires-clause-fresh c =
    let net = net_of c.args.present.now in
    let absent = left_out c.args.present.now in
    flags_fresh (through_root net c.args.root absent) (length net.devices) c.deref.result.now c.add.new.self.order
    (c.deref.ensures.value ∙ c.in_ok-through.ensures) (λ d passes.
    ap (λ list. is_placed list d) (ap (λ p. p.order) c.in_ok-add.ensures
    ∙ ap (λ p. p.order ++ root_placed net c.args.root absent ∷ []) c.in_ok-placement.ensures)
    ∙ (root_fresh net c.args.root absent d passes).1)

pub returns : goal.returns
returns c =
    let net = net_of c.args.present.now in
    let absent = left_out c.args.present.now in
    let through = through_root net c.args.root absent in
    let count : c.add.new.self.count ≡ length net.devices =
    ap (λ p. p.count) c.in_ok-add.ensures ∙ ap (λ p. p.count) c.in_ok-placement.ensures ∙ c.devices.ensures in
    c.in_ok-spread.ensures through
    (λ d within. flag_tells through (length net.devices) c.deref.result.now (c.deref.ensures.value ∙ c.in_ok-through.ensures) d (omega arith))
    ∙ ap (λ (p : Placements). with_more p (spread net absent c.args.root through 0))
    (c.in_ok-add.ensures
    ∙ ap (λ (p : Placements). with_more p (root_placed net c.args.root absent ∷ [])) (c.in_ok-placement.ensures ∙ ap none_of c.devices.ensures))
