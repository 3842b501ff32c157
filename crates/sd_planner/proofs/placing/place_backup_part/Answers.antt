use Rattle.std.proofs.Common.{◌≡◌, ℕ, ◌<◌, ◌++◌, List, Some, None, nat_eq, length, arith, sym, ap, ◌∙◌}
use Rattle.std.specs.Option.{is_some}
use Rattle.std.proofs.lemmas.Bool.{eqb-true}
use Rattle.std.proofs.lemmas.Result.{on_ok_weaker}
use Rattle.sd_planner.specs.Views.{net_of, left_out}
use Rattle.sd_planner.specs.declared.placement.Placed.{Placed}
use Rattle.sd_planner.specs.Placements.{Placements}
use Rattle.sd_planner.specs.Spreading.{placed_at, spread}
use Rattle.sd_planner.specs.Placing.{backup_root_of, with_backup_root, through_backup}
use Rattle.sd_planner.proofs.Elements.{found_at_place, any_found}
use Rattle.sd_planner.proofs.Growing.{with_backup_root_tree, grows_known, backup_root_member, backup_some, backup_none, backup_fresh}
use Rattle.sd_planner.proofs.Steps.{flag_tells, flags_fresh, flags_count, found_there}
use Rattle.sd_planner.proofs.placing.place_backup_part.Goals as goal

-- this many devices, placed so
abbrev placing_of : List Placed → ℕ → Placements
placing_of list n = record { order = list; count = n }

pub find-requires : goal.find-requires
find-requires c =
    let net = net_of c.args.present.now in
    let absent = left_out c.args.present.now in
    let within : backup_root_of net c.args.root absent < length net.devices =
    (backup_root_member net c.args.root absent c.args.present.now.topo.now.is_network c.requires.differs).0 in
    omega (arith, c.backup_root_of.ensures, ap (λ (p : Placements). p.count) c.requires.so_far)

pub returns-in_default : goal.returns-in_default
returns-in_default c =
    let net = net_of c.args.present.now in
    let absent = left_out c.args.present.now in
    let root = c.args.root in
    let none : placed_at (with_backup_root net root absent) (backup_root_of net root absent) ≡ None =
    found_there (with_backup_root net root absent) c.args.placement.now.order c.backup_root_of.result (backup_root_of net root absent) None
    (ap (λ (p : Placements). p.order) c.requires.so_far) c.backup_root_of.ensures c.in_default.ensures
    in
    c.requires.so_far ∙ ap (λ list. placing_of list (length net.devices)) (sym (backup_none net root absent c.requires.differs none))

pub spread-requires-clause-flags : goal.spread-requires-clause-flags
spread-requires-clause-flags c =
    let net = net_of c.args.present.now in
    let absent = left_out c.args.present.now in
    flags_count (through_backup net absent c.args.placement.now.order) (length net.devices) c.deref.result.now (c.deref.ensures.value ∙ c.in_ok-through.ensures)
    ∙ sym (ap (λ (p : Placements). p.count) c.requires.so_far)

pub spread-requires-clause-deep : goal.spread-requires-clause-deep
spread-requires-clause-deep c =
    let net = net_of c.args.present.now in
    let absent = left_out c.args.present.now in
    let found : placed_at (with_backup_root net c.args.root absent) (backup_root_of net c.args.root absent) ≡ Some c.in-Some.source =
    found_there (with_backup_root net c.args.root absent) c.args.placement.now.order c.backup_root_of.result (backup_root_of net c.args.root absent)
    (Some c.in-Some.source) (ap (λ (p : Placements). p.order) c.requires.so_far) c.backup_root_of.ensures c.in-Some.ensures in
    let (k, at, passes) =
    found_at_place (λ (p : Placed). nat_eq p.device (backup_root_of net c.args.root absent))
    (with_backup_root net c.args.root absent) c.in-Some.source found in
    let same : c.in-Some.source.device ≡ backup_root_of net c.args.root absent =
    eqb-true c.in-Some.source.device (backup_root_of net c.args.root absent) passes in
    let known = grows_known net c.args.root absent (with_backup_root net c.args.root absent)
    (with_backup_root_tree net c.args.root absent c.args.present.now.topo.now.is_network c.requires.root c.requires.present).grown in
    let shallow : c.in-Some.source.depth < length net.devices = known.shallow k c.in-Some.source at in
    omega (arith, c.args.present.now.topo.now.is_network.devices)

pub spread-requires-clause-source : goal.spread-requires-clause-source
spread-requires-clause-source c =
    let net = net_of c.args.present.now in
    let absent = left_out c.args.present.now in
    let found : placed_at (with_backup_root net c.args.root absent) (backup_root_of net c.args.root absent) ≡ Some c.in-Some.source =
    found_there (with_backup_root net c.args.root absent) c.args.placement.now.order c.backup_root_of.result (backup_root_of net c.args.root absent)
    (Some c.in-Some.source) (ap (λ (p : Placements). p.order) c.requires.so_far) c.backup_root_of.ensures c.in-Some.ensures in
    let (k, at, passes) =
    found_at_place (λ (p : Placed). nat_eq p.device (backup_root_of net c.args.root absent))
    (with_backup_root net c.args.root absent) c.in-Some.source found in
    let same : c.in-Some.source.device ≡ backup_root_of net c.args.root absent =
    eqb-true c.in-Some.source.device (backup_root_of net c.args.root absent) passes in
    any_found (λ (p : Placed). nat_eq p.device c.in-Some.source.device) c.args.placement.now.order
    ∙ ap (λ d. is_some (placed_at c.args.placement.now.order d)) (same ∙ sym c.backup_root_of.ensures) ∙ ap is_some (sym c.in-Some.ensures)

pub spread-requires-clause-range : goal.spread-requires-clause-range
spread-requires-clause-range c =
    let net = net_of c.args.present.now in
    let absent = left_out c.args.present.now in
    let found : placed_at (with_backup_root net c.args.root absent) (backup_root_of net c.args.root absent) ≡ Some c.in-Some.source =
    found_there (with_backup_root net c.args.root absent) c.args.placement.now.order c.backup_root_of.result (backup_root_of net c.args.root absent)
    (Some c.in-Some.source) (ap (λ (p : Placements). p.order) c.requires.so_far) c.backup_root_of.ensures c.in-Some.ensures in
    let (k, at, passes) =
    found_at_place (λ (p : Placed). nat_eq p.device (backup_root_of net c.args.root absent))
    (with_backup_root net c.args.root absent) c.in-Some.source found in
    let same : c.in-Some.source.device ≡ backup_root_of net c.args.root absent =
    eqb-true c.in-Some.source.device (backup_root_of net c.args.root absent) passes in
    let within : backup_root_of net c.args.root absent < length net.devices =
    (backup_root_member net c.args.root absent c.args.present.now.topo.now.is_network c.requires.differs).0 in
    omega (arith, same, ap (λ (p : Placements). p.count) c.requires.so_far)

pub spread-requires-clause-fresh : goal.spread-requires-clause-fresh
spread-requires-clause-fresh c =
    let net = net_of c.args.present.now in
    let absent = left_out c.args.present.now in
    flags_fresh (through_backup net absent c.args.placement.now.order) (length net.devices) c.deref.result.now c.args.placement.now.order
    (c.deref.ensures.value ∙ c.in_ok-through.ensures) (λ d passes.
    (backup_fresh net c.args.root absent c.args.placement.now.order d passes).1)

pub returns : goal.returns
returns c =
    let net = net_of c.args.present.now in
    let absent = left_out c.args.present.now in
    let found : placed_at (with_backup_root net c.args.root absent) (backup_root_of net c.args.root absent) ≡ Some c.in-Some.source =
    found_there (with_backup_root net c.args.root absent) c.args.placement.now.order c.backup_root_of.result (backup_root_of net c.args.root absent)
    (Some c.in-Some.source) (ap (λ (p : Placements). p.order) c.requires.so_far) c.backup_root_of.ensures c.in-Some.ensures in
    let (k, at, passes) =
    found_at_place (λ (p : Placed). nat_eq p.device (backup_root_of net c.args.root absent))
    (with_backup_root net c.args.root absent) c.in-Some.source found in
    let same : c.in-Some.source.device ≡ backup_root_of net c.args.root absent =
    eqb-true c.in-Some.source.device (backup_root_of net c.args.root absent) passes in
    let root = c.args.root in
    let through = through_backup net absent c.args.placement.now.order in
    let list = with_backup_root net root absent in
    let depth = c.in-Some.source.depth in
    let count : c.args.placement.now.count ≡ length net.devices = ap (λ (p : Placements). p.count) c.requires.so_far in
    on_ok_weaker c.spread.result
    (λ done.
    done
    ∙ ap (λ (p : Placements). placing_of (p.order ++ spread net absent c.in-Some.source.device (through_backup net absent p.order) depth) p.count)
    c.requires.so_far
    ∙ ap (λ b. placing_of (list ++ spread net absent b (through_backup net absent list) depth) (length net.devices)) same
    ∙ ap (λ all. placing_of all (length net.devices)) (sym (backup_some net root absent c.in-Some.source c.requires.differs found)))
    (c.spread.ensures through
    (λ d within. flag_tells through (length net.devices) c.deref.result.now (c.deref.ensures.value ∙ c.in_ok-through.ensures) d (omega arith)))
