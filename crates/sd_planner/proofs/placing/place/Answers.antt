use Rattle.std.proofs.Common.{◌≡◌, true, false, List, [], length, Result, Ok, Err, IfOk, if◌then◌else◌, sym, ap, ◌∙◌, subst, ℕ}
use Rattle.sd_planner.specs.declared.placement.Placed.{Placed}
use Rattle.sd_planner.specs.Placements.{Placements}
use Rattle.sd_planner.specs.Usable.{takes_part}
use Rattle.sd_planner.specs.Views.{net_of, left_out}
use Rattle.sd_planner.specs.Placing.{placed, placed_all, with_left}
use Rattle.sd_planner.specs.Trees.{Grows, IsTree}
use Rattle.sd_planner.proofs.Growing.{both_parts_tree, placed_grows}
use Rattle.sd_planner.proofs.placing.place.Goals as goal

-- this many devices, placed so
abbrev placing_of : List Placed → ℕ → Placements
placing_of list n = record { order = list; count = n }

-- what follows of a result that is one
if_ok : {T E : Type 0} {P Q : T → Type 0} (r : Result T E) → ((x : T) → P x → Q x) → IfOk r P → IfOk r Q
if_ok (Ok x) follows holds = follows x holds
if_ok (Err e) follows holds = tt

pub returns-then-not-takes_part-clause-order : goal.returns-then-not-takes_part-clause-order
unfolding placed
returns-then-not-takes_part-clause-order c =
    let net = net_of c.args.present.now in
    let absent = left_out c.args.present.now in
    let out : takes_part net absent c.args.root ≡ false = sym c.takes_part.ensures ∙ c.if-not-takes_part.true in
    if_ok c.new.result (λ p none.
    none ∙ ap (placing_of []) c.devices.ensures ∙ sym (ap (λ b. placing_of (if b then placed_all net c.args.root absent else []) (length net.devices)) out))
    c.new.ensures

pub place_left-requires-clause-grown : goal.place_left-requires-clause-grown
place_left-requires-clause-grown c =
    let net = net_of c.args.present.now in
    let absent = left_out c.args.present.now in
    let there : takes_part net absent c.args.root ≡ true = sym c.takes_part.ensures ∙ c.if-not-takes_part.false in (
      c.args.root,
      subst (IsTree net c.args.root absent) (sym (ap (λ (p : Placements). p.order) c.in_ok-place_backup_side.ensures))
          (both_parts_tree net c.args.root absent c.args.present.now.topo.now.is_network c.requires.root there),
    )

pub returns-clause-order : goal.returns-clause-order
unfolding placed
returns-clause-order c =
    let net = net_of c.args.present.now in
    let absent = left_out c.args.present.now in
    let there : takes_part net absent c.args.root ≡ true = sym c.takes_part.ensures ∙ c.if-not-takes_part.false in
    c.in_ok-place_left.ensures
    ∙ ap (λ (p : Placements). placing_of (with_left net absent (length net.devices) p.order) p.count) c.in_ok-place_backup_side.ensures
    ∙ sym (ap (λ b. placing_of (if b then placed_all net c.args.root absent else []) (length net.devices)) there)

pub returns-clause-grows : goal.returns-clause-grows
returns-clause-grows c =
    let net = net_of c.args.present.now in
    let absent = left_out c.args.present.now in
    subst (Grows net c.args.root absent) (sym (ap (λ (p : Placements). p.order) (returns-clause-order c)))
    (placed_grows net c.args.root absent c.args.present.now.topo.now.is_network c.requires.root)
