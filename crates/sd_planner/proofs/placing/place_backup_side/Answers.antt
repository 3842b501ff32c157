use Rattle.std.proofs.Common.{◌≡◌, ◌<◌, false, nat_eq, length, sym, ap, ◌∙◌, subst}
use Rattle.std.proofs.lemmas.Bool.{ne_eqb}
use Rattle.sd_planner.specs.Placements.{Placements}
use Rattle.sd_planner.specs.Views.{net_of, left_out}
use Rattle.sd_planner.specs.Spreading.{is_placed}
use Rattle.sd_planner.specs.Placing.{backup_root_of, root_part}
use Rattle.sd_planner.specs.Nearing.{AreKnown}
use Rattle.sd_planner.proofs.Growing.{root_part_tree, grows_known, backup_root_member, backup_root_new}
use Rattle.sd_planner.proofs.placing.place_backup_side.Goals as goal

-- the backup root is another device
differs : (c : goal.After-place_nearest-arg-1)
    → nat_eq (backup_root_of (net_of c.args.present.now) c.args.root (left_out c.args.present.now)) c.args.root ≡ false
differs c = ne_eqb (backup_root_of (net_of c.args.present.now) c.args.root (left_out c.args.present.now)) c.args.root
    (λ same. c.if-backup_root-root.false (c.backup_root_of-backup_root.ensures ∙ same))

pub place_nearest-requires-clause-range : goal.place_nearest-requires-clause-range
place_nearest-requires-clause-range c =
    let net = net_of c.args.present.now in
    let absent = left_out c.args.present.now in
    subst (λ d. d < length net.devices) (sym c.backup_root_of-backup_root.ensures)
    (backup_root_member net c.args.root absent c.args.present.now.topo.now.is_network (differs c)).0

pub place_nearest-requires-clause-fresh : goal.place_nearest-requires-clause-fresh
place_nearest-requires-clause-fresh c =
    let net = net_of c.args.present.now in
    let absent = left_out c.args.present.now in
    ap (is_placed c.args.placement.now.order) c.backup_root_of-backup_root.ensures
    ∙ ap (λ (p : Placements). is_placed p.order (backup_root_of net c.args.root absent)) c.requires.so_far
    ∙ backup_root_new net c.args.root absent (differs c)

pub place_nearest-requires-clause-known : goal.place_nearest-requires-clause-known
place_nearest-requires-clause-known c =
    let net = net_of c.args.present.now in
    let absent = left_out c.args.present.now in
    subst (λ (p : Placements). AreKnown p.count p.order) (sym c.requires.so_far)
    (grows_known net c.args.root absent (root_part net c.args.root absent) (root_part_tree net c.args.root absent c.requires.root c.requires.present).grown)
