use Rattle.std.proofs.Common.{◌<◌, length, slice_get, refl, ap, sym, subst, ◌∙◌}
use Rattle.sd_num.specs.Lists.{has}
use Rattle.sd_plan.specs.Walks.{devices_of}
use Rattle.sd_planner.specs.Views.{net_of, left_out}
use Rattle.sd_planner.specs.Placing.{placed}
use Rattle.sd_planner.specs.Trees.{Grows}
use Rattle.sd_planner.specs.Flags.{is_set}
use Rattle.sd_planner.specs.Climbs.{way_up}
use Rattle.sd_planner.proofs.Growing.{placed_grows}
use Rattle.sd_planner.proofs.FoundDevices.{backup_root_within}
use Rattle.sd_planner.proofs.Trees.{stands, Stands}
use Rattle.sd_planner.proofs.Walking.{walk_is}
use Rattle.sd_planner.proofs.backups.survey.Survey.new.Goals as goal

pub behind-requires-clause-grown : goal.behind-requires-clause-grown
behind-requires-clause-grown c =
    let net = net_of c.args.present.now in
    let absent = left_out c.args.present.now in
    record {
      net = net;
      root = c.args.root;
      absent = absent;
      grown = subst (Grows net c.args.root absent) (sym (ap (λ p. p.order) c.requires.placement))
          (placed_grows net c.args.root absent c.args.present.now.topo.now.is_network c.requires.root);
      size = refl;
    }

pub behind-requires-clause-range : goal.behind-requires-clause-range
behind-requires-clause-range c =
    subst (λ d. d < length (net_of c.args.present.now).devices) (sym c.backup_root_of-backup_root.ensures)
    (backup_root_within (net_of c.args.present.now) c.args.root (left_out c.args.present.now) c.args.present.now.topo.now.is_network c.requires.root)

pub invariant_of-result : goal.invariant_of-result
invariant_of-result c =
    let net = net_of c.args.present.now in
    let absent = left_out c.args.present.now in
    let list = placed net c.args.root absent in
    let same = ap (λ p. p.order) c.requires.placement in
    let grows : Grows net c.args.root absent list = placed_grows net c.args.root absent c.args.present.now.topo.now.is_network c.requires.root in
    record {
      root_within = c.requires.root;
      placement_is = c.requires.placement;
      backup_root_is = c.backup_root_of-backup_root.ensures;
      behind_are = λ d p found.
          (let s : Stands list d p = stands list d p found in
          ap (is_set c.in_ok-behind.behind.items) (sym s.is)
          ∙ c.in_ok-behind.ensures s.place p (ap (λ xs. slice_get xs s.place) same ∙ s.at)
          ∙ ap (λ xs. has (devices_of p.device (way_up xs p.device)) c.backup_root_of-backup_root.result) same
          ∙ ap (λ x. has (devices_of x (way_up list x)) c.backup_root_of-backup_root.result) s.is
          ∙ sym (ap (λ hops. has (devices_of d hops) c.backup_root_of-backup_root.result) (walk_is net c.args.root absent grows d)));
      domains_are = c.in_ok-domains.ensures;
    }
