use Rattle.std.proofs.Common.{◌<◌, length, refl, ap, ◌∙◌, subst, sym}
use Rattle.sd_plan.specs.topo.Network.{Network}
use Rattle.sd_plan.specs.topo.Topologies.{network}
use Rattle.sd_planner.specs.Absences.{IsAbsentOf}
use Rattle.sd_planner.specs.Views.{left_out}
use Rattle.sd_planner.specs.Placing.{backup_root_of}
use Rattle.sd_plan.specs.Plans.{IsRow}
use Rattle.sd_plan.specs.topo.Network.{Each}
use Rattle.sd_planner.specs.Serving.{greedy_rows}
use Rattle.sd_planner.proofs.FoundDevices.{backup_root_within}
use Rattle.sd_planner.proofs.Fitting.{one_each}
use Rattle.sd_planner.proofs.plan.greedy_plan.Goals as goal

pub place-requires : goal.place-requires
place-requires c = record { root = subst (λ (n : Network). c.args.root < length n.devices) (sym c.in_ok-present.ensures.network) c.requires.root }

pub greedy_rows-requires-clause-root : goal.greedy_rows-requires-clause-root
greedy_rows-requires-clause-root c = subst (λ (n : Network). c.args.root < length n.devices) (sym c.in_ok-present.ensures.network) c.requires.root

pub returns-clause-greedy : goal.returns-clause-greedy
returns-clause-greedy c =
    let net = network c.args.topo.now in
    let absent = c.args.absent.now in
    record {
      from_root = refl;
      to_backup_root =
          c.backup_root_of.ensures ∙ ap (λ (n : Network). backup_root_of n c.args.root (left_out c.in_ok-present.present)) c.in_ok-present.ensures.network
          ∙ ap (backup_root_of net c.args.root) c.in_ok-present.ensures.absent;
      leaves_out = c.in_ok-copy_absent.ensures;
      rows = c.in_ok-rows.ensures.rows ∙ ap (λ (n : Network). greedy_rows n c.args.root (left_out c.in_ok-present.present)) c.in_ok-present.ensures.network
          ∙ ap (greedy_rows net c.args.root) c.in_ok-present.ensures.absent;
      first = c.least_waits-waits.ensures.first;
      second = c.least_waits-waits.ensures.second;
      ordinary = c.least_waits-waits.ensures.ordinary;
    }

pub returns-clause-fits : goal.returns-clause-fits
returns-clause-fits c =
    let net = network c.args.topo.now in
    let same = c.in_ok-present.ensures.network in
    let absent : IsAbsentOf net c.in_ok-copy_absent.field-0 = subst (IsAbsentOf net) (sym c.in_ok-copy_absent.ensures) c.requires.absent in
    let out = left_out c.in_ok-present.present in
    let rows = c.in_ok-rows.ensures.rows ∙ ap (λ (n : Network). greedy_rows n c.args.root out) same in
    record {
      root = c.requires.root;
      backup_root =
          subst (λ d. d < length net.devices) (sym (c.backup_root_of.ensures ∙ ap (λ (n : Network). backup_root_of n c.args.root out) same))
          (backup_root_within net c.args.root out c.args.topo.now.is_network c.requires.root);
      entries = one_each net c.args.root out c.in_ok-rows.rows rows;
      rows = subst (λ (n : Network). Each (IsRow n) c.in_ok-rows.rows) same c.in_ok-rows.ensures.fit;
      waits = c.least_waits-waits.ensures.bounds;
      absent_devices = absent.devices;
      absent_links = absent.links;
    }
