use Rattle.std.proofs.Common.{List, find, map, ap, sym, ◌∙◌}
use Rattle.sd_planner.specs.declared.present.Neighbour.{Neighbour}
use Rattle.sd_planner.specs.Usable.{hop_to}
use Rattle.sd_planner.specs.Serving.{serves_backup_root}
use Rattle.sd_planner.specs.Surveys.{net_in, absent_in}
use Rattle.sd_planner.proofs.ByBackupRoot.{backup_is}
use Rattle.sd_planner.proofs.FirstHops.{one_more, first_passes, none_passes}
use Rattle.sd_planner.proofs.backups.survey.Survey.backup_root_backup.Goals as goal

pub returns-then-serves_backup_root : goal.returns-then-serves_backup_root
returns-then-serves_backup_root c =
    let s = c.args.self.now in
    let test = serves_backup_root (net_in s) s.root (absent_in s) c.args.own.device c.args.primary in
    first_passes test c.neighbours_of-neighbour-items.result.now c.loop-neighbour.neighbour-index c.loop-neighbour.invariant _ c.hop-hop.result
    c.loop-neighbour-test.true c.hop-hop.ensures (sym c.serves_backup_root.ensures ∙ c.if-serves_backup_root.true)
    ∙ ap (λ (ns : List Neighbour). find test (map hop_to ns)) c.neighbours_of-neighbour-items.ensures
    ∙ backup_is (net_in s) s.root (absent_in s) c.args.own.device c.args.primary (c.requires.backup_root ∙ s.backup_root_is)

pub loop-neighbour-preserved : goal.loop-neighbour-preserved
loop-neighbour-preserved c =
    let s = c.args.self.now in
    one_more (serves_backup_root (net_in s) s.root (absent_in s) c.args.own.device c.args.primary)
    c.neighbours_of-neighbour-items.result.now c.loop-neighbour.neighbour-index c.loop-neighbour.invariant _ c.hop-hop.result
    c.loop-neighbour-test.true c.hop-hop.ensures (sym c.serves_backup_root.ensures ∙ c.if-serves_backup_root.false)

pub returns : goal.returns
returns c =
    let s = c.args.self.now in
    let test = serves_backup_root (net_in s) s.root (absent_in s) c.args.own.device c.args.primary in
    none_passes test c.neighbours_of-neighbour-items.result.now c.loop-neighbour.neighbour-index c.loop-neighbour.invariant c.loop-neighbour-test.false
    ∙ ap (λ (ns : List Neighbour). find test (map hop_to ns)) c.neighbours_of-neighbour-items.ensures
    ∙ backup_is (net_in s) s.root (absent_in s) c.args.own.device c.args.primary (c.requires.backup_root ∙ s.backup_root_is)
