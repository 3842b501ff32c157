use Rattle.std.proofs.Common.{ap, ◌∙◌}
use Rattle.sd_planner.specs.Flags.{is_set}
use Rattle.sd_planner.specs.Serving.{on_walk_up}
use Rattle.sd_planner.specs.Surveys.{net_in, absent_in}
use Rattle.sd_planner.proofs.backups.survey.Survey.is_behind.Goals as goal

pub returns : goal.returns
returns c =
    let s = c.args.self.now in
    c.is_set.ensures ∙ ap (λ flags. is_set flags c.args.d.device) c.as_slice.ensures.value ∙ s.behind_are c.args.d.device c.args.d c.requires
    ∙ ap (on_walk_up (net_in s) s.root (absent_in s) c.args.d.device) s.backup_root_is
