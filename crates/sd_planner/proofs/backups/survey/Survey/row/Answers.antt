use Rattle.std.proofs.Common.{sym, ap, ◌∙◌}
use Rattle.sd_planner.specs.Surveys.{net_in, absent_in}
use Rattle.sd_planner.specs.Serving.{backup_for}
use Rattle.sd_planner.proofs.Rowing.{no_row, no_hop_row, hop_row}
use Rattle.sd_planner.proofs.FoundDevices.{survey_grows}
use Rattle.sd_planner.proofs.backups.survey.Survey.row.Goals as goal

pub returns-in_default-clause-row : goal.returns-in_default-clause-row
returns-in_default-clause-row c =
    let s = c.args.self.now in
    no_row (net_in s) s.root (absent_in s) (survey_grows c.args.self.now) c.args.d (sym c.placed.ensures.is ∙ c.in_default.is)

pub returns-in_default-hop-clause-row : goal.returns-in_default-hop-clause-row
returns-in_default-hop-clause-row c =
    let s = c.args.self.now in
    no_hop_row (net_in s) s.root (absent_in s) (survey_grows c.args.self.now) c.args.d c.in-Some.own
    (sym c.placed.ensures.is ∙ c.in-Some.is) c.in_default-hop.is

pub returns-clause-row : goal.returns-clause-row
returns-clause-row c =
    let s = c.args.self.now in
    let net = net_in s in
    hop_row net s.root (absent_in s) (survey_grows c.args.self.now) c.args.d c.in-Some.own c.in-Some-hop.primary c.in_ok-backup.backup
    (sym c.placed.ensures.is ∙ c.in-Some.is) c.in-Some-hop.is
    (c.in_ok-backup.ensures.backup ∙ ap (λ x. backup_for net s.root (absent_in s) x c.in-Some-hop.primary) c.in-Some.ensures.same)
