use Rattle.sd_planner.proofs.backups.survey.Survey.ordinary_backup.Goals as goal

pub returns-clause-clear : goal.returns-clause-clear
returns-clause-clear c = c.clear_joining.ensures c.args.own.device c.set_joining.ensures
