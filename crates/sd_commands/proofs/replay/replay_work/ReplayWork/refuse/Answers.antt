use Rattle.std.proofs.Common.{sym, ◌∙◌, subst}
use Rattle.sd_commands.specs.replay.Reasoned.{HasReason}
use Rattle.sd_commands.proofs.replay.replay_work.ReplayWork.refuse.Goals as goal

pub returns-clause-text : goal.returns-clause-text
returns-clause-text g c = subst (HasReason c.args.fault) (sym (c.in_ok-put.ensures ∙ c.printed.ensures)) c.in_ok-print_reason.ensures.reason
