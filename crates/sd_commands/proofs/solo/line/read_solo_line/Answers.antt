use Rattle.std.proofs.Common.{◌∙◌, sym}
use Rattle.sd_commands.proofs.solo.Known.{known_event, unknown_event}
use Rattle.sd_commands.proofs.solo.line.read_solo_line.Goals as goal

pub returns-then-is_known-clause-event : goal.returns-then-is_known-clause-event
returns-then-is_known-clause-event c = known_event c.args.line.now c.in-Ok.event c.in-Ok.ensures.event (sym c.is_known.ensures ∙ c.if-is_known.true)

pub returns-else-is_known-clause-event : goal.returns-else-is_known-clause-event
returns-else-is_known-clause-event c = unknown_event c.args.line.now c.in-Ok.event c.in-Ok.ensures.event (sym c.is_known.ensures ∙ c.if-is_known.false)
