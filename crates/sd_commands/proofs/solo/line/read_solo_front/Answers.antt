use Rattle.std.proofs.Common.{◌∙◌, sym, take}
use Rattle.sd_commands.proofs.solo.Known.{known_event}
use Rattle.sd_commands.proofs.solo.line.read_solo_front.Goals as goal

pub returns-then-is_known-clause-event : goal.returns-then-is_known-clause-event
returns-then-is_known-clause-event c =
    sym
    (known_event (take c.in-Some.front.len c.args.text.now) c.in-Some.front.event (sym c.in-Some.ensures.event)
    (sym c.is_known.ensures ∙ c.if-is_known.true))
