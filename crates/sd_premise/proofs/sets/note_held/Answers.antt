use Rattle.std.proofs.Common.{sym, ap, ◌∙◌}
use Rattle.sd_history.specs.Premises.{newly}
use Rattle.sd_premise.proofs.Judging.{none_newly}
use Rattle.sd_premise.proofs.sets.note_held.Goals as goal

pub returns-then-is_as_before-clause-kept : goal.returns-then-is_as_before-clause-kept
returns-then-is_as_before-clause-kept c = sym (c.is_as_before.ensures c.if-is_as_before.true)

pub returns-then-is_as_before-clause-breaks : goal.returns-then-is_as_before-clause-breaks
returns-then-is_as_before-clause-breaks c =
    none_newly c.args.broken.now ∙ ap (newly c.args.broken.now) (sym (c.is_as_before.ensures c.if-is_as_before.true))
