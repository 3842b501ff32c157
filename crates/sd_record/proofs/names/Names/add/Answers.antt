use Rattle.std.proofs.Common.{sym, ◌∙◌}
use Rattle.std.specs.BTreeMap.{is_at}
use Rattle.sd_record.specs.NameOrder.{by_message}
use Rattle.sd_record.specs.Names.{has_message}
use Rattle.sd_record.proofs.Naming.{more_added, more_kept, more_only}
use Rattle.sd_record.proofs.names.Names.add.Goals as goal

pub returns-in-Ok-clause-added : goal.returns-in-Ok-clause-added
returns-in-Ok-clause-added c =
    c.in-Ok.ensures.updates.0 c.args.message ∙ more_added c.args.message (has_message c.args.self.now c.args.message.name c.args.message.number)

pub returns-in-Ok-clause-kept : goal.returns-in-Ok-clause-kept
returns-in-Ok-clause-kept c =
    λ name number there.
    c.in-Ok.ensures.updates.0 (record { name = name; number = number })
    ∙ more_kept (is_at (by_message c.args.message) (record { name = name; number = number })) (has_message c.args.self.now name number) there

pub returns-in-Ok-clause-only : goal.returns-in-Ok-clause-only
returns-in-Ok-clause-only c =
    λ name number there.
    more_only c.args.message (record { name = name; number = number }) (has_message c.args.self.now name number)
    (sym (c.in-Ok.ensures.updates.0 (record { name = name; number = number })) ∙ there)
