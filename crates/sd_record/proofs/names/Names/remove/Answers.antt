use Rattle.std.proofs.Common.{arith, sym, ◌∙◌, subst, Bool}
use Rattle.std.specs.Prelude.{◌+◌, ◌≡◌, if◌then◌else◌}
use Rattle.std.specs.BTreeMap.{is_at}
use Rattle.std.specs.BTreeSet.{btree_set_len}
use Rattle.sd_record.specs.NameOrder.{by_message}
use Rattle.sd_record.specs.Names.{has_message}
use Rattle.sd_record.proofs.Naming.{less_gone, less_kept, less_less}
use Rattle.sd_record.proofs.names.Names.remove.Goals as goal

pub returns-clause-gone : goal.returns-clause-gone
returns-clause-gone c =
    c.remove.ensures.updates.0 c.args.message ∙ less_gone c.args.message (has_message c.args.self.now c.args.message.name c.args.message.number)

pub returns-clause-kept : goal.returns-clause-kept
returns-clause-kept c =
    λ name number apart there.
    c.remove.ensures.updates.0 (record { name = name; number = number })
    ∙ less_kept c.args.message (record { name = name; number = number }) (has_message c.args.self.now name number) apart there

pub returns-clause-less : goal.returns-clause-less
returns-clause-less c =
    λ name number there.
    less_less (is_at (by_message c.args.message) (record { name = name; number = number })) (has_message c.args.self.now name number)
    (sym (c.remove.ensures.updates.0 (record { name = name; number = number })) ∙ there)

pub returns-clause-count : goal.returns-clause-count
returns-clause-count c =
    λ there.
    (let len =
    subst (λ (b : Bool). btree_set_len c.remove.new.self + (if b then 1 else 0) ≡ btree_set_len c.args.self.now.messages)
    (c.remove.ensures.test ∙ there) c.remove.ensures.len in
    omega (arith, len))
