use Rattle.std.proofs.Common.{sym}
use Rattle.sd_sched.proofs.First.{first_to_space, first_is_all, unknown_first}
use Rattle.sd_sched.proofs.fields.first_field.Goals as goal

pub returns-in-Some-clause-field : goal.returns-in-Some-clause-field
returns-in-Some-clause-field c = first_to_space c.args.bytes.now c.in-Some.end (sym c.in-Some.ensures)

pub returns-in-Some-clause-unknown : goal.returns-in-Some-clause-unknown
returns-in-Some-clause-unknown c = λ none. unknown_first c.args.bytes.now (rw (first_to_space c.args.bytes.now c.in-Some.end (sym c.in-Some.ensures)) at none)

pub returns-in-None-clause-field : goal.returns-in-None-clause-field
returns-in-None-clause-field c = first_is_all c.args.bytes.now (sym c.in-None.ensures)

pub returns-in-None-clause-unknown : goal.returns-in-None-clause-unknown
returns-in-None-clause-unknown c = λ none. unknown_first c.args.bytes.now (rw (first_is_all c.args.bytes.now (sym c.in-None.ensures)) at none)
