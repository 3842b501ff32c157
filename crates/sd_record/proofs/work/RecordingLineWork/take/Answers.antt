use Rattle.std.proofs.Common.{ap, refl, sym, subst, true, Bool, Option, ◌||◌, ◌∙◌}
use Rattle.std.specs.Prelude.{if◌then◌else◌}
use Rattle.sd_io.specs.outside.Printed.{printed}
use Rattle.sd_history.specs.declared.ApplyFault.{ApplyFault}
use Rattle.sd_record.specs.Recorded.{record_entry}
use Rattle.sd_record.specs.Standing.{Records}
use Rattle.sd_record.proofs.Working.{entry_accepted, entry_refused, line_refused}
use Rattle.sd_record.proofs.work.RecordingLineWork.take.Goals as goal

pub returns-in-Err-clause-takes : goal.returns-in-Err-clause-takes
returns-in-Err-clause-takes c =
    line_refused c.args.self.now (record c.args.self.now { line = c.print_line_fault.new.out; refused = true }) c.args.line.now _ c.in-Err.fault
    (sym c.in-Err.ensures.entry) refl refl c.print_line_fault.ensures.text

pub returns-in-Some-clause-takes : goal.returns-in-Some-clause-takes
returns-in-Some-clause-takes c =
    entry_refused c.args.self.now (record c.args.self.now { recorder = c.take.new.self; line = c.print_apply_fault.new.out; refused = true })
    c.args.line.now _ c.in-Ok.entry c.in-Some.fault (sym c.in-Ok.ensures.entry) c.if-self.false
    (subst (λ (o : Option ApplyFault). Records c.args.self.now.recorder c.take.new.self (λ s. record_entry s c.in-Ok.entry) o) c.in-Some.is
    c.in_ok-fault.ensures.records) refl refl c.print_apply_fault.ensures.text

pub returns-in-None-clause-takes : goal.returns-in-None-clause-takes
returns-in-None-clause-takes c =
    entry_accepted c.args.self.now (record c.args.self.now { recorder = c.take.new.self; ended = c.either-self.result }) c.args.line.now _ c.in-Ok.entry
    (sym c.in-Ok.ensures.entry) c.if-self.false
    (subst (λ (o : Option ApplyFault). Records c.args.self.now.recorder c.take.new.self (λ s. record_entry s c.in-Ok.entry) o) c.in-None.is
    c.in_ok-fault.ensures.records) (c.either-self.ensures ∙ ap (λ (b : Bool). b || c.args.self.now.ended) c.is_end.ensures) (ap (λ (b : Bool). if b then printed c.args.self.now.line else c.take.new.self.text.items) c.if-self.false)
