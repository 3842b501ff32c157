use Rattle.std.proofs.Common.{◌≡◌, ◌∙◌, sym, ap, Ok, Err, rules}
use Rattle.sd_sched.specs.Lines.{event_of_line}
use Rattle.sd_sched.proofs.ByLine.{line_of_word, event_of_shape}
use Rattle.sd_sched.proofs.reading.read_line.Goals as goal

pub returns-in_err-numbers-clause-event : goal.returns-in_err-numbers-clause-event
returns-in_err-numbers-clause-event c =
    let read : event_of_line c.args.bytes.now ≡ Err c.in_err-numbers.field-0.0 =
    line_of_word c.args.bytes.now _ c.in-Some.word _ _ c.first_field-first.ensures.field c.in-Some.ensures.known c.shape.ensures.shape
    c.first_field-first.ensures.len c.in_err-numbers.ensures.fault in
    rw read (search rules)

pub returns-clause-event : goal.returns-clause-event
returns-clause-event c =
    let read = line_of_word c.args.bytes.now _ c.in-Some.word _ _ c.first_field-first.ensures.field c.in-Some.ensures.known c.shape.ensures.shape
    c.first_field-first.ensures.len c.in_ok-numbers.ensures.numbers in
    ap Ok (c.event.ensures.event ∙ event_of_shape c.in-Some.word _ c.in_ok-numbers.numbers c.shape.ensures.shape) ∙ sym read
