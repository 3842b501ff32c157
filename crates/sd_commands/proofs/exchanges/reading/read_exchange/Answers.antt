use Rattle.std.proofs.Common.{◌≡◌, ◌∙◌, sym, ap, Ok, Err, rules}
use Rattle.sd_commands.specs.exchanges.Lines.{exchange_line}
use Rattle.sd_commands.specs.exchanges.Spelled.{spelled}
use Rattle.sd_commands.proofs.exchanges.Fieldwise.{line_end, line_exchange, line_unknown}
use Rattle.sd_commands.proofs.exchanges.reading.read_exchange.Goals as goal

pub returns-in_err-numbers-in-Some-Exchange-clause-line :
    goal.returns-in_err-numbers-in-Some-Exchange-clause-line
returns-in_err-numbers-in-Some-Exchange-clause-line c =
    let read : exchange_line c.args.bytes.now ≡ Err c.in_err-numbers-in-Some-Exchange.field-0.0 =
    line_exchange c.args.bytes.now _ _ c.first_field-word.ensures.field c.first_field-word.ensures.len
    (c.in-Some-Exchange.ensures.known ∙ ap spelled c.in-Some-Exchange.field-0-is) c.in_err-numbers-in-Some-Exchange.ensures.fault in
    rw read (search rules)

pub returns-in_ok-numbers-in-Some-Exchange-clause-line :
    goal.returns-in_ok-numbers-in-Some-Exchange-clause-line
returns-in_ok-numbers-in-Some-Exchange-clause-line c =
    let read =
    line_exchange c.args.bytes.now _ _ c.first_field-word.ensures.field c.first_field-word.ensures.len
    (c.in-Some-Exchange.ensures.known ∙ ap spelled c.in-Some-Exchange.field-0-is) c.in_ok-numbers-in-Some-Exchange.ensures.numbers in
    ap Ok c.exchange_of.ensures.line ∙ sym read

pub returns-in-Some-End-clause-line : goal.returns-in-Some-End-clause-line
returns-in-Some-End-clause-line c =
    c.read_end.ensures.line
    ∙ sym (line_end c.args.bytes.now _ c.first_field-word.ensures.field c.first_field-word.ensures.len
    (c.in-Some-End.ensures.known ∙ ap spelled c.in-Some-End.field-0-is))

pub returns-in-None-clause-line : goal.returns-in-None-clause-line
returns-in-None-clause-line c = sym (line_unknown c.args.bytes.now _ c.first_field-word.ensures.field c.first_field-word.ensures.len c.in-None.ensures.unknown)
