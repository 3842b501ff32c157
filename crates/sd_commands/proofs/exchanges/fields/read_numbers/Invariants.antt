use Rattle.sd_commands.proofs.exchanges.Fieldwise.{ReadTo}
use Rattle.sd_commands.proofs.exchanges.fields.read_numbers.Given as goal

abbrev pub invariant-loop-place : goal.invariant-loop-place
invariant-loop-place l = ReadTo l.behind l.numbers l.refused l.left l.place
