use Rattle.sd_sched.proofs.Join.{ReadTo}
use Rattle.sd_sched.proofs.fields.read_fields.Given as goal

abbrev pub invariant-loop-place : goal.invariant-loop-place
invariant-loop-place l = ReadTo l.shape l.behind l.numbers l.fault l.left l.place
