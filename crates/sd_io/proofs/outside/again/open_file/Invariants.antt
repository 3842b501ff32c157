use Rattle.sd_io.specs.outside.Reasons.{Interruptions}
use Rattle.sd_io.proofs.outside.again.open_file.Given as goal

-- each call so far was interrupted
abbrev pub invariant-loop : goal.invariant-loop
invariant-loop g l = Interruptions (λ old e new. g.F.SystemFiles.refuses old l.name e new) l.counter l.initial.files l.files
