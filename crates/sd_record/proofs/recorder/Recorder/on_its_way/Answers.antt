use Rattle.std.proofs.Common.{arith}
use Rattle.sd_record.proofs.Standing.{looked, none_so_great}
use Rattle.sd_record.proofs.recorder.Recorder.on_its_way.Goals as goal

pub returns-then-number-gt-MOST-clause-flight : goal.returns-then-number-gt-MOST-clause-flight
returns-then-number-gt-MOST-clause-flight c =
    λ setting events stands. none_so_great c.args.self.now setting events stands c.args.number (omega (arith, c.if-number-gt-MOST.true))

pub returns-clause-flight : goal.returns-clause-flight
returns-clause-flight c = λ setting events stands. looked c.args.self.now setting events stands c.args.number c.flight.result c.flight.ensures
