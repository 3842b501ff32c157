use Rattle.std.proofs.Common.{Err, Ok, ◌∙◌, subst}
use Rattle.sd_io.specs.outside.Pieces.{Pieces}
use Rattle.sd_files.specs.Writes.{Adds}
use Rattle.sd_files.specs.declared.Status.{Status}
use Rattle.sd_files.proofs.work.Writing.{adds_handed_on}
use Rattle.sd_commands.proofs.replay.Working.{replay_last, replay_status}
use Rattle.sd_commands.proofs.replay.replay_work.ReplayWorkLineWork.finish.Goals as goal

pub returns-in_err-send-clause-writes : goal.returns-in_err-send-clause-writes
returns-in_err-send-clause-writes g c = λ work xs does.
    adds_handed_on (Unit {0}) c.from_residual.result _ _ _ _ c.from_residual.ensures.1
    (subst (λ (pieces : Pieces). Adds {T = Unit {0}} pieces (g.O.Sink.written c.args.out.now) (g.O.Sink.written c.send.new.out) (Err c.in_err-send.field-0.0))
    (replay_last g.V.Observer c.args.self.now c.printed.result.now
    (λ setting events replayed. c.printed.ensures ∙ c.print_done.ensures.done setting events replayed) work xs does) c.in_err-send.ensures.writes)

pub returns-clause-writes : goal.returns-clause-writes
returns-clause-writes g c = λ work xs does.
    subst (λ (pieces : Pieces). Adds {T = Status} pieces (g.O.Sink.written c.args.out.now) (g.O.Sink.written c.send.new.out) (Ok c.status_if.result))
    (replay_last g.V.Observer c.args.self.now c.printed.result.now
    (λ setting events replayed. c.printed.ensures ∙ c.print_done.ensures.done setting events replayed) work xs does) c.in_ok-send.ensures.writes

pub returns-clause-status : goal.returns-clause-status
returns-clause-status g c =
    λ work xs does. replay_status g.V.Observer c.args.self.now c.shows_trouble-trouble.result _ c.status_if.ensures c.shows_trouble-trouble.ensures work xs does
