use Rattle.std.proofs.Common.{Err, Ok, refl, sym, ap, ◌∙◌, subst}
use Rattle.sd_replay.specs.wait.Printed.{waits_line}
use Rattle.sd_replay.specs.wait.Standing.{StandsFor}
use Rattle.sd_io.specs.outside.Pieces.{Pieces, piece_of}
use Rattle.sd_files.specs.Writes.{Adds}
use Rattle.sd_files.specs.declared.Status.{Status}
use Rattle.sd_files.proofs.work.Writing.{adds_handed_on}
use Rattle.sd_files.proofs.work.Adding.{adds_behind, adds_front}
use Rattle.sd_commands.specs.replay.Replays.{status_if}
use Rattle.sd_commands.specs.declared.replay.observer.WaitObserver.{WaitObserver}
use Rattle.sd_commands.proofs.replay.Working.{order_last, order_status}
use Rattle.sd_commands.proofs.replay.order_work.OrderWorkLineWork.finish.Goals as goal

pub returns-in_err-send-clause-writes : goal.returns-in_err-send-clause-writes
returns-in_err-send-clause-writes g c = λ work xs does.
    adds_handed_on (Unit {0}) c.from_residual.result _ _ _ _ c.from_residual.ensures.1
    (subst (λ (pieces : Pieces). Adds {T = Unit {0}} pieces (g.O.Sink.written c.args.out.now) (g.O.Sink.written c.send.new.out) (Err c.in_err-send.field-0.0))
    (order_last c.args.self.now c.printed.result.now (waits_line c.tally-tally.result) c.tally-tally.result refl
    (λ setting events replayed. c.printed.ensures ∙ c.print_done.ensures.done setting events replayed)
    (λ told stands. c.tally-tally.ensures told (subst (λ (w : WaitObserver). StandsFor w.waits told) (sym c.observer.ensures) stands)) work xs does)
    (adds_front (Unit {0}) (Unit {0}) (piece_of c.printed.result.now) (piece_of (waits_line c.tally-tally.result)) _ _ c.in_err-send.field-0.0 c.in_err-send.ensures.only
    c.in_err-send.ensures.writes))

pub returns-in_err-send-2-clause-writes : goal.returns-in_err-send-2-clause-writes
returns-in_err-send-2-clause-writes g c = λ work xs does.
    adds_handed_on (Unit {0}) c.from_residual-in_err-send-2.result _ _ _ _ c.from_residual-in_err-send-2.ensures.1
    (subst (λ (pieces : Pieces). Adds {T = Unit {0}} pieces (g.O.Sink.written c.args.out.now) (g.O.Sink.written c.send-2.new.out) (Err c.in_err-send-2.field-0.0))
    (order_last c.args.self.now c.printed.result.now c.printed-2.result.now c.tally-tally.result (c.printed-2.ensures ∙ c.print_waits.ensures)
    (λ setting events replayed. c.printed.ensures ∙ c.print_done.ensures.done setting events replayed)
    (λ told stands. c.tally-tally.ensures told (subst (λ (w : WaitObserver). StandsFor w.waits told) (sym c.observer.ensures) stands)) work xs does)
    (adds_behind {T = Unit {0}} (piece_of c.printed.result.now) (piece_of c.printed-2.result.now) _ _ _
    (Err c.in_err-send-2.field-0.0) c.in_ok-send.ensures.writes c.in_err-send-2.ensures.only c.in_err-send-2.ensures.writes))

pub returns-clause-writes : goal.returns-clause-writes
returns-clause-writes g c = λ work xs does.
    subst (λ (pieces : Pieces). Adds {T = Status} pieces (g.O.Sink.written c.args.out.now) (g.O.Sink.written c.send-2.new.out) (Ok c.status_if.result))
    (order_last c.args.self.now c.printed.result.now c.printed-2.result.now c.tally-tally.result (c.printed-2.ensures ∙ c.print_waits.ensures)
    (λ setting events replayed. c.printed.ensures ∙ c.print_done.ensures.done setting events replayed)
    (λ told stands. c.tally-tally.ensures told (subst (λ (w : WaitObserver). StandsFor w.waits told) (sym c.observer.ensures) stands)) work xs does)
    (adds_behind {T = Status} (piece_of c.printed.result.now) (piece_of c.printed-2.result.now) _ _ _
    (Ok c.status_if.result) c.in_ok-send.ensures.writes tt c.in_ok-send-2.ensures.writes)

pub returns-clause-status : goal.returns-clause-status
returns-clause-status g c = λ work xs does.
    order_status c.args.self.now c.shows_trouble.result c.status_if.result c.tally-tally.result
    (c.status_if.ensures ∙ ap status_if c.has_trouble-trouble.ensures) c.shows_trouble.ensures
    (λ told stands. c.tally-tally.ensures told (subst (λ (w : WaitObserver). StandsFor w.waits told) (sym c.observer.ensures) stands)) work xs does
