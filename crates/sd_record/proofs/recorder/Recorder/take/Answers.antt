use Rattle.std.proofs.Common.{Option, None}
use Rattle.std.proofs.lemmas.Result.{IfOk-weaker, IfOk-at_ok}
use Rattle.sd_history.specs.declared.ApplyFault.{ApplyFault}
use Rattle.sd_record.specs.Recorded.{add, record_entry}
use Rattle.sd_record.specs.Standing.{Becomes, Records}
use Rattle.sd_record.proofs.Entering.{event_came, has_recorded, losses_came, losses_refused}
use Rattle.sd_record.proofs.Standing.{with_text}
use Rattle.sd_record.proofs.recorder.Recorder.take.Goals as goal
use Rattle.sd_record.proofs.recorder.Recorder.take.Goals.{After-happen}

pub returns-in-Some-clause-records : goal.returns-in-Some-clause-records
returns-in-Some-clause-records c =
    λ setting events stands.
    losses_refused c.args.self.now c.lose_all.new.self c.args.entry.now c.in-Some.fault setting events
    (losses_came (record c.args.self.now { text = c.clear.new.self }) c.lose_all.new.self c.args.entry.now c.reference.result _ _ c.reference.ensures c.in-Some.is c.in_ok-fault.ensures
    c.clear.ensures.items setting events (with_text c.args.self.now setting events c.clear.new.self stands))

-- the losses happened, and the event comes to this
entered : (c : After-happen) (refused : Option ApplyFault)
    → Becomes c.number_in.new.self c.happen.new.self (λ setting. add setting c.event-event.result) refused
    → Records c.args.self.now c.happen.new.self (λ setting. record_entry setting c.args.entry.now) refused
entered c refused becomes =
    λ setting events stands.
    event_came c.lose_all.new.self c.number_in.new.self c.happen.new.self c.args.entry.now c.event-event.result c.in_ok-number.number refused
    setting events c.event-event.ensures.event c.in_ok-number.ensures.number c.in_ok-number.ensures.text c.in_ok-number.ensures.stands becomes
    (losses_came (record c.args.self.now { text = c.clear.new.self }) c.lose_all.new.self c.args.entry.now c.reference.result _ _ c.reference.ensures c.in_default.is c.in_ok-fault.ensures
    c.clear.ensures.items setting events (with_text c.args.self.now setting events c.clear.new.self stands))

pub returns-clause-records : goal.returns-clause-records
returns-clause-records c =
    IfOk-weaker c.happen.result (Becomes c.number_in.new.self c.happen.new.self (λ setting. add setting c.event-event.result))
    (Records c.args.self.now c.happen.new.self (λ setting. record_entry setting c.args.entry.now)) (entered c) c.happen.ensures

pub returns-clause-lawful : goal.returns-clause-lawful
returns-clause-lawful c =
    λ is setting events stands.
    has_recorded c.args.self.now c.happen.new.self c.args.entry.now setting events stands
    (entered c None (IfOk-at_ok (Becomes c.number_in.new.self c.happen.new.self (λ setting'. add setting' c.event-event.result)) is c.happen.ensures)
    setting events stands)
