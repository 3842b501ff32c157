-- One flight more is looked up.
use Rattle.std.proofs.Common.{ℕ, ◌≡◌, ◌+◌, ◌∷◌, length, filter, ap, sym, ◌∙◌, arith}
use Rattle.std.proofs.lemmas.List.{take_all}
use Rattle.sd_fleet.specs.declared.Outcome.{Outcome}
use Rattle.sd_history.specs.flights.Flights.{look_in}
use Rattle.sd_history.specs.Nodes.{steps_of}
use Rattle.sd_replay.proofs.Flights.{one_collected}
use Rattle.sd_replay.proofs.observe.collect.Goals as goal

pub loop-i-preserved : goal.loop-i-preserved
loop-i-preserved g c =
    record {
      flights = λ setting run event outcome accepted tells.
          one_collected setting accepted.next.step (steps_of run) outcome c.loop-i.i
          (look_in (accepted.next.step ∷ steps_of run) (c.args.messages.first + c.from.result)) c.loop-i.sent.items c.push_flight.new.list.items
          accepted.stands.fabric.accepted accepted.comes
          (omega (arith, c.loop-i-test.true, c.loop-i.auto.i-end, tells.count))
          (ap (λ (n : ℕ). look_in (accepted.next.step ∷ steps_of run) (c.args.messages.first + n)) c.from.ensures
          ∙ ap (λ (n : ℕ). look_in (accepted.next.step ∷ steps_of run) (n + c.loop-i.i)) (sym tells.first))
          (c.loop-i.invariant.flights setting run event outcome accepted tells)
          (c.push_flight.ensures.items setting (accepted.next ∷ run) accepted.stands);
      few = omega (arith, c.push_flight.ensures.few, c.loop-i.invariant.few);
      capacity = omega (arith, c.push_flight.ensures.capacity, c.loop-i.invariant.capacity);
    }

pub returns-clause-flights : goal.returns-clause-flights
returns-clause-flights g c = λ setting run event outcome accepted tells.
    let count : outcome.sent ≡ length accepted.next.step.sent = ap (λ (o : Outcome). o.sent) accepted.comes in
    c.loop-i.invariant.flights setting run event outcome accepted tells
    ∙ ap (filter (λ f. f.reaches))
    (take_all c.loop-i.i accepted.next.step.sent (omega (arith, c.loop-i-test.false, c.loop-i.auto.i-end, count, tells.count)))
