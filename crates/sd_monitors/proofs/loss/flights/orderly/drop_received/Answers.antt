use Rattle.std.proofs.Common.{arith, sym, ◌∙◌, ap, subst}
use Rattle.sd_monitors.specs.loss.flights.OrderlyKept.{waits_at, AreInOrder}
use Rattle.sd_monitors.proofs.loss.flights.InOrder.{order_rest, without_first}
use Rattle.sd_monitors.proofs.loss.flights.orderly.drop_received.Goals as goal

pub first-preserved : goal.first-preserved
first-preserved c =
    let before = c.first.entries.items in
    let rest = c.pop_front-received.ensures.rest in
    record {
      flights = λ n. ap (λ es. waits_at es n) rest ∙ without_first n before c.in-Some.first.now c.in-Some.ensures.lookup c.if-first.false
          ∙ c.first.invariant.flights n;
      order = λ h. subst AreInOrder (sym rest) (order_rest before (c.first.invariant.order h));
      bound = omega (arith, c.pop_front-received.ensures.len, c.first.invariant.bound);
      capacity = c.pop_front-received.ensures.capacity ∙ c.first.invariant.capacity;
    }
