use Rattle.std.proofs.Common.{arith, sym, ◌∙◌, ap, subst, filter}
use Rattle.sd_device.specs.msg.Spent.{is_left, AreKept}
use Rattle.sd_device.proofs.msg.Books.{kept_rest, seen_rest}
use Rattle.sd_device.proofs.msg.flights.drop_first.Goals as goal

pub loop-first-preserved : goal.loop-first-preserved
loop-first-preserved c =
    let spent = c.args.spent.now in
    let before = c.loop-first.flights.items in
    let rest = c.pop_front-spent.ensures.rest in
    record {
      left = ap (filter (is_left spent)) rest ∙ seen_rest spent before c.in-Some.first.now c.in-Some.ensures.lookup (sym c.leaves.ensures ∙ c.if-leaves.false)
          ∙ c.loop-first.invariant.left;
      kept = λ last h. subst (AreKept last spent) (sym rest) (kept_rest last spent before (c.loop-first.invariant.kept last h));
      bound = omega (arith, c.pop_front-spent.ensures.len, c.loop-first.invariant.bound);
      capacity = c.pop_front-spent.ensures.capacity ∙ c.loop-first.invariant.capacity;
    }
