use Rattle.std.proofs.Common.{true, false, ◌∙◌}
use Rattle.std.proofs.lemmas.Result.{on_ok_weaker}
use Rattle.sd_gen.proofs.Trying.{known, left_out, tried}
use Rattle.sd_gen.proofs.driver.Driver.try_event.Goals as goal

pub returns-then-not-branch-clause-stands : goal.returns-then-not-branch-clause-stands
returns-then-not-branch-clause-stands g c = λ setting x stands.
    left_out g.D.Driven c.args.self.now c.offer.new.self setting x c.args.event.now stands
    (λ s run before.
    known g.D.Driven.stands c.offer.new.self s run c.args.event.now c.offer.new.outcome c.in_ok-offer.field-0 false c.if-not-branch.true
    (c.in_ok-offer.ensures s run before))

pub returns-clause-stands : goal.returns-clause-stands
returns-clause-stands g c =
    on_ok_weaker c.post.result
    (λ posts setting x stands.
    tried g.D.Driven c.args.self.now c.offer.new.self c.post.new.self setting x c.args.event.now c.offer.new.outcome stands
    (λ s run before.
    known g.D.Driven.stands c.offer.new.self s run c.args.event.now c.offer.new.outcome c.in_ok-offer.field-0 true c.if-not-branch.false
    (c.in_ok-offer.ensures s run before))
    (λ y s earlier steps comes same mid. posts setting y s earlier steps comes (c.reference.ensures ∙ same) mid))
    c.post.ensures.stands
