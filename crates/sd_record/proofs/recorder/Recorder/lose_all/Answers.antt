use Rattle.std.proofs.Common.{arith, suc, ◌-◌, ◌^◌, ◌+◌, sym, ◌∙◌, subst, Option}
use Rattle.sd_sched.specs.declared.Event.TheVariants.{Lose}
use Rattle.sd_history.specs.declared.ApplyFault.{ApplyFault}
use Rattle.sd_record.specs.Recorded.{add, lose_all}
use Rattle.sd_record.specs.Standing.{Came}
use Rattle.sd_record.proofs.Losing.{all_lost, begins, counted, no_more, one_more, refused_loss, still_to}
use Rattle.sd_record.proofs.recorder.Recorder.lose_all.Goals as goal

pub losses-init : goal.losses-init
losses-init c = λ setting start events holds. begins c.args.self.now setting start c.args.reference (2 ^ 64 - 1) events holds

pub losses-preserved : goal.losses-preserved
losses-preserved c =
    λ setting start events holds.
    (let before =
    counted c.losses.self setting start c.args.reference (2 ^ 64 - 1 - c.losses.counter) (suc (2 ^ 64 - 1 - (c.losses.counter + 1)))
    (lose_all setting c.args.reference events) (omega (arith, c.losses-test.true)) (c.losses.invariant setting start events holds) in
    let still =
    still_to c.losses.self c.next_lost.new.self setting start c.args.reference (suc (2 ^ 64 - 1 - (c.losses.counter + 1)))
    (lose_all setting c.args.reference events) c.in_ok-ending.ensures.text c.in_ok-ending.ensures.stands before in
    one_more c.next_lost.new.self c.happen.new.self setting start c.args.reference (2 ^ 64 - 1 - (c.losses.counter + 1))
    (lose_all setting c.args.reference events) still c.in-Some.ending
    (sym (c.in_ok-ending.ensures.lost setting before.events before.holds.stands) ∙ c.in-Some.is)
    (subst (λ (o : Option ApplyFault). Came c.happen.new.self setting start
    (add setting (Lose c.in-Some.ending.last c.in-Some.ending.number) still.events) o) c.in_default-2.is
    (c.in_ok-fault.ensures setting start still.events still.holds)))

pub returns-in_default : goal.returns-in_default
returns-in_default c =
    λ setting start events holds.
    (let before =
    counted c.losses.self setting start c.args.reference (2 ^ 64 - 1 - c.losses.counter) (suc (2 ^ 64 - 1 - (c.losses.counter + 1)))
    (lose_all setting c.args.reference events) (omega (arith, c.losses-test.true)) (c.losses.invariant setting start events holds) in
    let still =
    still_to c.losses.self c.next_lost.new.self setting start c.args.reference (suc (2 ^ 64 - 1 - (c.losses.counter + 1)))
    (lose_all setting c.args.reference events) c.in_ok-ending.ensures.text c.in_ok-ending.ensures.stands before in
    no_more c.next_lost.new.self c.next_lost.new.self setting start c.args.reference (2 ^ 64 - 1 - (c.losses.counter + 1))
    (lose_all setting c.args.reference events) still
    (sym (c.in_ok-ending.ensures.lost setting before.events before.holds.stands) ∙ c.in_default.is))

pub returns-in-Some-2 : goal.returns-in-Some-2
returns-in-Some-2 c =
    λ setting start events holds.
    (let before =
    counted c.losses.self setting start c.args.reference (2 ^ 64 - 1 - c.losses.counter) (suc (2 ^ 64 - 1 - (c.losses.counter + 1)))
    (lose_all setting c.args.reference events) (omega (arith, c.losses-test.true)) (c.losses.invariant setting start events holds) in
    let still =
    still_to c.losses.self c.next_lost.new.self setting start c.args.reference (suc (2 ^ 64 - 1 - (c.losses.counter + 1)))
    (lose_all setting c.args.reference events) c.in_ok-ending.ensures.text c.in_ok-ending.ensures.stands before in
    refused_loss c.next_lost.new.self c.happen.new.self setting start c.args.reference (2 ^ 64 - 1 - (c.losses.counter + 1))
    (lose_all setting c.args.reference events) still c.in-Some.ending c.in-Some-2.fault
    (sym (c.in_ok-ending.ensures.lost setting before.events before.holds.stands) ∙ c.in-Some.is)
    (subst (λ (o : Option ApplyFault). Came c.happen.new.self setting start
    (add setting (Lose c.in-Some.ending.last c.in-Some.ending.number) still.events) o) c.in-Some-2.is
    (c.in_ok-fault.ensures setting start still.events still.holds)))

pub returns : goal.returns
returns c =
    λ setting start events holds.
    all_lost c.losses.self setting start c.args.reference (lose_all setting c.args.reference events)
    (counted c.losses.self setting start c.args.reference (2 ^ 64 - 1 - c.losses.counter) 0 (lose_all setting c.args.reference events)
    (omega (arith, c.losses-test.false)) (c.losses.invariant setting start events holds))
