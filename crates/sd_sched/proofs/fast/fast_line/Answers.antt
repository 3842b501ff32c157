use Rattle.std.proofs.Common.{[], ◌∷◌, refl, arith, le-leb}
use Rattle.sd_sched.specs.Lines.{limit}
use Rattle.sd_sched.specs.declared.words.Field.TheVariants.{Amount, Which}
use Rattle.sd_sched.specs.declared.words.Word.TheVariants.{Tick, Ask, Recv, Fix}
use Rattle.sd_sched.proofs.Fronts.{has_line}
use Rattle.sd_sched.proofs.fast.fast_line.Goals as goal

pub returns-in_ok-counter-in-Tick : goal.returns-in_ok-counter-in-Tick
returns-in_ok-counter-in-Tick c =
    let word = c.in_ok-word in
    let head = c.in_ok-reference in
    let h = head.field-0 in
    let counter = c.in_ok-counter-in-Tick.counter in
    let counter_is = c.in_ok-counter-in-Tick.ensures in
    has_line Tick c.args.text.now word.place _ (h.reference ∷ h.device ∷ counter.number ∷ []) (rw c.in-Tick.is at word.ensures.spelled)
    (head.ensures.head (Amount ∷ []) counter.end (counter.number ∷ []) (head.ensures.space, (counter.end, (counter_is.number, (refl, counter_is.behind))))) refl refl word.ensures.short (omega arith)
    (rw (le-leb h.device (limit Which) head.ensures.device, le-leb h.reference (limit Amount) head.ensures.reference, le-leb counter.number (limit Amount) (omega (arith, counter_is.number.below))) refl)

pub returns-in_ok-counter-in-Ask : goal.returns-in_ok-counter-in-Ask
returns-in_ok-counter-in-Ask c =
    let word = c.in_ok-word in
    let head = c.in_ok-reference in
    let h = head.field-0 in
    let counter = c.in_ok-counter-in-Ask.counter in
    let counter_is = c.in_ok-counter-in-Ask.ensures in
    has_line Ask c.args.text.now word.place _ (h.reference ∷ h.device ∷ counter.number ∷ []) (rw c.in-Ask.is at word.ensures.spelled)
    (head.ensures.head (Amount ∷ []) counter.end (counter.number ∷ []) (head.ensures.space, (counter.end, (counter_is.number, (refl, counter_is.behind))))) refl refl word.ensures.short (omega arith)
    (rw (le-leb h.device (limit Which) head.ensures.device, le-leb h.reference (limit Amount) head.ensures.reference, le-leb counter.number (limit Amount) (omega (arith, counter_is.number.below))) refl)

pub returns-in_ok-message-in-Recv : goal.returns-in_ok-message-in-Recv
returns-in_ok-message-in-Recv c =
    let word = c.in_ok-word in
    let head = c.in_ok-reference in
    let h = head.field-0 in
    let counter = c.in_ok-counter-in-Recv.counter in
    let counter_is = c.in_ok-counter-in-Recv.ensures in
    let message = c.in_ok-message-in-Recv.message in
    let message_is = c.in_ok-message-in-Recv.ensures in
    has_line Recv c.args.text.now word.place _ (h.reference ∷ h.device ∷ counter.number ∷ message.number ∷ []) (rw c.in-Recv.is at word.ensures.spelled)
    (head.ensures.head (Amount ∷ Amount ∷ []) message.end (counter.number ∷ message.number ∷ []) (head.ensures.space, (counter.end, (counter_is.number, (counter_is.behind, (message.end, (message_is.number, (refl, message_is.behind)))))))) refl refl word.ensures.short (omega arith)
    (rw (le-leb h.device (limit Which) head.ensures.device, le-leb h.reference (limit Amount) head.ensures.reference, le-leb counter.number (limit Amount) (omega (arith, counter_is.number.below)), le-leb message.number (limit Amount) (omega (arith, message_is.number.below))) refl)

pub returns-in_ok-eps-in-Fix : goal.returns-in_ok-eps-in-Fix
returns-in_ok-eps-in-Fix c =
    let word = c.in_ok-word in
    let head = c.in_ok-reference in
    let h = head.field-0 in
    let counter = c.in_ok-counter-in-Fix.counter in
    let counter_is = c.in_ok-counter-in-Fix.ensures in
    let clock = c.in_ok-clock-in-Fix.clock in
    let clock_is = c.in_ok-clock-in-Fix.ensures in
    let eps = c.in_ok-eps-in-Fix.eps in
    let eps_is = c.in_ok-eps-in-Fix.ensures in
    has_line Fix c.args.text.now word.place _ (h.reference ∷ h.device ∷ counter.number ∷ clock.number ∷ eps.number ∷ []) (rw c.in-Fix.is at word.ensures.spelled)
    (head.ensures.head (Amount ∷ Amount ∷ Amount ∷ []) eps.end (counter.number ∷ clock.number ∷ eps.number ∷ []) (head.ensures.space, (counter.end, (counter_is.number, (counter_is.behind, (clock.end, (clock_is.number, (clock_is.behind, (eps.end, (eps_is.number, (refl, eps_is.behind))))))))))) refl refl word.ensures.short (omega arith)
    (rw (le-leb h.device (limit Which) head.ensures.device, le-leb h.reference (limit Amount) head.ensures.reference, le-leb counter.number (limit Amount) (omega (arith, counter_is.number.below)), le-leb clock.number (limit Amount) (omega (arith, clock_is.number.below)), le-leb eps.number (limit Amount) (omega (arith, eps_is.number.below))) refl)
