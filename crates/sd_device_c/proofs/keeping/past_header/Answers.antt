use Rattle.sd_device_c.proofs.Saying.{is_header, headed, no_header}
use Rattle.sd_device_c.proofs.keeping.past_header.Goals as goal
use Rattle.sd_device_c.proofs.keeping.past_header.Goals.{else-title-eq-TITLE-via-then-title-eq-TITLE+else-count-ports, else-title-eq-TITLE-via-else-title-eq-TITLE}

pub returns-then-body-lt16-clause-none : goal.returns-then-body-lt16-clause-none
returns-then-body-lt16-clause-none c = λ rest is. no_header c.args.ports c.args.body.now rest c.if-body-lt16.true is

pub returns-then-count-ports-clause-some : goal.returns-then-count-ports-clause-some
returns-then-count-ports-clause-some c =
    is_header c.args.ports c.args.body.now c.next_u64-title.result.1.now c.next_u64-count.result.1.now c.next_u64-title.result.0
    c.next_u64-count.result.0 c.next_u64-title.ensures.bytes c.next_u64-count.ensures.bytes c.if-title-eq-TITLE.true c.if-count-ports.true

pub returns-else-title-eq-TITLE-clause-none : goal.returns-else-title-eq-TITLE-clause-none
returns-else-title-eq-TITLE-clause-none c = λ rest is.
    let both =
    headed c.args.ports c.args.body.now c.next_u64-title.result.1.now c.next_u64-count.result.1.now rest c.next_u64-title.result.0
    c.next_u64-count.result.0 c.next_u64-title.ensures.bytes c.next_u64-count.ensures.bytes is in
    elim c.else-title-eq-TITLE.branch [
      | else-title-eq-TITLE-via-then-title-eq-TITLE+else-count-ports w ↦ w.if-count-ports.false both.1
      | else-title-eq-TITLE-via-else-title-eq-TITLE w ↦ w.if-title-eq-TITLE.false both.0
    ]
