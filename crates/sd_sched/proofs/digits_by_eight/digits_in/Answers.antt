use Rattle.std.proofs.Common.{sym, ◌∙◌, arith}
use Rattle.core.proofs.dec2flt.Eight.{lanes_are, all_digits, first_other, shifted_is}
use Rattle.sd_sched.proofs.digits_by_eight.digits_in.Goals as goal

pub returns-then-others-eq0-clause-all : goal.returns-then-others-eq0-clause-all
returns-then-others-eq0-clause-all c bytes eight is = all_digits bytes _ eight is _ c.flags_from_ten-others.ensures c.if-others-eq0.true

pub returns-clause-digits : goal.returns-clause-digits
returns-clause-digits c bytes eight is =
    let first = first_other bytes _ eight is _ c.flags_from_ten-others.ensures (omega (arith, c.if-others-eq0.false)) in
    let s = shifted_is bytes _ c.keep_first.result eight (omega arith) (omega arith) (c.keep_first.ensures ∙ rw (lanes_are bytes _ eight is)) in
    (first.0, sym (c.value_of_eight.ensures s.0 s.1 s.2 ∙ s.3))
