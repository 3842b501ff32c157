use Rattle.std.proofs.Common.{◌∙◌, arith, string_bytes, sym}
use Rattle.sd_ctl_top.proofs.Openings.{no_slash, slash_here, slash_later}
use Rattle.sd_ctl_top.proofs.words.slash_in.Goals as goal

pub returns-then-eq-clause-is : goal.returns-then-eq-clause-is
returns-then-eq-clause-is c =
    sym
    (slash_here string_bytes c.args.words.now c.loop-place.place c.index-words-place.result (omega arith) c.index-words-place.is
    (rw (← c.as_str.ensures.value) (sym c.eq.ensures ∙ c.if-eq.true)))
    ∙ c.loop-place.invariant

pub loop-place-preserved : goal.loop-place-preserved
loop-place-preserved c =
    sym
    (slash_later string_bytes c.args.words.now c.loop-place.place c.index-words-place.result (omega arith) c.index-words-place.is
    (rw (← c.as_str.ensures.value) (sym c.eq.ensures ∙ c.if-eq.false)))
    ∙ c.loop-place.invariant

pub returns-clause-is : goal.returns-clause-is
returns-clause-is c = sym (no_slash string_bytes c.args.words.now c.loop-place.place (omega arith)) ∙ c.loop-place.invariant
