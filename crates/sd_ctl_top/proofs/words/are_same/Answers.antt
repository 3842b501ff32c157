use Rattle.std.proofs.Common.{◌∙◌, arith, string_bytes, sym}
use Rattle.sd_ctl_top.proofs.Openings.{all_same, not_same, same_later}
use Rattle.sd_ctl_top.proofs.words.are_same.Goals as goal

pub returns-then-not-is_same : goal.returns-then-not-is_same
returns-then-not-is_same c =
    sym
    (not_same string_bytes c.args.one.now c.args.other.now c.loop-place.place c.index-one-place.result c.index-other-place.result (omega arith)
    (omega (arith, c.requires)) c.index-one-place.is c.index-other-place.is
    (rw (← c.as_str.ensures.value, ← c.as_str-in-loop-place.ensures.value) (sym c.is_same.ensures ∙ c.if-not-is_same.true)))
    ∙ c.loop-place.invariant

pub loop-place-preserved : goal.loop-place-preserved
loop-place-preserved c =
    sym
    (same_later string_bytes c.args.one.now c.args.other.now c.loop-place.place c.index-one-place.result c.index-other-place.result (omega arith)
    (omega (arith, c.requires)) c.index-one-place.is c.index-other-place.is
    (rw (← c.as_str.ensures.value, ← c.as_str-in-loop-place.ensures.value) (sym c.is_same.ensures ∙ c.if-not-is_same.false)))
    ∙ c.loop-place.invariant

pub returns : goal.returns
returns c =
    sym (all_same string_bytes c.args.one.now c.args.other.now c.loop-place.place (omega arith) (omega (arith, c.requires))) ∙ c.loop-place.invariant
