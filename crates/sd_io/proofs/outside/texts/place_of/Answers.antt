use Rattle.std.proofs.Common.{◌∙◌, sym}
use Rattle.sd_io.proofs.outside.Files.{text_in_found}
use Rattle.sd_io.proofs.outside.texts.place_of.Goals as goal

pub returns-then-eq : goal.returns-then-eq
returns-then-eq c =
    c.loop-place.invariant
    ∙ text_in_found c.args.files.now c.loop-place.place c.index-files-place.result c.args.name.now c.loop-place-test.true c.index-files-place.is
    (rw (← c.as_str.ensures.value) (sym c.eq.ensures ∙ c.if-eq.true))
