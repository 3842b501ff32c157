-- Which premises are broken, by what is told of some of them.
use Rattle.std.specs.Prelude.{not}
use Rattle.sd_history.specs.declared.BrokenSet.{BrokenSet}
use Rattle.sd_premise.specs.declared.sets.Held.{Held}

-- of four premises it is told whether they hold; the others are as before
abbrev pub with_held : BrokenSet → Held → BrokenSet
with_held before held = record before { drift = not held.drift; delay = not held.delay; tick = not held.tick; loss = not held.loss }
