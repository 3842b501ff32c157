-- What a step of a node leaves as it is, whatever kind of node it is.
use Rattle.std.specs.Prelude.{◌≡◌}
use Rattle.sd_device.specs.declared.Effect.{Effect}
use Rattle.sd_device.specs.Calls.{Call}

-- whatever this call sends, the word says the same of the node afterwards
abbrev pub Keeps : {N Said : Type 0} → (N → Call → Effect → N → Type 0) → N → Call → (N → Said) → Type 0
Keeps {N} steps old call word = (effect : Effect) (new : N) → steps old call effect new → word new ≡ word old
