-- No loop of parents and one acting root, with nothing assumed beside five conditions of the plans, the premises but start, and that the rules admit
-- the history, however long it is. And the same of accepted plans and of histories in which no premise is broken.
use Rattle.sd_history.specs.World.{Setting}
use Rattle.sd_safety.specs.invariant.Kept.{AlwaysSafe, StaysSafe}
use Rattle.sd_safety.proofs.invariant.Parts.{fair_is_guarded, clean_is_steady}
use Rattle.sd_safety.proofs.renewals.Each.{safe_if_silent}
use Rattle.sd_safety.proofs.whole.Silent.{are_silent}
use Rattle.sd_safety.proofs.entering.Entering.{members_enter}

pub always_safe : (setting : Setting) → AlwaysSafe setting
always_safe setting = safe_if_silent setting (are_silent setting) (members_enter setting)

pub stays_safe : (setting : Setting) → StaysSafe setting
stays_safe setting history fair clean = always_safe setting history (fair_is_guarded setting fair) (clean_is_steady setting history clean)
