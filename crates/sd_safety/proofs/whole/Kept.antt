-- The invariant after each event of a steady history, with nothing assumed.
use Rattle.std.specs.Prelude.{List, ◌∷◌}
use Rattle.sd_sched.specs.declared.Event.{Event}
use Rattle.sd_history.specs.World.{Setting}
use Rattle.sd_safety.specs.invariant.Guarded.{AreGuarded, IsSteady}
use Rattle.sd_safety.specs.invariant.Coming.{IsNextEvent}
use Rattle.sd_safety.specs.invariant.Kept.{StaysInvariant}
use Rattle.sd_safety.proofs.invariant.Prefix.{clean_before}
use Rattle.sd_safety.proofs.invariant.Whole as whole
use Rattle.sd_safety.proofs.renewals.Each.{each_keeps}
use Rattle.sd_safety.proofs.whole.Silent.{are_silent}
use Rattle.sd_safety.proofs.entering.Entering.{members_enter}

pub stays_invariant : (setting : Setting) → StaysInvariant setting
stays_invariant setting = whole.stays_invariant (each_keeps setting (are_silent setting) (members_enter setting))

-- each event of a steady history comes with the invariant after each event before it
pub comes : (setting : Setting) (history : List Event) (e : Event) → AreGuarded setting → IsSteady setting (e ∷ history) → IsNextEvent setting history e
comes setting history e fair clean = record { fair = fair; clean = clean; before = stays_invariant setting history fair (clean_before setting e history clean) }
