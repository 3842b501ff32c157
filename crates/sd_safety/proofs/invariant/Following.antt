-- What of the invariant follows from its core: C7 from the root condition, and the matters of order from what is refused and from renewal.
use Rattle.std.specs.Prelude.{List, ◌∷◌}
use Rattle.sd_safety.specs.invariant.Guarded.{IsGuarded, AreGuarded, IsSteady}
use Rattle.sd_plan.specs.Plans.{Fits}
use Rattle.sd_sched.specs.declared.Event.{Event}
use Rattle.sd_history.specs.World.{Setting}
use Rattle.sd_history.specs.Steps.{seen_of}
use Rattle.sd_history.specs.Chronicle.{next_step, chronicle}
use Rattle.sd_safety.specs.invariant.Eras.{plan_now}
use Rattle.sd_safety.specs.invariant.Invariant.{Core, Invariant, HasFallback}
use Rattle.sd_safety.proofs.invariant.Parts.{premises_of}
use Rattle.sd_safety.proofs.invariant.Domains.{Holding, holding}
use Rattle.sd_safety.proofs.invariant.InForce.{in_force_too}
use Rattle.sd_safety.proofs.invariant.Fallback.{fallback_devices_sound, fallback_links_sound}
use Rattle.sd_safety.proofs.invariant.Staying.{fallback_stay}
use Rattle.sd_safety.proofs.invariant.Orders.{in_order}

-- a domain has what failed in the era of a steady history
pub held_now : (setting : Setting) (e : Event) (history : List Event) → IsSteady setting (e ∷ history) → Holding setting (chronicle setting (e ∷ history))
held_now setting e history clean =
    holding setting (next_step setting (chronicle setting history) e) (chronicle setting history)
    (premises_of setting (seen_of (chronicle setting (e ∷ history))) clean.premises).domain

-- the plan in force is guarded, and fits the network
pub guarded_now : (setting : Setting) (e : Event) (history : List Event) → AreGuarded setting → IsSteady setting (e ∷ history)
    → IsGuarded setting.net (plan_now setting (chronicle setting (e ∷ history)))
guarded_now setting e history fair clean = in_force_too (IsGuarded setting.net) setting (e ∷ history) fair.guarded fair.some_plan clean.is

pub fits_now : (setting : Setting) (e : Event) (history : List Event) → AreGuarded setting → IsSteady setting (e ∷ history)
    → Fits setting.net (plan_now setting (chronicle setting (e ∷ history)))
fits_now setting e history fair clean = in_force_too (Fits setting.net) setting (e ∷ history) fair.fit fair.some_plan clean.is

has_fallback : (setting : Setting) (e : Event) (history : List Event) → AreGuarded setting → IsSteady setting (e ∷ history)
    → Core setting (chronicle setting (e ∷ history)) → HasFallback setting (chronicle setting (e ∷ history))
has_fallback setting e history fair clean core =
    let all : List Event = e ∷ history in
    let guarded : IsGuarded setting.net (plan_now setting (chronicle setting all)) = guarded_now setting e history fair clean in
    let held : Holding setting (chronicle setting all) = held_now setting e history clean in
    record {
      devices = fallback_devices_sound setting all clean.is held guarded core.causes.move;
      links = fallback_links_sound setting all clean.is held guarded core.causes.move;
      stay =
          fallback_stay setting (chronicle setting all) (fits_now setting e history fair clean) guarded
          (fallback_devices_sound setting all clean.is held guarded core.causes.move)
          (fallback_links_sound setting all clean.is held guarded core.causes.move)
          core.causes.backups core.census.outsiders;
    }

-- the whole invariant
pub invariant_of : (setting : Setting) (e : Event) (history : List Event) → AreGuarded setting → IsSteady setting (e ∷ history)
    → Core setting (chronicle setting (e ∷ history)) → Invariant setting (chronicle setting (e ∷ history))
invariant_of setting e history fair clean core =
    record { core = core; fallback = has_fallback setting e history fair clean core; order = in_order setting (e ∷ history) clean }
