-- The world after an event stands for it.
use Rattle.std.proofs.Common.{◌≡◌, Bool, true, false, List, ◌∷◌, length, refl, sym, ap, ◌∙◌, subst}
use Rattle.std.specs.Prelude.{if◌then◌else◌}
use Rattle.sd_sched.specs.declared.Event.{Event}
use Rattle.sd_history.specs.World.{Setting, Seen}
use Rattle.sd_world.specs.world.Registers.{Registers, registers_after, registers_closed}
use Rattle.sd_world.specs.world.Standing.{Stands}
use Rattle.sd_world.proofs.world.Slots.{length_devices, length_links}
use Rattle.sd_world.proofs.world.Keeping.{stands_after, stands_closed}
use Rattle.sd_premise.specs.Worlds.{world_after}

pub world_stands : (r after : Registers) (setting : Setting) (s : Seen) (earlier : List Seen) → after ≡ world_after r s → Stands r setting earlier
    → Stands after setting (s ∷ earlier)
world_stands r after setting s earlier is stands =
    subst (λ (x : Registers). Stands x setting (s ∷ earlier)) (sym is) (by s.closed refl)
  where
    same : (b : Bool) → s.closed ≡ b → record s { closed = b } ≡ s
    same b is' = ap (λ (c : Bool). record s { closed = c }) (sym is')

    by : (closed : Bool) → s.closed ≡ closed
        → Stands (if closed then registers_closed (registers_after r s.event) else registers_after r s.event) setting (s ∷ earlier)
    by true closes =
        subst (λ (x : Seen). Stands (registers_closed (registers_after r s.event)) setting (x ∷ earlier)) (same true closes)
        (stands_closed (registers_after r s.event) setting earlier (record s { closed = false }) refl
        (stands_after r setting earlier (record s { closed = false }) refl stands))
    by false stays = stands_after r setting earlier s stays stands

-- by whether the window closes
pub world_closed : (r : Registers) (s : Seen) → s.closed ≡ true → world_after r s ≡ registers_closed (registers_after r s.event)
world_closed r s closes = ap (λ (b : Bool). if b then registers_closed (registers_after r s.event) else registers_after r s.event) closes

pub world_open : (r : Registers) (s : Seen) → s.closed ≡ false → world_after r s ≡ registers_after r s.event
world_open r s stays = ap (λ (b : Bool). if b then registers_closed (registers_after r s.event) else registers_after r s.event) stays

-- by an event that is known, where the window does not close
pub world_by : (r : Registers) (s : Seen) (e : Event) → s.event ≡ e → s.closed ≡ false → registers_after r e ≡ world_after r s
world_by r s e is stays = ap (registers_after r) (sym is) ∙ sym (world_open r s stays)

-- the devices and links stay
pub world_devices : (r : Registers) (s : Seen) → length (world_after r s).devices ≡ length r.devices
world_devices r s = by s.closed
  where
    by : (closed : Bool) → length (if closed then registers_closed (registers_after r s.event) else registers_after r s.event).devices ≡ length r.devices
    by true = length_devices s.event r.windows r.devices
    by false = length_devices s.event r.windows r.devices

pub world_links : (r : Registers) (s : Seen) → length (world_after r s).failed_links ≡ length r.failed_links
world_links r s = by s.closed
  where
    by : (closed : Bool)
        → length (if closed then registers_closed (registers_after r s.event) else registers_after r s.event).failed_links ≡ length r.failed_links
    by true = length_links s.event r.failed_links
    by false = length_links s.event r.failed_links
