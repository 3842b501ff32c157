-- A device that acts, and one that follows no plan, has no parent; the second does not act.
use Rattle.std.specs.Prelude.{◌≡◌, Bool, true, false, Option, None, refl}
use Rattle.std.specs.Prelude.{if◌then◌else◌, option_map}
use Rattle.sd_num.specs.Lists.{map_or}
use Rattle.sd_plan.specs.declared.Duty.{Duty}
use Rattle.sd_plan.specs.declared.Edge.{Edge}
use Rattle.sd_device.specs.declared.registers.Registers.{Registers}
use Rattle.sd_device.specs.declared.registers.Mode.{Mode}
use Rattle.sd_device.specs.declared.registers.Mode.TheVariants.{Primary, Backup, Acting, Idle}
use Rattle.sd_device.specs.Rules.{parent_in, acts_in, epoch_in, is_acting_mode, follows_a_plan}

-- a device that follows no plan has no parent
pub planless_leads_nowhere : (r : Registers) → epoch_in r ≡ 0 → parent_in r ≡ None
planless_leads_nowhere r none = rw none refl

-- a device that follows no plan does not act
pub planless_acts_not : (r : Registers) → epoch_in r ≡ 0 → acts_in r ≡ false
planless_acts_not r none = rw none refl

-- a device that acts has no parent
pub acting_leads_nowhere : (r : Registers) → acts_in r ≡ true → parent_in r ≡ None
acting_leads_nowhere r acts = go (follows_a_plan r) r.mode r.duty acts
  where
    go : (follows : Bool) (mode : Mode) (duty : Option Duty) → (if follows then is_acting_mode mode else false) ≡ true
        → (if follows then option_map (λ (e : Edge). e.parent) (elim mode as (λ (m : Mode). Option Edge) [
          | Primary ↦ map_or duty None (λ d. d.primary)
          | Backup ↦ map_or duty None (λ d. d.backup)
          | _ ↦ None
        ]) else None) ≡ None
    go false mode duty acts = refl
    go true Primary duty acts = cc
    go true Backup duty acts = cc
    go true Acting duty acts = refl
    go true Idle duty acts = refl
