-- What an event changes of a device: of the one that it names, and of another.
use Rattle.std.specs.Prelude.{◌≡◌, ℕ, true, false, ◌||◌, nat_eq, None, refl, if◌then◌else◌}
use Rattle.std.proofs.Common.{sym}
use Rattle.std.proofs.lemmas.Bool.{eqb-true, eq-eqb, ne_eqb, eqb-false}
use Rattle.sd_num.specs.Lists.{map_or, same_number}
use Rattle.sd_plan.specs.declared.topo.Thing.TheVariants as thing
use Rattle.sd_sched.specs.declared.Event.{Event}
use Rattle.sd_sched.specs.declared.Event.TheVariants as event
use Rattle.sd_sched.specs.Events.{device_of, counter_of, joined}
use Rattle.sd_history.specs.World.{makes, fails, up_after, failed_after}
use Rattle.sd_world.specs.world.Registers.{device_after}
use Rattle.sd_world.specs.declared.world.device.DeviceState.{DeviceState}

-- the words of one event on the device give its state after it
pub record Changes (e : Event) (d windows : ℕ) (before after : DeviceState) : Type 0 where
  pub up : after.up ≡ map_or (up_after d e) before.up (λ told. told)
  pub failed : after.failed ≡ map_or (failed_after (thing.Device d) e) before.failed (λ told. told)
  pub ever_failed : after.ever_failed ≡ (fails (thing.Device d) e || before.ever_failed)
  pub made : after.made ≡ (makes d e || before.made)
  pub reading : after.reading ≡ map_or (if same_number (device_of e) d then counter_of e else None) before.reading (λ told. told)
  pub joined : after.joined ≡ (if same_number (joined e) d then windows else before.joined)

-- the device that the event names
pub changes_named : (e : Event) (d windows : ℕ) (s : DeviceState) → same_number (device_of e) d ≡ true → Changes e d windows s (device_after e windows s)
changes_named (event.Start r m c clock eps) d windows s named =
    record { up = rw named refl; failed = refl; ever_failed = refl; made = rw named refl; reading = rw named refl; joined = refl }
changes_named (event.Join r m c clock eps) d windows s named =
    record { up = rw named refl; failed = refl; ever_failed = refl; made = rw named refl; reading = rw named refl; joined = rw named refl }
changes_named (event.Tick r m c) d windows s named =
    record { up = refl; failed = refl; ever_failed = refl; made = refl; reading = rw named refl; joined = refl }
changes_named (event.Recv r m c n) d windows s named =
    record { up = refl; failed = refl; ever_failed = refl; made = refl; reading = rw named refl; joined = refl }
changes_named (event.Lose r n) d windows s named = cc
changes_named (event.FailDevice r m) d windows s named =
    let other : nat_eq d m ≡ true = eq-eqb d m (sym (eqb-true m d named)) in
    record { up = rw other refl; failed = rw other refl; ever_failed = rw other refl; made = refl; reading = rw named refl; joined = refl }
changes_named (event.FailLink r l) d windows s named = cc
changes_named (event.Fix r m c clock eps) d windows s named =
    record { up = refl; failed = refl; ever_failed = refl; made = refl; reading = rw named refl; joined = refl }
changes_named (event.Ask r m c) d windows s named = record { up = refl; failed = refl; ever_failed = refl; made = refl; reading = rw named refl; joined = refl }
changes_named (event.Stage r) d windows s named = cc
changes_named (event.Give r m) d windows s named = record { up = refl; failed = refl; ever_failed = refl; made = refl; reading = rw named refl; joined = refl }
changes_named (event.Commit r m c) d windows s named =
    record { up = refl; failed = refl; ever_failed = refl; made = refl; reading = rw named refl; joined = refl }
changes_named (event.Seal r m) d windows s named = record { up = refl; failed = refl; ever_failed = refl; made = refl; reading = rw named refl; joined = refl }
changes_named (event.MendDevice r m) d windows s named =
    let other : nat_eq d m ≡ true = eq-eqb d m (sym (eqb-true m d named)) in
    record { up = refl; failed = rw other refl; ever_failed = refl; made = refl; reading = rw named refl; joined = refl }
changes_named (event.MendLink r l) d windows s named = cc
changes_named (event.End r) d windows s named = cc

-- a device that it does not name
pub changes_other : (e : Event) (d windows : ℕ) (s : DeviceState) → same_number (device_of e) d ≡ false → Changes e d windows s s
changes_other (event.Start r m c clock eps) d windows s named =
    record { up = rw named refl; failed = refl; ever_failed = refl; made = rw named refl; reading = rw named refl; joined = refl }
changes_other (event.Join r m c clock eps) d windows s named =
    record { up = rw named refl; failed = refl; ever_failed = refl; made = rw named refl; reading = rw named refl; joined = rw named refl }
changes_other (event.Tick r m c) d windows s named =
    record { up = refl; failed = refl; ever_failed = refl; made = refl; reading = rw named refl; joined = refl }
changes_other (event.Recv r m c n) d windows s named =
    record { up = refl; failed = refl; ever_failed = refl; made = refl; reading = rw named refl; joined = refl }
changes_other (event.Lose r n) d windows s named = record { up = refl; failed = refl; ever_failed = refl; made = refl; reading = refl; joined = refl }
changes_other (event.FailDevice r m) d windows s named =
    let other : nat_eq d m ≡ false = ne_eqb d m (λ same. eqb-false m d named (sym same)) in
    record { up = rw other refl; failed = rw other refl; ever_failed = rw other refl; made = refl; reading = rw named refl; joined = refl }
changes_other (event.FailLink r l) d windows s named = record { up = refl; failed = refl; ever_failed = refl; made = refl; reading = refl; joined = refl }
changes_other (event.Fix r m c clock eps) d windows s named =
    record { up = refl; failed = refl; ever_failed = refl; made = refl; reading = rw named refl; joined = refl }
changes_other (event.Ask r m c) d windows s named = record { up = refl; failed = refl; ever_failed = refl; made = refl; reading = rw named refl; joined = refl }
changes_other (event.Stage r) d windows s named = record { up = refl; failed = refl; ever_failed = refl; made = refl; reading = refl; joined = refl }
changes_other (event.Give r m) d windows s named = record { up = refl; failed = refl; ever_failed = refl; made = refl; reading = rw named refl; joined = refl }
changes_other (event.Commit r m c) d windows s named =
    record { up = refl; failed = refl; ever_failed = refl; made = refl; reading = rw named refl; joined = refl }
changes_other (event.Seal r m) d windows s named = record { up = refl; failed = refl; ever_failed = refl; made = refl; reading = rw named refl; joined = refl }
changes_other (event.MendDevice r m) d windows s named =
    let other : nat_eq d m ≡ false = ne_eqb d m (λ same. eqb-false m d named (sym same)) in
    record { up = refl; failed = rw other refl; ever_failed = refl; made = refl; reading = rw named refl; joined = refl }
changes_other (event.MendLink r l) d windows s named = record { up = refl; failed = refl; ever_failed = refl; made = refl; reading = refl; joined = refl }
changes_other (event.End r) d windows s named = record { up = refl; failed = refl; ever_failed = refl; made = refl; reading = refl; joined = refl }
