-- The slots of devices and links after an event.
use Rattle.std.specs.Prelude.{◌≡◌, ℕ, ◌<◌, Bool, true, false, List, length, nat_eq, slice_index_or, slice_set, Option, Some, None, refl, if◌then◌else◌}
use Rattle.std.proofs.Common.{sym, subst}
use Rattle.std.proofs.lemmas.Bool.{eqb-true, eqb-false}
use Rattle.std.proofs.lemmas.List.{get_or-set_same, get_or-set_other, length-set}
use Rattle.sd_num.specs.Lists.{map_or, same_number}
use Rattle.sd_plan.specs.declared.topo.Thing.TheVariants as thing
use Rattle.sd_sched.specs.declared.Event.{Event}
use Rattle.sd_sched.specs.declared.Event.TheVariants as event
use Rattle.sd_sched.specs.Events.{device_of}
use Rattle.sd_history.specs.World.{failed_after}
use Rattle.sd_world.specs.world.Registers.{untouched, device_after, devices_after, links_after}
use Rattle.sd_world.specs.declared.world.device.DeviceState.{DeviceState}

pub length_devices : (e : Event) (windows : ℕ) (devices : List DeviceState) → length (devices_after e windows devices) ≡ length devices
length_devices e windows devices = go (device_of e)
  where
    go : (o : Option ℕ) → length (map_or o devices (λ d. slice_set devices d (device_after e windows (slice_index_or devices d untouched)))) ≡ length devices
    go None = refl
    go (Some d) = length-set devices d (device_after e windows (slice_index_or devices d untouched))

-- the slot of the device that the event names
pub slot_named : (e : Event) (windows : ℕ) (devices : List DeviceState) (d : ℕ) → d < length devices → same_number (device_of e) d ≡ true
    → slice_index_or (devices_after e windows devices) d untouched ≡ device_after e windows (slice_index_or devices d untouched)
slot_named e windows devices d within = go (device_of e)
  where
    go : (o : Option ℕ) → same_number o d ≡ true
        → slice_index_or (map_or o devices (λ m. slice_set devices m (device_after e windows (slice_index_or devices m untouched)))) d untouched
        ≡ device_after e windows (slice_index_or devices d untouched)
    go None named = cc
    go (Some m) named =
        let same : m ≡ d = eqb-true m d named in
        subst (λ (i : ℕ). slice_index_or (slice_set devices i (device_after e windows (slice_index_or devices i untouched))) d untouched
        ≡ device_after e windows (slice_index_or devices d untouched)) (sym same)
        (get_or-set_same devices d (device_after e windows (slice_index_or devices d untouched)) untouched within)

-- the slot of another device
pub slot_other : (e : Event) (windows : ℕ) (devices : List DeviceState) (d : ℕ) → same_number (device_of e) d ≡ false
    → slice_index_or (devices_after e windows devices) d untouched ≡ slice_index_or devices d untouched
slot_other e windows devices d = go (device_of e)
  where
    go : (o : Option ℕ) → same_number o d ≡ false
        → slice_index_or (map_or o devices (λ m. slice_set devices m (device_after e windows (slice_index_or devices m untouched)))) d untouched
        ≡ slice_index_or devices d untouched
    go None named = refl
    go (Some m) named =
        get_or-set_other devices m d (device_after e windows (slice_index_or devices m untouched)) untouched (λ same. eqb-false m d named (sym same))

pub length_links : (e : Event) (failed : List Bool) → length (links_after e failed) ≡ length failed
length_links (event.FailLink r l) failed = length-set failed l true
length_links (event.MendLink r l) failed = length-set failed l false
length_links _ failed = refl

-- a link that fails or is mended, and the others
link_fails : (failed : List Bool) (m l : ℕ) → l < length failed
    → slice_index_or (slice_set failed m true) l false ≡ map_or (failed_after (thing.Link l) (event.FailLink 0 m)) (slice_index_or failed l false)
    (λ told. told)
link_fails failed m l within = go (nat_eq l m) refl
  where
    go : (b : Bool) → nat_eq l m ≡ b
        → slice_index_or (slice_set failed m true) l false ≡ map_or (if nat_eq l m then Some true else None) (slice_index_or failed l false) (λ told. told)
    go true same =
        rw same (subst (λ (i : ℕ). slice_index_or (slice_set failed i true) l false ≡ true) (eqb-true l m same) (get_or-set_same failed l true false within))
    go false apart = rw apart (get_or-set_other failed m l true false (eqb-false l m apart))

link_mends : (failed : List Bool) (m l : ℕ) → l < length failed
    → slice_index_or (slice_set failed m false) l false ≡ map_or (failed_after (thing.Link l) (event.MendLink 0 m)) (slice_index_or failed l false)
    (λ told. told)
link_mends failed m l within = go (nat_eq l m) refl
  where
    go : (b : Bool) → nat_eq l m ≡ b
        → slice_index_or (slice_set failed m false) l false ≡ map_or (if nat_eq l m then Some false else None) (slice_index_or failed l false) (λ told. told)
    go true same =
        rw same (subst (λ (i : ℕ). slice_index_or (slice_set failed i false) l false ≡ false) (eqb-true l m same) (get_or-set_same failed l false false within))
    go false apart = rw apart (get_or-set_other failed m l false false (eqb-false l m apart))

pub slot_link : (e : Event) (failed : List Bool) (l : ℕ) → l < length failed
    → slice_index_or (links_after e failed) l false ≡ map_or (failed_after (thing.Link l) e) (slice_index_or failed l false) (λ told. told)
slot_link (event.FailLink r m) failed l within = link_fails failed m l within
slot_link (event.MendLink r m) failed l within = link_mends failed m l within
slot_link _ failed l within = refl
