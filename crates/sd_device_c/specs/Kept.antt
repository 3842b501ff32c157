-- What a device keeps while its process does not run, as bytes of a fixed order.
use Rattle.std.specs.Prelude.{◌≡◌, ◌≢◌, ℕ, zero, suc, ◌+◌, ◌*◌, ◌/◌, ◌%◌, ◌<◌, ◌⊎◌, IsTrue, List, [], ◌∷◌, ◌++◌, length, codes}
use Rattle.std.specs.List.{flat_map}
use Rattle.sd_device_c.specs.declared.plain.PlainWide.{PlainWide}
use Rattle.sd_device_c.specs.declared.plain.PlainRates.{PlainRates}
use Rattle.sd_device_c.specs.declared.plain.PlainEdge.{PlainEdge}
use Rattle.sd_device_c.specs.declared.plain.PlainDuty.{PlainDuty}
use Rattle.sd_device_c.specs.declared.plain.PlainStamp.{PlainStamp}
use Rattle.sd_device_c.specs.declared.plain.PlainEstimate.{PlainEstimate}
use Rattle.sd_device_c.specs.declared.plain.PlainDevice.{PlainDevice}
use Rattle.sd_device_c.specs.declared.plain.PlainPort.{PlainPort}
use Rattle.sd_device_c.specs.declared.faults.Fault.{Fault}
use Rattle.sd_device_c.specs.declared.faults.Fault.TheVariants.{NoDevice, WrongSize, NotKept, TooLate}
use Rattle.sd_device_c.specs.Plain.{rates_from}
use Rattle.sd_device_c.specs.Pauses.{advance, is_in_time}
use Rattle.sd_device_c.specs.Answers.{IsDevice}
use Rattle.sd_device_c.specs.Crc.{crc_of}

-- a number in this many bytes, the least first; the last one takes all that is left
unfoldable pub little : (size : ℕ) → ℕ → List ℕ
little zero n = []
little (suc zero) n = n ∷ []
little (suc (suc k)) n = n % 256 ∷ little (suc k) (n / 256)

unfoldable pub wide_bytes : PlainWide → List ℕ
wide_bytes wide = little 8 wide.low ++ little 8 wide.high

unfoldable pub rates_bytes : PlainRates → List ℕ
rates_bytes rates = little 8 rates.grain ++ little 4 rates.ppm

unfoldable pub edge_bytes : PlainEdge → List ℕ
edge_bytes edge = little 8 edge.mid ++ little 8 edge.half ++ little 4 edge.parent ++ little 4 edge.link

unfoldable pub duty_bytes : PlainDuty → List ℕ
duty_bytes duty =
    edge_bytes duty.primary
    ++ edge_bytes duty.backup
    ++ little 8 duty.period
    ++ little 8 duty.wait_first
    ++ little 8 duty.wait_second
    ++ little 8 duty.wait
    ++ rates_bytes duty.rates
    ++ little 4 duty.epoch
    ++ little 1 duty.role
    ++ little 1 duty.has_primary
    ++ little 1 duty.has_backup

unfoldable pub estimate_bytes : PlainEstimate → List ℕ
estimate_bytes estimate = wide_bytes estimate.clock ++ wide_bytes estimate.base ++ little 8 estimate.at

unfoldable pub stamp_bytes : PlainStamp → List ℕ
stamp_bytes stamp = little 8 stamp.round ++ little 4 stamp.term

unfoldable pub device_bytes : PlainDevice → List ℕ
device_bytes device =
    duty_bytes device.duty
    ++ duty_bytes device.given
    ++ estimate_bytes device.estimate
    ++ stamp_bytes device.stamp
    ++ rates_bytes device.rates
    ++ little 8 device.last
    ++ little 8 device.sent
    ++ little 1 device.has_duty
    ++ little 1 device.has_given
    ++ little 1 device.mode
    ++ little 1 device.sealed

unfoldable pub port_bytes : PlainPort → List ℕ
port_bytes port = wide_bytes port.clear ++ little 1 port.is_open

-- the letters of sundial, and the version
abbrev pub title : List ℕ
title = codes "sundial" ++ 1 ∷ []

-- the title, and the number of the ports
unfoldable pub header_bytes : (ports : ℕ) → List ℕ
header_bytes ports = title ++ little 8 ports

-- the device, by how much its counter is lower than that of the hardware, and what the hardware showed at its latest tick
unfoldable pub state_bytes : PlainDevice → (lowered ticked : ℕ) → List ℕ
state_bytes device lowered ticked = device_bytes device ++ little 8 lowered ++ little 8 ticked

-- all that the checksum is of
unfoldable pub body_bytes : PlainDevice → List PlainPort → (lowered ticked : ℕ) → List ℕ
body_bytes device ports lowered ticked =
    header_bytes (length ports) ++ (state_bytes device lowered ticked ++ flat_map port_bytes ports)

-- the bytes, and their checksum
unfoldable pub checked : List ℕ → List ℕ
checked body = body ++ little 4 (crc_of body)

-- what is kept
unfoldable pub kept_bytes : PlainDevice → List PlainPort → (lowered ticked : ℕ) → List ℕ
kept_bytes device ports lowered ticked = checked (body_bytes device ports lowered ticked)

-- how many bytes that is
abbrev pub kept_size : (ports : ℕ) → ℕ
kept_size ports = 318 + 17 * ports

-- the bytes are those that are kept of this device, these ports and these two counters
pub record Says (kept : List ℕ) (device : PlainDevice) (ports : List PlainPort) (lowered ticked : ℕ) : Type 0 where
  pub bytes : kept ≡ kept_bytes device ports lowered ticked
  pub sound : IsDevice device

-- the bytes say some device with this many ports
abbrev pub AreKept : (ports : ℕ) → List ℕ → Type 0
AreKept count kept =
    (device : PlainDevice) × (ports : List PlainPort) × (lowered : ℕ) × (ticked : ℕ)
    × (length ports ≡ count) × Says kept device ports lowered ticked

-- and no more than a tick has passed since its latest one, for sure
abbrev pub AreInTime : (tick hardware ports : ℕ) → List ℕ → Type 0
AreInTime tick hardware count kept =
    (device : PlainDevice) × (ports : List PlainPort) × (lowered : ℕ) × (ticked : ℕ)
    × (length ports ≡ count) × Says kept device ports lowered ticked
    × IsTrue (is_in_time (rates_from device.rates) tick (advance ticked hardware))

-- they say nothing else
abbrev pub SaysOnly : List ℕ → PlainDevice → List PlainPort → (lowered ticked : ℕ) → Type 0
SaysOnly kept device ports lowered ticked =
    (d : PlainDevice) (ps : List PlainPort) (l t : ℕ) → kept ≡ kept_bytes d ps l t
    → (d ≡ device) × (ps ≡ ports) × (l ≡ lowered) × (t ≡ ticked)

-- the bytes are those of these two counters, of this device and of this many ports
pub record IsRead (count : ℕ) (kept : List ℕ) (device : PlainDevice) (lowered ticked : ℕ) (ports : List ℕ) : Type 0 where
  pub bytes : kept ≡ checked (header_bytes count ++ (state_bytes device lowered ticked ++ ports))
  pub size : length ports ≡ 17 * count
  pub sound : IsDevice device

-- one byte is another, as where some of its bits are turned over
pub record IsSpoiled (old new : List ℕ) : Type 0 where
  pub before : List ℕ
  pub after : List ℕ
  pub old_byte : ℕ
  pub new_byte : ℕ
  pub old_is : old ≡ before ++ old_byte ∷ after
  pub new_is : new ≡ before ++ new_byte ∷ after
  pub differs : new_byte ≢ old_byte
  pub is_byte : new_byte < 256

-- what is spoiled in one byte says no device any more
abbrev pub ShowsSpoiling : (ports : ℕ) → List ℕ → Type 0
ShowsSpoiling count kept = (spoiled : List ℕ) → IsSpoiled kept spoiled → AreKept count spoiled → ⊥

-- it may be kept in this many bytes
abbrev pub MayKeep : PlainDevice → (ports size : ℕ) → Type 0
MayKeep device ports size = IsDevice device × (size ≡ kept_size ports)

-- the fault is one of keeping it so
abbrev pub HasKeepFault : PlainDevice → (ports size : ℕ) → Fault → Type 0
HasKeepFault device ports size fault =
    ((fault ≡ NoDevice) × (IsDevice device → ⊥)) ⊎ ((fault ≡ WrongSize) × (size ≢ kept_size ports))

-- the fault says that the bytes say no device with this many ports
abbrev pub IsNotKept : (ports : ℕ) → List ℕ → Fault → Type 0
IsNotKept count kept fault = (fault ≡ NotKept) × (AreKept count kept → ⊥)

-- the fault says that, or that the pause may have been too long
abbrev pub HasRestoreFault : (tick hardware ports : ℕ) → List ℕ → Fault → Type 0
HasRestoreFault tick hardware count kept fault =
    IsNotKept count kept fault ⊎ ((fault ≡ TooLate) × AreKept count kept × (AreInTime tick hardware count kept → ⊥))
