-- What an event says: its reference time, and where it has them its device, counter, link and message.
use Rattle.std.specs.Prelude.{ℕ, Bool, true, false, Option, Some, None}
use Rattle.sd_sched.specs.declared.Event.{Event}
use Rattle.sd_sched.specs.declared.Event.TheVariants.{Start, Tick, Recv, Lose, FailDevice, FailLink, Fix, Ask, Stage, Give, Commit, Seal, Join, MendDevice, MendLink, End}

-- the reference time of the event
abbrev pub reference_of : Event → ℕ
reference_of (Start reference device counter clock eps) = reference
reference_of (Tick reference device counter) = reference
reference_of (Recv reference device counter message) = reference
reference_of (Lose reference message) = reference
reference_of (FailDevice reference device) = reference
reference_of (FailLink reference link) = reference
reference_of (Fix reference device counter clock eps) = reference
reference_of (Ask reference device counter) = reference
reference_of (Stage reference) = reference
reference_of (Give reference device) = reference
reference_of (Commit reference device counter) = reference
reference_of (Seal reference device) = reference
reference_of (Join reference device counter clock eps) = reference
reference_of (MendDevice reference device) = reference
reference_of (MendLink reference link) = reference
reference_of (End reference) = reference

-- the device that the event names
abbrev pub device_of : Event → Option ℕ
device_of (Start reference device counter clock eps) = Some device
device_of (Tick reference device counter) = Some device
device_of (Recv reference device counter message) = Some device
device_of (FailDevice reference device) = Some device
device_of (Fix reference device counter clock eps) = Some device
device_of (Ask reference device counter) = Some device
device_of (Give reference device) = Some device
device_of (Commit reference device counter) = Some device
device_of (Seal reference device) = Some device
device_of (Join reference device counter clock eps) = Some device
device_of (MendDevice reference device) = Some device
device_of _ = None

-- the counter that the event's device read: the event is a reading
abbrev pub counter_of : Event → Option ℕ
counter_of (Start reference device counter clock eps) = Some counter
counter_of (Tick reference device counter) = Some counter
counter_of (Recv reference device counter message) = Some counter
counter_of (Fix reference device counter clock eps) = Some counter
counter_of (Ask reference device counter) = Some counter
counter_of (Commit reference device counter) = Some counter
counter_of (Join reference device counter clock eps) = Some counter
counter_of _ = None

-- the link that the event names
abbrev pub link_of : Event → Option ℕ
link_of (FailLink reference link) = Some link
link_of (MendLink reference link) = Some link
link_of _ = None

-- the message that the event receives or loses
abbrev pub message_of : Event → Option ℕ
message_of (Recv reference device counter message) = Some message
message_of (Lose reference message) = Some message
message_of _ = None

-- the message that the event receives
abbrev pub received : Event → Option ℕ
received (Recv reference device counter message) = Some message
received _ = None

-- the device that the event starts
abbrev pub started : Event → Option ℕ
started (Start reference device counter clock eps) = Some device
started _ = None

-- the device that the event lets join
abbrev pub joined : Event → Option ℕ
joined (Join reference device counter clock eps) = Some device
joined _ = None

-- the device that the event gives its duty of the staged plan
abbrev pub given : Event → Option ℕ
given (Give reference device) = Some device
given _ = None

-- the device whose tick the event is
abbrev pub ticked : Event → Option ℕ
ticked (Tick reference device counter) = Some device
ticked _ = None

-- the event stages a plan
abbrev pub is_stage : Event → Bool
is_stage (Stage reference) = true
is_stage _ = false

-- the event commits the staged plan
abbrev pub is_commit : Event → Bool
is_commit (Commit reference device counter) = true
is_commit _ = false

-- the event seals a device
abbrev pub is_seal : Event → Bool
is_seal (Seal reference device) = true
is_seal _ = false

-- the event ends the schedule
abbrev pub is_end_event : Event → Bool
is_end_event (End reference) = true
is_end_event _ = false

-- the event asks the device
abbrev pub is_ask : Event → Bool
is_ask (Ask reference device counter) = true
is_ask _ = false
