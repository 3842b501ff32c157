-- What is seen of an event, as histories know it.
use Rattle.sd_history.specs.World.{Seen}
use Rattle.sd_monitors.specs.declared.clocks.seen.Seen as code

-- the part of a history that the code's value tells
abbrev pub sight_of : code.Seen → Seen
sight_of s = record { event = s.event; taken = s.taken; sent = s.sent.now; activated = s.activated; acted = s.acted; closed = s.closed }
