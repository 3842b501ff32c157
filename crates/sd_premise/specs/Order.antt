-- What an onlooker may be shown of an event, after what was shown before.
use Rattle.std.specs.Prelude.{◌≡◌, ℕ, ◌+◌, ◌*◌, ◌<◌, true, false, ◌||◌, not, List, [], ◌∷◌, length, map, All, Contains, IfSome}
use Rattle.std.specs.Option.{ForSome}
use Rattle.sd_num.specs.Lists.{ascends}
use Rattle.sd_plan.specs.topo.Network.{delay_of}
use Rattle.sd_device.specs.declared.msg.Flight.{Flight}
use Rattle.sd_sched.specs.Events.{reference_of, is_commit}
use Rattle.sd_history.specs.World.{Setting, Seen, has_commit}
use Rattle.sd_history.specs.Open.{may_be_seen}
use Rattle.sd_history.specs.Premises.{reaching_flights, was_received}
use Rattle.sd_monitors.specs.loss.rounds.Order.{last_sent}

-- a flight that is sent at the reference: it is due when the greatest delay of its direction has passed, and is purged when twice that has
pub record IsSentAt (setting : Setting) (reference : ℕ) (f : Flight) : Type 0 where
  pub sender : f.sender < length setting.net.devices
  pub receiver : f.receiver < length setting.net.devices
  pub link : f.link < length setting.net.links
  pub sent_at : f.sent_at ≡ reference
  pub due : f.due ≡ reference + (delay_of setting.net f.link f.receiver).max
  pub last : f.last ≡ reference + 2 * (delay_of setting.net f.link f.receiver).max

-- the flight was sent and not received
pub record IsOnTheWay (seen : List Seen) (f : Flight) : Type 0 where
  pub sent : Contains (reaching_flights seen) f
  pub unreceived : was_received seen f.number ≡ false

-- What is seen of an event can follow what was seen before: no cause that shows from outside refuses the event; a window closes at its
-- commit or later; the flights that are sent are numbered from above all earlier ones; and one that is received was sent, and not received
-- before.
pub record CanFollow (setting : Setting) (earlier : List Seen) (s : Seen) : Type 0 where
  pub allowed : may_be_seen setting earlier s.event ≡ true
  pub closing : (not s.closed || is_commit s.event || has_commit earlier) ≡ true
  pub activated : IfSome s.activated (λ d. d < length setting.net.devices)
  pub sent : All (IsSentAt setting (reference_of s.event)) s.sent
  pub numbers : ascends (last_sent earlier ∷ map (λ f. f.number) s.sent) ≡ true
  pub taken : ForSome s.taken (IsOnTheWay earlier)

-- each event can follow those before it
abbrev pub ComesInOrder : Setting → List Seen → Type 0
ComesInOrder setting [] = Unit {0}
ComesInOrder setting (s ∷ earlier) = ComesInOrder setting earlier × CanFollow setting earlier s
