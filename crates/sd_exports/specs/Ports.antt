-- Ports: which messages may be given to a device. A port is a test of the counter at which a message comes over a link. Of what it takes the C library tells
-- `ComesLater`, which is what the proofs on deployed fleets ask for.
use Rattle.std.specs.Prelude.{◌≡◌, ℕ, ◌+◌, ◌-◌, ◌≤◌, ◌<◌, Bool, nat_lt, IsTrue}
use Rattle.sd_num.specs.declared.Rates.{Rates}
use Rattle.sd_num.specs.Numbers.{low, keeps_rate}
use Rattle.sd_device.specs.declared.msg.Flight.{Flight}

-- a start, a join or a mend: the counter and the reference time at it, the longest time on the way, and the rates of the oscillator
pub record Opening : Type 0 where
  pub counter : ℕ
  pub reference : ℕ
  pub longest : ℕ
  pub rates : Rates

-- more than the longest time on the way has surely passed since the opening
abbrev pub is_clear : Opening → ℕ → Bool
is_clear opening counter = nat_lt opening.longest (low opening.rates (counter - opening.counter))

-- the port takes what comes once the opening is clear; the counter was lowered by this much in all
abbrev pub StandsSince : (by : ℕ) → (ℕ → Bool) → Opening → Type 0
StandsSince by takes opening = (counter : ℕ) → takes counter ≡ is_clear opening (counter + by)

-- the flight came at this reference, while the counter showed this, and the oscillator kept its rates since the opening
pub record Comes (opening : Opening) (flight : Flight) (reference counter : ℕ) : Type 0 where
  pub last : flight.last ≡ flight.sent_at + opening.longest
  pub soon : reference ≤ flight.last
  pub drift : IsTrue (keeps_rate opening.rates (counter - opening.counter) (reference - opening.reference))

-- what comes now was sent after the opening, however often the counter was lowered since
abbrev pub ComesLater : (ℕ → Bool) → (counter : ℕ) → Type 0
ComesLater takes counter =
    (by : ℕ) (opening : Opening) (flight : Flight) (reference : ℕ) → StandsSince by takes opening → Comes opening flight reference (counter + by)
    → opening.reference < flight.sent_at
