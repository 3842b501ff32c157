-- Honest clocks and oscillators: the clock that an event sets, and two readings of one counter.
use Rattle.std.specs.Prelude.{ℕ, ◌-◌, Bool, true, nat_le, Option, Some, None}
use Rattle.sd_num.specs.Lists.{map_or}
use Rattle.sd_num.specs.Numbers.{distance, keeps_rate}
use Rattle.sd_num.specs.declared.Rates.{Rates}
use Rattle.sd_sched.specs.declared.Event.{Event}
use Rattle.sd_sched.specs.declared.Event.TheVariants as event
use Rattle.sd_sched.specs.Events.{reference_of}

-- the clock that a start, a join or a fix sets, with its uncertainty
abbrev pub clock_set : Event → Option (ℕ × ℕ)
clock_set (event.Start reference device counter clock eps) = Some (clock, eps)
clock_set (event.Fix reference device counter clock eps) = Some (clock, eps)
clock_set (event.Join reference device counter clock eps) = Some (clock, eps)
clock_set _ = None

-- the clock that the event sets, if it sets one, is within its uncertainty
abbrev pub sets_true_clock : Event → Bool
sets_true_clock e = map_or (clock_set e) true (λ set. nat_le (distance set.0 (reference_of e)) set.1)

-- a reading, its reference and its counter, keeps the rates with an earlier reading
abbrev pub keeps_reading : Rates → (now before : ℕ × ℕ) → Bool
keeps_reading rates now before = keeps_rate rates (now.1 - before.1) (now.0 - before.0)
