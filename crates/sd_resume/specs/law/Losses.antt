-- When the lost rounds of two histories correspond.
use Rattle.std.specs.Prelude.{◌≡◌, ℕ, ◌+◌, ◌≤◌, true, List}
use Rattle.std.specs.List.{list_all}
use Rattle.std.specs.Prelude.{nat_le}
use Rattle.sd_device.specs.declared.msg.Flight.{Flight}
use Rattle.sd_sched.specs.Events.{reference_of}
use Rattle.sd_history.specs.World.{Seen, latest_reference}
use Rattle.sd_history.specs.Premises.{reaching_flights, was_received, is_overdue, was_interrupted, spoils}
use Rattle.sd_history.proofs.Among.{Among}
use Rattle.sd_resume.specs.law.Shifts.{Shift, raised_flight}

-- a flight of the second, raised, is one of the first, and is lost in both or in none
pub record FlightAgrees (shift : Shift) (one other : List Seen) (f : Flight) : Type 0 where
  pub there : Among (raised_flight shift f) (reaching_flights one)
  pub number : 1 ≤ f.number
  pub overdue : is_overdue one (raised_flight shift f) ≡ is_overdue other f
  pub interrupted : was_interrupted one (raised_flight shift f) ≡ was_interrupted other f
  pub spoilt : spoils one (raised_flight shift f) ≡ spoils other f

-- no event lies after the latest
abbrev pub ArePast : List Seen → Type 0
ArePast seen = list_all (λ s. nat_le (reference_of s.event) (latest_reference seen)) seen ≡ true

-- Each flight of the second is one of the first, and is lost alike.
pub record LossesAgree (shift : Shift) (one other : List Seen) : Type 0 where
  pub flights : (f : Flight) → Among f (reaching_flights other) → FlightAgrees shift one other f
  pub received : (n : ℕ) → 1 ≤ n → was_received one (n + shift.messages) ≡ was_received other n
  pub past : ArePast one
  pub past_other : ArePast other
