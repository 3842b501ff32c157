-- The past of a life, and the calls that a device may be given.
use Rattle.std.specs.Prelude.{◌≡◌, ℕ, ◌≤◌, List, [], ◌∷◌, Some}
use Rattle.sd_num.specs.Lists.{map_or}
use Rattle.sd_device.specs.Calls.{Making, Started, Joined, Call, Give, Past}
use Rattle.sd_device.specs.Living.{Life}
use Rattle.sd_device.specs.Words.{after, counter_of, making_counter}

-- what each call of a life did, by the calls before it
abbrev pub past_by : Making → List Call → Past
past_by making [] = record { making = making; did = [] }
past_by making (call ∷ earlier) = after (past_by making earlier) call

-- the past that a life makes
abbrev pub past_of : Life → Past
past_of life = past_by life.making life.calls

-- the life with one call more
abbrev pub longer : Life → Call → Life
longer life call = record { making = life.making; calls = call ∷ life.calls }

-- the latest counter that the device was given
abbrev pub latest_counter : Making → List Call → ℕ
latest_counter making [] = making_counter making
latest_counter making (call ∷ earlier) = map_or (counter_of call) (latest_counter making earlier) (λ counter. counter)

-- the counters of a life never fall
abbrev pub NeverFalls : Making → List Call → Type 0
NeverFalls making [] = Unit {0}
NeverFalls making (call ∷ earlier) = NeverFalls making earlier × ((counter : ℕ) → counter_of call ≡ Some counter → latest_counter making earlier ≤ counter)

-- a duty that a life begins with, and one that it is given, is of a plan
abbrev pub BeginsOfAPlan : Making → Type 0
BeginsOfAPlan (Started duty counter clock eps) = 1 ≤ duty.epoch
BeginsOfAPlan (Joined rates counter clock eps) = Unit {0}

abbrev pub GivesOfAPlan : Call → Type 0
GivesOfAPlan (Give duty) = 1 ≤ duty.epoch
GivesOfAPlan _ = Unit {0}

-- each of them is
abbrev pub AreOfPlans : Making → List Call → Type 0
AreOfPlans making [] = BeginsOfAPlan making
AreOfPlans making (call ∷ earlier) = AreOfPlans making earlier × GivesOfAPlan call

-- a life as devices have them
pub record IsOrderly (life : Life) : Type 0 where
  pub never_falls : NeverFalls life.making life.calls
  pub of_plans : AreOfPlans life.making life.calls
