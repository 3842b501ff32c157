-- The flights of accepted steps: in which order they were sent, which of them an event leaves, and what is found under a number.
use Rattle.std.specs.Prelude.{◌≡◌, ℕ, ◌+◌, Bool, true, false, not, List, [], ◌∷◌, reverse, flat_map, filter, nat_lt, Option, Result, Ok, Err, if◌then◌else◌}
use Rattle.sd_num.specs.Lists.{map_or}
use Rattle.sd_plan.specs.declared.topo.Thing.{Thing}
use Rattle.sd_device.specs.declared.msg.Flight.{Flight}
use Rattle.sd_device.specs.declared.msg.TakeFault.{TakeFault}
use Rattle.sd_device.specs.declared.msg.TakeFault.TheVariants as fault
use Rattle.sd_device.specs.msg.Books.{without, is_swept, is_current}
use Rattle.sd_sched.specs.declared.Event.{Event}
use Rattle.sd_sched.specs.Events.{reference_of, message_of}
use Rattle.sd_history.specs.Things.{failure_of}
use Rattle.sd_history.specs.Steps.{Step, flight_numbered}
use Rattle.sd_history.specs.Refusals.{is_spent}

-- all flights, in the order in which they were sent
abbrev pub sent_in_order : List Step → List Flight
sent_in_order steps = reverse (flat_map (λ s. reverse s.sent) steps)

-- their numbers go up by one, from n on
abbrev pub AreNumberedOn : ℕ → List Flight → Type 0
AreNumberedOn n [] = Unit {0}
AreNumberedOn n (f ∷ fs) = (f.number ≡ n) × AreNumberedOn (n + 1) fs

-- What an event leaves

-- those that are left where the flight of this number is taken or lost
abbrev pub without_taken : Option ℕ → List Flight → List Flight
without_taken number flights = map_or number flights (λ n. without n flights)

-- those that are left where this thing fails
abbrev pub without_swept : Option Thing → List Flight → List Flight
without_swept thing flights = map_or thing flights (λ x. filter (λ f. not (is_swept x f)) flights)

-- Those of the flights that an event leaves: they are kept at its reference, it does not receive or lose them, and fails neither their link
-- nor their receiver.
abbrev pub left_by : Event → List Flight → List Flight
left_by e flights = without_swept (failure_of e) (without_taken (message_of e) (filter (is_current (reference_of e)) flights))

-- What is found under a number

-- the flight of the steps with this number, unless it is spent at the latest reference
abbrev pub look_in : List Step → ℕ → Result Flight TakeFault
look_in steps n = map_or (flight_numbered steps n) (Err fault.Unknown) (λ f. if is_spent steps 0 f then Err fault.Spent else Ok f)

-- what was found says that no flight has the number
abbrev pub says_unknown : Result Flight TakeFault → Bool
says_unknown (Err fault.Unknown) = true
says_unknown _ = false

-- it says that the flight is spent, as an event at this reference sees it
abbrev pub says_spent : ℕ → Result Flight TakeFault → Bool
says_spent reference (Ok f) = nat_lt f.last reference
says_spent reference (Err fault.Spent) = true
says_spent reference _ = false
