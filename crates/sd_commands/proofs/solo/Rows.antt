-- Printed lines of one device that were worked out by hand.
use Rattle.std.specs.Prelude.{◌≡◌, ℕ, ◌^◌, List, [], ◌∷◌, ◌++◌, Some, codes, refl}
use Rattle.std.specs.Fmt.{digits}
use Rattle.sd_sched.specs.declared.Event.{Event}
use Rattle.sd_sched.specs.declared.Event.TheVariants.{Start, Fix, Ask, End}
use Rattle.sd_commands.specs.declared.solo.SoloFault.TheVariants as fault
use Rattle.sd_commands.specs.solo.Histories.{done_text, refusal, refusal_in}
use Rattle.sd_commands.specs.solo.Printed.{all_bytes}

abbrev start : Event
start = Start 1000000 0 0 1000000 500

-- what a history prints that has ended
abbrev printed_of : List Event → List ℕ
printed_of events = all_bytes events ++ done_text events

-- with one ask
abbrev asked : ℕ → ℕ → List Event
asked reference counter = End reference ∷ Ask reference 0 counter ∷ start ∷ []

after_five_microseconds : printed_of (asked 6000000 5000000) ≡ codes "report 2 0 6000000 2500\ndone 3 1\n"
unfolding digits all_bytes
after_five_microseconds = refl

at_once : printed_of (asked 1000000 0) ≡ codes "report 2 0 1000000 1500\ndone 3 1\n"
unfolding digits all_bytes
at_once = refl

after_one : printed_of (asked 6000000 1) ≡ codes "report 2 0 1000001 1501\ndone 3 1\n"
unfolding digits all_bytes
after_one = refl

at_the_step : printed_of (asked 6000000 5000) ≡ codes "report 2 0 1005000 1501\ndone 3 1\n"
unfolding digits all_bytes
at_the_step = refl

past_the_step : printed_of (asked 6000000 5001) ≡ codes "report 2 0 1005001 1502\ndone 3 1\n"
unfolding digits all_bytes
past_the_step = refl

at_the_limit : printed_of (asked (2 ^ 60) (2 ^ 60)) ≡ codes "report 2 0 1152921504607846976 230584300922870\ndone 3 1\n"
unfolding digits all_bytes
at_the_limit = refl

ended_twice : refusal (asked 6000000 5000000) (End 6000000) ≡ Some fault.AfterEnd
unfolding refusal_in
ended_twice = refl

time_falls : refusal (Start 5 0 5 0 0 ∷ []) (Fix 4 0 6 0 0) ≡ Some fault.TimeFalls
unfolding refusal_in
time_falls = refl

started_twice : refusal (Start 5 0 5 0 0 ∷ []) (Start 5 0 5 0 0) ≡ Some fault.StartedTwice
unfolding refusal_in
started_twice = refl

not_started : refusal [] (Ask 5 0 5) ≡ Some fault.NotStarted
unfolding refusal_in
not_started = refl

other_device : refusal [] (Start 5 1 5 0 0) ≡ Some fault.UnknownDevice
unfolding refusal_in
other_device = refl
