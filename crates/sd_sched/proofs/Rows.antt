-- Lines that were worked out by hand.
use Rattle.std.specs.Prelude.{◌≡◌, [], Ok, Err, codes, refl}
use Rattle.std.specs.Fmt.{digits}
use Rattle.sd_sched.specs.Lines.{event_of_line}
use Rattle.sd_sched.specs.Spelled.{line_of_event}
use Rattle.sd_sched.specs.declared.Event.TheVariants.{Start, Recv, FailLink, MendDevice}
use Rattle.sd_sched.specs.declared.LineFault.TheVariants.{UnknownWord, FieldCount, Number}

start_line : event_of_line (codes "start 1000000 0 0 1000000 500") ≡ Ok (Start 1000000 0 0 1000000 500)
unfolding event_of_line
start_line = refl

fail_line : event_of_line (codes "fail 112000000 link 0") ≡ Ok (FailLink 112000000 0)
unfolding event_of_line
fail_line = refl

mend_text : line_of_event (MendDevice 112000000 2) ≡ codes "mend 112000000 device 2"
unfolding line_of_event digits
mend_text = refl

past_the_limit : event_of_line (codes "ask 6000000 0 1152921504606846977") ≡ Err (Number 3)
unfolding event_of_line
past_the_limit = refl

leading_zero : event_of_line (codes "ask 6000000 0 05") ≡ Err (Number 3)
unfolding event_of_line
leading_zero = refl

no_word : event_of_line (codes "x") ≡ Err UnknownWord
unfolding event_of_line
no_word = refl

no_kind : event_of_line (codes "fail 5 thing 2") ≡ Err UnknownWord
unfolding event_of_line
no_kind = refl

too_few : event_of_line (codes "fail 5 thing") ≡ Err FieldCount
unfolding event_of_line
too_few = refl

two_spaces : event_of_line (codes "end  5") ≡ Err FieldCount
unfolding event_of_line
two_spaces = refl

empty_line : event_of_line [] ≡ Err UnknownWord
unfolding event_of_line
empty_line = refl

back_again : event_of_line (line_of_event (Recv 110700000 1 110700000 1)) ≡ Ok (Recv 110700000 1 110700000 1)
unfolding event_of_line line_of_event digits
back_again = refl
