-- The messages that a step has just sent are found by their numbers where they reach.
use Rattle.std.specs.Prelude.{◌≡◌, ℕ, zero, suc, ◌+◌, ◌<◌, ◌≤◌, Bool, true, false, not, List, [], ◌∷◌, length, filter, find, nat_le, ok_or, Option, Some, None, option_and_then, Ok, Err, refl, if◌then◌else◌}
use Rattle.std.specs.Option.{option_or}
use Rattle.std.proofs.Common.{arith, ap, sym, ◌∙◌, get_or}
use Rattle.std.proofs.lemmas.Bool.{le-leb, and_from}
use Rattle.std.proofs.lemmas.List.Folds.{find-append}
use Rattle.sd_plan.specs.declared.topo.Thing.{Thing}
use Rattle.sd_device.specs.declared.msg.Flight.{Flight}
use Rattle.sd_device.specs.declared.msg.TakeFault.TheVariants as fault
use Rattle.sd_device.specs.msg.Books.{has_number, is_given, is_current, is_swept, AreNumbered}
use Rattle.sd_device.proofs.msg.Numbered.{numbered_filter}
use Rattle.sd_sched.specs.declared.Event.{Event}
use Rattle.sd_sched.specs.Events.{reference_of, message_of}
use Rattle.sd_history.specs.Things.{failure_of}
use Rattle.sd_history.specs.World.{Setting}
use Rattle.sd_history.specs.Steps.{Step, flight_count}
use Rattle.sd_history.specs.Open.{unspent}
use Rattle.sd_history.specs.Accepted.{AreSteps}
use Rattle.sd_history.proofs.Among.{Among, first, later}
use Rattle.sd_history.specs.flights.Flights.{left_by, without_taken, without_swept, look_in}
use Rattle.sd_history.proofs.flights.Finds.{finds, within, past_all, find_passing}
use Rattle.sd_history.proofs.flights.Sending.{step_numbered, counted, was_sent}
use Rattle.sd_history.proofs.flights.Numbers.{step_given, unspent_given}
use Rattle.sd_history.proofs.flights.Looks.{look_is}
use Rattle.sd_history.proofs.flights.Leaving.{unspent_after}

-- what an event leaves ascends as before
swept_numbered : (x : Option Thing) (floor top : ℕ) (fs : List Flight) → AreNumbered floor top fs → AreNumbered floor top (without_swept x fs)
swept_numbered None floor top fs is = is
swept_numbered (Some x) floor top fs is = numbered_filter floor top (λ f. not (is_swept x f)) fs is

taken_numbered : (n : Option ℕ) (floor top : ℕ) (fs : List Flight) → AreNumbered floor top fs → AreNumbered floor top (without_taken n fs)
taken_numbered None floor top fs is = is
taken_numbered (Some n) floor top fs is = numbered_filter floor top (λ f. not (has_number n f)) fs is

left_numbered : (e : Event) (floor top : ℕ) (fs : List Flight) → AreNumbered floor top fs → AreNumbered floor top (left_by e fs)
left_numbered e floor top fs is =
    swept_numbered (failure_of e) floor top (without_taken (message_of e) (filter (is_current (reference_of e)) fs))
    (taken_numbered (message_of e) floor top (filter (is_current (reference_of e)) fs) (numbered_filter floor top (is_current (reference_of e)) fs is))

module _ (setting : Setting) (s : Step) (earlier : List Step) (is : AreSteps setting (s ∷ earlier)) (f : Flight) (among : Among f s.sent) where
  above : flight_count earlier < f.number
  above = let bounds = within (flight_count earlier + 1) s.sent f (step_numbered setting s earlier is) among in omega (arith, bounds.0)

  upto : f.number ≤ flight_count (s ∷ earlier)
  upto =
      let bounds = within (flight_count earlier + 1) s.sent f (step_numbered setting s earlier is) among in
      let all = counted s earlier in
      omega (arith, bounds.1, all)

  -- none of those that were on their way before has its number
  not_before : find (has_number f.number) (left_by s.seen.event (unspent earlier 0)) ≡ None
  not_before =
      (past_all 0 (flight_count earlier) f.number (left_by s.seen.event (unspent earlier 0))
      (left_numbered s.seen.event 0 (flight_count earlier) (unspent earlier 0) (unspent_given setting earlier 0 is.0)) above).0

  on_its_way : find (has_number f.number) (unspent (s ∷ earlier) 0) ≡ (if f.reaches then Some f else None)
  on_its_way =
      ap (find (has_number f.number)) (unspent_after setting s earlier is)
      ∙ find-append (has_number f.number) (left_by s.seen.event (unspent earlier 0)) (filter (λ g. g.reaches) s.sent)
      ∙ ap (λ o. option_or o (find (has_number f.number) (filter (λ g. g.reaches) s.sent))) not_before
      ∙ find_passing (flight_count earlier) (flight_count (s ∷ earlier)) f.number (λ g. g.reaches) s.sent (step_given setting s earlier is)
      ∙ ap (option_and_then (λ g. if g.reaches then Some g else None)) (finds (flight_count earlier + 1) s.sent f (step_numbered setting s earlier is) among)

  given : is_given (flight_count (s ∷ earlier)) f.number ≡ true
  given = let low = above in let high = upto in
      and_from (nat_le 1 f.number) (nat_le f.number (flight_count (s ∷ earlier))) (le-leb 1 f.number (omega (arith, low)))
      (le-leb f.number (flight_count (s ∷ earlier)) high)

  pub sent_found : look_in (s ∷ earlier) f.number ≡ (if f.reaches then Ok f else Err fault.Spent)
  sent_found =
      sym (look_is setting (s ∷ earlier) f.number is)
      ∙ ap (λ b. if b then ok_or (find (has_number f.number) (unspent (s ∷ earlier) 0)) fault.Spent else Err fault.Unknown) given
      ∙ ap (λ o. ok_or o fault.Spent) on_its_way
      ∙ by f.reaches
    where
      by : (b : Bool) → ok_or (if b then Some f else None) fault.Spent ≡ (if b then Ok f else Err fault.Spent)
      by true = refl
      by false = refl

  -- it was sent at the reference of the event
  pub sent_then : f.sent_at ≡ reference_of s.seen.event
  sent_then = ap (λ (g : Flight). g.sent_at) (was_sent setting s earlier f is among).over.is

-- the flight at a place
pub among_at : (fs : List Flight) (i : ℕ) (d : Flight) → i < length fs → Among (get_or fs i d) fs
among_at [] i d h = absurd (omega arith)
among_at (f ∷ fs) zero d h = first
among_at (f ∷ fs) (suc i) d h = later (among_at fs i d (omega arith))
