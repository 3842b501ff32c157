-- The flights that a step sent, looked up by their numbers: those that reach are found.
use Rattle.std.specs.Prelude.{◌≡◌, ℕ, zero, suc, ◌+◌, ◌<◌, Bool, true, false, not, List, [], ◌∷◌, ◌++◌, length, take, filter, find, ok_or, Option, Some, None, option_and_then, option_to_list, cond, Result, Ok, Err, refl, if◌then◌else◌}
use Rattle.std.specs.Option.{option_or}
use Rattle.std.specs.Result.{result_ok}
use Rattle.std.proofs.Common.{sym, ap, ◌∙◌, subst, arith, get_or}
use Rattle.std.proofs.lemmas.Bool.{and_from, le-leb, eq-eqb, ne_eqb}
use Rattle.std.proofs.lemmas.List.Elements.{filter_more}
use Rattle.std.proofs.lemmas.List.Folds.{find-append}
use Rattle.sd_plan.specs.declared.topo.Thing.{Thing}
use Rattle.sd_device.specs.declared.msg.Flight.{Flight}
use Rattle.sd_device.specs.declared.msg.TakeFault.{TakeFault}
use Rattle.sd_device.specs.declared.msg.TakeFault.TheVariants as fault
use Rattle.sd_device.specs.msg.Books.{has_number, found, is_current, is_swept, AreNumbered}
use Rattle.sd_device.proofs.msg.Numbered.{numbered_filter}
use Rattle.sd_sched.specs.declared.Event.{Event}
use Rattle.sd_sched.specs.Events.{reference_of, message_of}
use Rattle.sd_history.specs.Things.{failure_of}
use Rattle.sd_history.specs.World.{Setting}
use Rattle.sd_history.specs.Steps.{Step, flight_count}
use Rattle.sd_history.specs.Open.{unspent}
use Rattle.sd_history.specs.Accepted.{AreSteps}
use Rattle.sd_history.specs.flights.Flights.{without_taken, without_swept, left_by, look_in, AreNumberedOn}
use Rattle.sd_history.proofs.flights.Finds.{past_all, find_passing}
use Rattle.sd_history.proofs.flights.Sending.{step_numbered, counted}
use Rattle.sd_fleet.specs.declared.Outcome.{Outcome}
use Rattle.sd_fleet.specs.Outcomes.{first_number, outcome_of}
use Rattle.sd_history.proofs.flights.Numbers.{step_given, unspent_given}
use Rattle.sd_history.proofs.flights.Looks.{look_is}
use Rattle.sd_history.proofs.flights.Leaving.{unspent_after}

-- what an event leaves of numbered flights is numbered
taken_numbered : (top : ℕ) (o : Option ℕ) (fs : List Flight) → AreNumbered 0 top fs → AreNumbered 0 top (without_taken o fs)
taken_numbered top None fs are = are
taken_numbered top (Some n) fs are = numbered_filter 0 top (λ f. not (has_number n f)) fs are

swept_numbered : (top : ℕ) (o : Option Thing) (fs : List Flight) → AreNumbered 0 top fs → AreNumbered 0 top (without_swept o fs)
swept_numbered top None fs are = are
swept_numbered top (Some x) fs are = numbered_filter 0 top (λ f. not (is_swept x f)) fs are

left_numbered : (top : ℕ) (e : Event) (fs : List Flight) → AreNumbered 0 top fs → AreNumbered 0 top (left_by e fs)
left_numbered top e fs are =
    swept_numbered top (failure_of e) (without_taken (message_of e) (filter (is_current (reference_of e)) fs))
    (taken_numbered top (message_of e) (filter (is_current (reference_of e)) fs) (numbered_filter 0 top (is_current (reference_of e)) fs are))

find_at : (n : ℕ) (fs : List Flight) (i : ℕ) (d : Flight) → AreNumberedOn n fs → i < length fs → find (has_number (n + i)) fs ≡ Some (get_or fs i d)
find_at n [] i d are within = absurd (omega arith)
find_at n (f ∷ fs) zero d are within =
    let here : f.number ≡ n + 0 = (let first = are.0 in omega (arith, first)) in
    ap (λ b. if b then Some f else find (has_number (n + 0)) fs) (eq-eqb f.number (n + 0) here)
find_at n (f ∷ fs) (suc i) d are within =
    let first = are.0 in
    let next : (n + 1) + i ≡ n + suc i = omega arith in
    ap (λ b. if b then Some f else find (has_number (n + suc i)) fs) (ne_eqb f.number (n + suc i) (λ same. omega (arith, first, same)))
    ∙ subst (λ k. find (has_number k) fs ≡ Some (get_or fs i d)) next (find_at (n + 1) fs i d are.1 (omega arith))

-- the number of the first of them
pub first_is : (setting : Setting) (s : Step) (earlier : List Step) → AreSteps setting (s ∷ earlier) → 0 < length s.sent
    → first_number s.sent ≡ flight_count earlier + 1
first_is setting s earlier is some = by s.sent (step_numbered setting s earlier is) some
  where
    by : (fs : List Flight) → AreNumberedOn (flight_count earlier + 1) fs → 0 < length fs → first_number fs ≡ flight_count earlier + 1
    by [] numbered some' = absurd (omega arith)
    by (f ∷ fs) numbered some' = numbered.0

module _ (setting : Setting) (s : Step) (earlier : List Step) (is : AreSteps setting (s ∷ earlier)) (i : ℕ) (d : Flight) (within : i < length s.sent) where
  abbrev number : ℕ
  number = flight_count earlier + 1 + i

  abbrev flight : Flight
  flight = get_or s.sent i d

  -- the look-up of the flight at a place
  pub sent_looked : look_in (s ∷ earlier) number ≡ (if flight.reaches then Ok flight else Err fault.Spent)
  sent_looked =
      let count = counted s earlier in
      sym (look_is setting (s ∷ earlier) number is)
      ∙ ap (λ b. if b then ok_or (find (has_number number) (unspent (s ∷ earlier) 0)) fault.Spent else Err fault.Unknown)
      (and_from _ _ (le-leb 1 number (omega arith)) (le-leb number (flight_count (s ∷ earlier)) (omega (arith, count))))
      ∙ ap (λ o. ok_or o fault.Spent)
      (ap (find (has_number number)) (unspent_after setting s earlier is)
      ∙ find-append (has_number number) (left_by s.seen.event (unspent earlier 0)) (filter (λ f. f.reaches) s.sent)
      ∙ ap (λ o. option_or o (find (has_number number) (filter (λ f. f.reaches) s.sent)))
      (past_all 0 (flight_count earlier) number (left_by s.seen.event (unspent earlier 0))
      (left_numbered (flight_count earlier) s.seen.event (unspent earlier 0) (unspent_given setting earlier 0 is.0)) (omega arith)).0
      ∙ find_passing (flight_count earlier) (flight_count (s ∷ earlier)) number (λ f. f.reaches) s.sent (step_given setting s earlier is)
      ∙ ap (option_and_then (λ f. if f.reaches then Some f else None))
      (find_at (flight_count earlier + 1) s.sent i d (step_numbered setting s earlier is) within))
      ∙ by flight.reaches
    where
      by : (b : Bool) → ok_or (if b then Some flight else None) fault.Spent ≡ (if b then Ok flight else Err fault.Spent)
      by true = refl
      by false = refl

-- stands where there is no flight
abbrev no_flight : Flight
no_flight =
    record {
      number = 0;
      link = 0;
      sender = 0;
      receiver = 0;
      sent_at = 0;
      due = 0;
      last = 0;
      reaches = false;
      message = record { epoch = 0; stamp = record { term = 0; round = 0 }; clock = 0; eps = 0 };
    }

-- one flight more is collected
pub one_collected : (setting : Setting) (s : Step) (earlier : List Step) (outcome : Outcome) (i : ℕ) (found : Result Flight TakeFault)
    (before after : List Flight) → AreSteps setting (s ∷ earlier) → outcome ≡ outcome_of s → i < outcome.sent
    → found ≡ look_in (s ∷ earlier) (outcome.first_sent + i) → before ≡ filter (λ f. f.reaches) (take i s.sent)
    → after ≡ before ++ option_to_list (result_ok found) → after ≡ filter (λ f. f.reaches) (take (i + 1) s.sent)
one_collected setting s earlier outcome i found before after is comes less looks first_ones more =
    let count : outcome.sent ≡ length s.sent = ap (λ (o : Outcome). o.sent) comes in
    let within : i < length s.sent = omega (arith, less, count) in
    let number : outcome.first_sent + i ≡ flight_count earlier + 1 + i =
    ap (λ n. n + i) (ap (λ (o : Outcome). o.first_sent) comes ∙ first_is setting s earlier is (omega (arith, within))) in
    more
    ∙ ap (λ xs. xs ++ option_to_list (result_ok found)) first_ones
    ∙ ap (λ (r : Result Flight TakeFault). filter (λ f. f.reaches) (take i s.sent) ++ option_to_list (result_ok r))
    (looks ∙ ap (look_in (s ∷ earlier)) number ∙ sent_looked setting s earlier is i no_flight within)
    ∙ ap (λ xs. filter (λ f. f.reaches) (take i s.sent) ++ xs) (by (get_or s.sent i no_flight).reaches (get_or s.sent i no_flight))
    ∙ sym (filter_more (λ f. f.reaches) s.sent i no_flight within)
  where
    by : (b : Bool) (f : Flight) → option_to_list (result_ok {E = TakeFault} (if b then Ok f else Err fault.Spent)) ≡ cond b (f ∷ []) []
    by true f = refl
    by false f = refl
