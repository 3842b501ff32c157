-- What the calls of a book give at an accepted event, in their order: what ended is left out, the flight of the event is taken or lost, what is
-- sent is added one by one, and what a failure cuts off is swept. And what is found under the event's number after the first of them.
use Rattle.std.specs.Prelude.{◌≡◌, ℕ, Bool, true, false, ◌||◌, not, List, [], ◌∷◌, ◌++◌, cond, find, filter, nat_eq, nat_lt, ok_or, Option, Some, None, option_and_then, Result, Ok, Err, refl, if◌then◌else◌}
use Rattle.std.proofs.Common.{sym, ◌∙◌, ap, append_assoc}
use Rattle.std.proofs.lemmas.Bool.{eqb-true, le-leb, ltb-false, or_parts, not-false}
use Rattle.std.proofs.lemmas.List.{append-nil}
use Rattle.std.proofs.lemmas.List.Elements.{filter-append}
use Rattle.sd_num.specs.Lists.{map_or, same_number}
use Rattle.sd_plan.specs.declared.topo.Thing.{Thing}
use Rattle.sd_device.specs.declared.msg.Flight.{Flight}
use Rattle.sd_device.specs.declared.msg.TakeFault.{TakeFault}
use Rattle.sd_device.specs.declared.msg.TakeFault.TheVariants as fault
use Rattle.sd_device.specs.msg.Books.{has_number, is_given, found, with_sent, is_current, AreNumbered}
use Rattle.sd_sched.specs.declared.Event.{Event}
use Rattle.sd_sched.specs.declared.Event.TheVariants as event
use Rattle.sd_sched.specs.Events.{reference_of, device_of, message_of, received}
use Rattle.sd_history.specs.Things.{failure_of}
use Rattle.sd_history.specs.World.{Setting}
use Rattle.sd_history.specs.Steps.{Passes, Told, Step, flight_count, flight_numbered, flights_of, act_by}
use Rattle.sd_history.specs.Refusals.{refusal, is_spent, unknown_message, spent_message}
use Rattle.sd_history.specs.Open.{unspent}
use Rattle.sd_history.specs.Accepted.{AreSteps}
use Rattle.sd_history.proofs.Clear.{accepted_is_clear}
use Rattle.sd_history.specs.flights.Flights.{without_taken, without_swept}
use Rattle.sd_history.proofs.flights.Finds.{find_passing}
use Rattle.sd_history.proofs.flights.Sending.{sent_is}
use Rattle.sd_history.proofs.flights.Numbers.{unspent_given, numbered_there}
use Rattle.sd_history.proofs.flights.Looks.{look_is, spent_at, unknown_test}
use Rattle.sd_history.proofs.flights.Leaving.{unspent_after}

-- Finding after the first call

-- what is found is found among those that pass a test too, where it passes
pub found_kept : (last n : ℕ) (test : Flight → Bool) (fs : List Flight) (f : Flight) → AreNumbered 0 last fs → found last fs n ≡ Ok f → test f ≡ true
    → found last (filter test fs) n ≡ Ok f
found_kept last n test fs f numbered is passes =
    ap (λ o. if is_given last n then ok_or o fault.Spent else Err fault.Unknown) (find_passing 0 last n test fs numbered)
    ∙ go (is_given last n) (find (has_number n) fs) is
  where
    go : (b : Bool) (o : Option Flight) → ◌≡◌ {A = Result Flight TakeFault} (if b then ok_or o fault.Spent else Err fault.Unknown) (Ok f)
        → ◌≡◌ {A = Result Flight TakeFault} (if b then ok_or (option_and_then (λ g. if test g then Some g else None) o) fault.Spent else Err fault.Unknown)
        (Ok f)
    go true None same = cc
    go true (Some g) same = let equal : g ≡ f = cc in ap (λ t. ok_or (if t then Some g else None) fault.Spent) (ap test equal ∙ passes) ∙ same
    go false o same = cc

-- what an accepted event finds under the number that it names
pub record Takes (steps : List Step) (e : Event) (n : ℕ) : Type 0 where
  pub flight : Flight
  pub numbered : flight_numbered steps n ≡ Some flight
  pub looks : found (flight_count steps) (unspent steps 0) n ≡ Ok flight
  pub current : is_current (reference_of e) flight ≡ true
  pub stays : found (flight_count steps) (filter (is_current (reference_of e)) (unspent steps 0)) n ≡ Ok flight
  pub receiver : received e ≡ Some n → device_of e ≡ Some flight.receiver

known_message : (setting : Setting) (steps : List Step) (e : Event) (n : ℕ) → refusal setting steps e ≡ None → message_of e ≡ Some n
    → is_given (flight_count steps) n ≡ true
known_message setting steps e n none names =
    let known : unknown_message steps e ≡ false = (accepted_is_clear setting steps e none).message_known in
    not-false (is_given (flight_count steps) n)
    (sym (unknown_test (flight_count steps) n) ∙ sym (ap (λ o. map_or o false (λ m. nat_eq m 0 || nat_lt (flight_count steps) m)) names) ∙ known)

module _ (setting : Setting) (steps : List Step) (e : Event) (n : ℕ) (is : AreSteps setting steps) (none : refusal setting steps e ≡ None)
    (names : message_of e ≡ Some n) where
  takes_flight : (f : Flight) → flight_numbered steps n ≡ Some f → Takes steps e n
  takes_flight f there =
      let fresh : spent_message steps e ≡ false = (accepted_is_clear setting steps e none).message_open in
      let unspent_ : is_spent steps (reference_of e) f ≡ false =
      sym (ap (λ o. map_or o false (is_spent steps (reference_of e))) there)
      ∙ sym (ap (λ o. map_or o false (λ m. map_or (flight_numbered steps m) false (is_spent steps (reference_of e)))) names) ∙ fresh in
      let parts : (is_spent steps 0 f ≡ false) × (nat_lt f.last (reference_of e) ≡ false) =
      or_parts (is_spent steps 0 f) (nat_lt f.last (reference_of e)) (sym (spent_at steps (reference_of e) f) ∙ unspent_) in
      let current : is_current (reference_of e) f ≡ true = le-leb (reference_of e) f.last (ltb-false f.last (reference_of e) parts.1) in
      let looks : found (flight_count steps) (unspent steps 0) n ≡ Ok f =
      look_is setting steps n is
      ∙ ap (λ o. map_or o (Err fault.Unknown) (λ g. if is_spent steps 0 g then Err fault.Spent else Ok g)) there
      ∙ ap (λ b. if b then Err fault.Spent else Ok f) parts.0 in
      record {
        flight = f;
        numbered = there;
        looks = looks;
        current = current;
        stays = found_kept (flight_count steps) n (is_current (reference_of e)) (unspent steps 0) f (unspent_given setting steps 0 is) looks current;
        receiver = λ receives. receiver_by (device_of e)
            (sym (ap (λ o. map_or o false (λ g. not (same_number (device_of e) g.receiver))) there)
            ∙ sym (ap (λ o. map_or o false (λ m. map_or (flight_numbered steps m) false (λ g. not (same_number (device_of e) g.receiver)))) receives)
            ∙ (accepted_is_clear setting steps e none).right_device);
      }
    where
      receiver_by : (o : Option ℕ) → not (same_number o f.receiver) ≡ false → o ≡ Some f.receiver
      receiver_by None right = cc
      receiver_by (Some d) right = ap (λ (x : ℕ). Some x) (eqb-true d f.receiver (not-false (nat_eq d f.receiver) right))

  pub takes : Takes steps e n
  takes =
      let it : (f : Flight) × (flight_numbered steps n ≡ Some f) × (f.number ≡ n) =
      numbered_there setting steps n is (known_message setting steps e n none names) in
      takes_flight it.0 it.1

-- Sending one by one

pub sent_more : (fs gs : List Flight) (f : Flight) → with_sent (fs ++ filter (λ g. g.reaches) gs) f ≡ fs ++ filter (λ g. g.reaches) (gs ++ f ∷ [])
sent_more fs gs f = go f.reaches ∙ sym (ap (λ hs. fs ++ hs) (filter-append (λ (g : Flight). g.reaches) gs (f ∷ [])))
  where
    go : (b : Bool)
        → (if b then (fs ++ filter (λ g. g.reaches) gs) ++ f ∷ [] else fs ++ filter (λ g. g.reaches) gs) ≡ fs
        ++ (filter (λ g. g.reaches) gs ++ cond b (f ∷ []) [])
    go true = append_assoc fs (filter (λ g. g.reaches) gs) (f ∷ [])
    go false = ap (λ hs. fs ++ hs) (sym (append-nil (filter (λ g. g.reaches) gs)))

-- Sweeping last

-- an event that fails a thing leaves all devices alone
pub failing_passes : (setting : Setting) (steps : List Step) (e : Event) (x : Thing) → failure_of e ≡ Some x → act_by setting steps e ≡ Passes
failing_passes setting steps (event.FailDevice r d) x fails_ = refl
failing_passes setting steps (event.FailLink r l) x fails_ = refl
failing_passes setting steps _ x fails_ = cc

-- so it sends nothing
pub failing_sends_none : (setting : Setting) (steps : List Step) (e : Event) (told : Told) (x : Thing) → failure_of e ≡ Some x
    → flights_of setting steps (reference_of e) (act_by setting steps e) told ≡ []
failing_sends_none setting steps e told x fails_ = ap (λ act. flights_of setting steps (reference_of e) act told) (failing_passes setting steps e x fails_)

-- and what is sent is not swept
pub swept_after : (x : Option Thing) (fs sent : List Flight) → ((y : Thing) → x ≡ Some y → sent ≡ [])
    → without_swept x (fs ++ sent) ≡ without_swept x fs ++ sent
swept_after None fs sent quiet = refl
swept_after (Some y) fs sent quiet =
    let none : sent ≡ [] = quiet y refl in
    ap (λ gs. without_swept (Some y) (fs ++ gs)) none ∙ ap (without_swept (Some y)) (append-nil fs) ∙ sym (append-nil (without_swept (Some y) fs))
    ∙ ap (λ gs. without_swept (Some y) fs ++ gs) (sym none)

-- what the calls make of the flights that are not spent, where they are made in this order: leave out what ended, take or lose, send, sweep
pub booked : (setting : Setting) (s : Step) (earlier : List Step) → AreSteps setting (s ∷ earlier)
    → without_swept (failure_of s.seen.event) (without_taken (message_of s.seen.event) (filter (is_current (reference_of s.seen.event)) (unspent earlier 0))
    ++ filter (λ f. f.reaches) s.sent)
    ≡ unspent (s ∷ earlier) 0
booked setting s earlier is =
    swept_after (failure_of s.seen.event) (without_taken (message_of s.seen.event) (filter (is_current (reference_of s.seen.event)) (unspent earlier 0)))
    (filter (λ f. f.reaches) s.sent)
    (λ x fails_. ap (filter (λ f. f.reaches)) (sent_is setting s earlier is ∙ failing_sends_none setting earlier s.seen.event s.told x fails_))
    ∙ sym (unspent_after setting s earlier is)
