-- What is found under a number among the flights that are not spent, and which causes of a refusal it shows.
use Rattle.std.specs.Prelude.{◌≡◌, ℕ, max, Bool, true, false, ◌||◌, not, List, find, nat_eq, nat_lt, ok_or, Option, Some, None, option_and_then, Result, Ok, Err, refl, if◌then◌else◌}
use Rattle.std.proofs.Common.{arith, sym, ◌∙◌, ap, inl, inr}
use Rattle.std.proofs.lemmas.Bool.{eq-eqb, ne_eqb, lt-ltb, le-ltb, le-leb, lt-leb, cases_eq, cases_lt}
use Rattle.sd_num.specs.Lists.{map_or, same_number}
use Rattle.sd_device.specs.declared.msg.Flight.{Flight}
use Rattle.sd_device.specs.declared.msg.TakeFault.{TakeFault}
use Rattle.sd_device.specs.declared.msg.TakeFault.TheVariants as fault
use Rattle.sd_device.specs.msg.Books.{has_number, is_given, found}
use Rattle.sd_sched.specs.declared.Event.{Event}
use Rattle.sd_sched.specs.Events.{reference_of, device_of, message_of, received}
use Rattle.sd_history.specs.World.{Setting, latest_reference}
use Rattle.sd_history.specs.Steps.{Step, seen_of, flight_count, flight_numbered}
use Rattle.sd_history.specs.Refusals.{was_used, was_swept, is_spent, unknown_message, spent_message, wrong_device}
use Rattle.sd_history.specs.Open.{unspent}
use Rattle.sd_history.specs.Accepted.{AreSteps}
use Rattle.sd_history.specs.flights.Flights.{sent_in_order, look_in, says_unknown, says_spent}
use Rattle.sd_history.proofs.flights.Finds.{find_passing}
use Rattle.sd_history.proofs.flights.Numbers.{order_given, found_in_order, numbered_there, numbered_none}

-- a flight that passes the test of not being spent
abbrev if_unspent : List Step → Flight → Option Flight
if_unspent steps f = if not (is_spent steps 0 f) then Some f else None

abbrev if_there : List Step → Flight → Result Flight TakeFault
if_there steps f = if is_spent steps 0 f then Err fault.Spent else Ok f

by_spent : (f : Flight) (b : Bool) → ok_or (if not b then Some f else None) fault.Spent ≡ (if b then Err fault.Spent else Ok f)
by_spent f true = refl
by_spent f false = refl

-- what is found among the flights that are not spent
unspent_found : (setting : Setting) (steps : List Step) (n : ℕ) → AreSteps setting steps
    → find (has_number n) (unspent steps 0) ≡ option_and_then (if_unspent steps) (flight_numbered steps n)
unspent_found setting steps n is =
    find_passing 0 (flight_count steps) n (λ f. not (is_spent steps 0 f)) (sent_in_order steps) (order_given setting steps is)
    ∙ ap (option_and_then (if_unspent steps)) (found_in_order setting steps n is)

-- a look at the flights that are not spent finds the flight of the steps with the number, or says why there is none
pub look_is : (setting : Setting) (steps : List Step) (n : ℕ) → AreSteps setting steps → found (flight_count steps) (unspent steps 0) n ≡ look_in steps n
look_is setting steps n is = by (is_given (flight_count steps) n) refl
  where
    by : (b : Bool) → is_given (flight_count steps) n ≡ b
        → (if b then ok_or (find (has_number n) (unspent steps 0)) fault.Spent else Err fault.Unknown) ≡ look_in steps n
    by true given =
        let it : (f : Flight) × (flight_numbered steps n ≡ Some f) × (f.number ≡ n) = numbered_there setting steps n is given in
        ap (λ o. ok_or o fault.Spent) (unspent_found setting steps n is ∙ ap (option_and_then (if_unspent steps)) it.1)
        ∙ by_spent it.0 (is_spent steps 0 it.0)
        ∙ sym (ap (λ o. map_or o (Err fault.Unknown) (if_there steps)) it.1)
    by false other = sym (ap (λ o. map_or o (Err fault.Unknown) (if_there steps)) (numbered_none setting steps n is other))

-- the flight that is found is the one with the number
pub found_is : (setting : Setting) (steps : List Step) (n : ℕ) (f : Flight) → AreSteps setting steps → found (flight_count steps) (unspent steps 0) n ≡ Ok f
    → (flight_numbered steps n ≡ Some f) × (is_spent steps 0 f ≡ false)
found_is setting steps n f is looks = by (flight_numbered steps n) (sym (look_is setting steps n is) ∙ looks)
  where
    on : (g : Flight) (b : Bool) → is_spent steps 0 g ≡ b → ◌≡◌ {A = Result Flight TakeFault} (if b then Err fault.Spent else Ok g) (Ok f)
        → (Some g ≡ Some f) × (is_spent steps 0 f ≡ false)
    on g true spent same = cc
    on g false spent same = let equal : g ≡ f = cc in (ap (λ (x : Flight). Some x) equal, ap (is_spent steps 0) (sym equal) ∙ spent)

    by : (o : Option Flight) → map_or o (Err fault.Unknown) (if_there steps) ≡ Ok f → (o ≡ Some f) × (is_spent steps 0 f ≡ false)
    by None same = cc
    by (Some g) same = on g (is_spent steps 0 g) refl same

-- Causes

pub unknown_test : (count n : ℕ) → (nat_eq n 0 || nat_lt count n) ≡ not (is_given count n)
unknown_test count n = elim (cases_eq n 0) [
  | inl none ↦ rw (eq-eqb n 0 none, lt-leb 1 n (omega arith)) refl
  | inr some ↦ elim (cases_lt count n) [
    | inl above ↦ rw (ne_eqb n 0 some, lt-ltb count n above, le-leb 1 n (omega arith), lt-leb n count above) refl
    | inr upto ↦ rw (ne_eqb n 0 some, le-ltb count n upto, le-leb 1 n (omega arith), le-leb n count upto) refl
  ]
]

says_by : (b : Bool) (o : Option Flight) → not b ≡ says_unknown (if b then ok_or o fault.Spent else Err fault.Unknown)
says_by true None = refl
says_by true (Some f) = refl
says_by false o = refl

-- the message is unknown exactly where the look says so
pub unknown_is : (setting : Setting) (steps : List Step) (e : Event) (n : ℕ) → AreSteps setting steps → message_of e ≡ Some n
    → unknown_message steps e ≡ says_unknown (found (flight_count steps) (unspent steps 0) n)
unknown_is setting steps e n is names =
    ap (λ o. map_or o false (λ m. nat_eq m 0 || nat_lt (flight_count steps) m)) names
    ∙ unknown_test (flight_count steps) n
    ∙ says_by (is_given (flight_count steps) n) (find (has_number n) (unspent steps 0))

late_test : (last reference latest : ℕ) → nat_lt last (max reference latest) ≡ (nat_lt last (max 0 latest) || nat_lt last reference)
late_test last reference latest = elim (cases_lt last (max 0 latest)) [
  | inl past ↦ rw (lt-ltb last (max reference latest) (omega arith), lt-ltb last (max 0 latest) past) refl
  | inr before ↦ elim (cases_lt last reference) [
    | inl later ↦ rw (lt-ltb last (max reference latest) (omega arith), le-ltb last (max 0 latest) before, lt-ltb last reference later) refl
    | inr upto ↦ rw (le-ltb last (max reference latest) (omega arith), le-ltb last (max 0 latest) before, le-ltb last reference upto) refl
  ]
]

regroup : (used swept late later lost : Bool) → (used || swept || (late || later) || lost) ≡ ((used || swept || late || lost) || later)
regroup true swept late later lost = refl
regroup false true late later lost = refl
regroup false false true later lost = refl
regroup false false false true true = refl
regroup false false false true false = refl
regroup false false false false true = refl
regroup false false false false false = refl

-- a later event sees a flight as spent that was spent before, or that ended before it
pub spent_at : (steps : List Step) (reference : ℕ) (f : Flight) → is_spent steps reference f ≡ (is_spent steps 0 f || nat_lt f.last reference)
spent_at steps reference f =
    ap (λ b. was_used steps f.number || was_swept steps f || b || not f.reaches) (late_test f.last reference (latest_reference (seen_of steps)))
    ∙ regroup (was_used steps f.number) (was_swept steps f) (nat_lt f.last (max 0 (latest_reference (seen_of steps)))) (nat_lt f.last reference) (not f.reaches)

spent_by : (steps : List Step) (reference : ℕ) (o : Option Flight)
    → map_or o false (is_spent steps reference) ≡ says_spent reference (map_or o (Err fault.Unknown) (if_there steps))
spent_by steps reference None = refl
spent_by steps reference (Some f) = spent_at steps reference f ∙ go (is_spent steps 0 f)
  where
    go : (b : Bool) → (b || nat_lt f.last reference) ≡ says_spent reference (if b then Err fault.Spent else Ok f)
    go true = refl
    go false = refl

-- the message is spent exactly where the look says so, or finds a flight that ended before the event
pub spent_is : (setting : Setting) (steps : List Step) (e : Event) (n : ℕ) → AreSteps setting steps → message_of e ≡ Some n
    → spent_message steps e ≡ says_spent (reference_of e) (found (flight_count steps) (unspent steps 0) n)
spent_is setting steps e n is names =
    ap (λ o. map_or o false (λ m. map_or (flight_numbered steps m) false (is_spent steps (reference_of e)))) names
    ∙ spent_by steps (reference_of e) (flight_numbered steps n)
    ∙ sym (ap (says_spent (reference_of e)) (look_is setting steps n is))

-- the device is the wrong one exactly where it is not the receiver of the flight that the look finds
pub wrong_is : (setting : Setting) (steps : List Step) (e : Event) (n : ℕ) (f : Flight) → AreSteps setting steps → received e ≡ Some n
    → found (flight_count steps) (unspent steps 0) n ≡ Ok f
    → wrong_device steps e ≡ not (same_number (device_of e) f.receiver)
wrong_is setting steps e n f is names looks =
    ap (λ o. map_or o false (λ m. map_or (flight_numbered steps m) false (λ g. not (same_number (device_of e) g.receiver)))) names
    ∙ ap (λ o. map_or o false (λ g. not (same_number (device_of e) g.receiver))) (found_is setting steps n f is looks).0
