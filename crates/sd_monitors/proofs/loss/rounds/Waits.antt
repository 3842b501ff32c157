-- Which flights wait after one more event.
use Rattle.std.proofs.Common.{◌≡◌, ℕ, zero, suc, ◌+◌, ◌<◌, ◌≤◌, Bool, true, false, cond, List, [], ◌∷◌, map, Option, Some, None, option_map, nat_eq, nat_lt, ◌⊎◌, inl, inr, refl, sym, ◌∙◌, ap, subst, arith}
use Rattle.std.specs.List.{Contains}
use Rattle.std.proofs.lemmas.Bool.{or_from, or_parts, or_cases, and_parts, cases_eq, cases_lt, eq-eqb, ne_eqb, le-ltb, le-leb, lt-leb, ltb-false, leb-true, false_from_ne_true}
use Rattle.std.proofs.lemmas.Option.{same_Some, none-some}
use Rattle.std.proofs.lemmas.List.Elements.{Contains-append_cases, Contains-append_left, Contains-append_right, All-contains}
use Rattle.sd_num.specs.Lists.{map_or, same_number, ascends}
use Rattle.sd_device.specs.declared.msg.Flight.{Flight}
use Rattle.sd_sched.specs.Events.{reference_of}
use Rattle.sd_history.specs.World.{Setting, Seen, latest_reference}
use Rattle.sd_history.specs.Premises.{reaching_flights, is_overdue, was_received}
use Rattle.sd_history.proofs.Shared.{time_rises}
use Rattle.sd_monitors.specs.loss.rounds.Order.{last_sent, Follows, IsInOrder}
use Rattle.sd_monitors.specs.declared.loss.flights.WaitingFlight.{WaitingFlight}
use Rattle.sd_monitors.specs.loss.flights.Kept.{kept_of}
use Rattle.sd_monitors.specs.loss.rounds.Loss.{number_taken, Waits, IsKeptOf, AreWaiting, with_sent, if_in_time}
use Rattle.sd_monitors.proofs.loss.rounds.InOrder.{le_greatest, sent_above, not_overdue, taken_low, received_low}

-- the same flights wait
pub waiting_same : (seen : List Seen) (old new : ℕ → Option WaitingFlight) → ((n : ℕ) → new n ≡ old n) → AreWaiting seen old → AreWaiting seen new
waiting_same seen old new same h = record { found = λ n f at. h.found n f (sym (same n) ∙ at); all = λ f waits. same f.number ∙ h.all f waits }

-- Flights that are sent

-- what stands under a number was sent now, or stood there before
record IsSent (fs : List Flight) (n : ℕ) (kept : WaitingFlight) : Type 0 where
  flight : Flight
  held : Contains fs flight
  same : kept_of flight ≡ kept
  number : flight.number ≡ n

sent_or_before : (fs : List Flight) (w : ℕ → Option WaitingFlight) (n : ℕ) (kept : WaitingFlight) → with_sent fs w n ≡ Some kept
    → IsSent fs n kept ⊎ (w n ≡ Some kept)
sent_or_before [] w n kept at = inr at
sent_or_before (g ∷ gs) w n kept at = by_rest (sent_or_before gs (λ m. cond (nat_eq g.number m) (Some (kept_of g)) (w m)) n kept at)
  where
    first_one : g.number ≡ n → cond (nat_eq g.number n) (Some (kept_of g)) (w n) ≡ Some kept → IsSent (g ∷ gs) n kept
    first_one here there =
        record {
          flight = g;
          held = (zero, omega arith, refl);
          same = same_Some (kept_of g) kept (sym (rw (eq-eqb g.number n here) refl) ∙ there);
          number = here;
        }

    by_number : (g.number ≡ n) ⊎ (g.number ≡ n → ⊥) → cond (nat_eq g.number n) (Some (kept_of g)) (w n) ≡ Some kept
        → IsSent (g ∷ gs) n kept ⊎ (w n ≡ Some kept)
    by_number (inl here) there = inl (first_one here there)
    by_number (inr other) there = inr (sym (rw (ne_eqb g.number n other) refl) ∙ there)

    by_rest : IsSent gs n kept ⊎ (cond (nat_eq g.number n) (Some (kept_of g)) (w n) ≡ Some kept) → IsSent (g ∷ gs) n kept ⊎ (w n ≡ Some kept)
    by_rest (inl is) =
        inl (record { flight = is.flight; held = (suc is.held.0, omega (arith, is.held.1), is.held.2); same = is.same; number = is.number })
    by_rest (inr there) = by_number (cases_eq g.number n) there

-- a number that is not above the floor is none of theirs
below_sent : (floor : ℕ) (fs : List Flight) (w : ℕ → Option WaitingFlight) (n : ℕ) → ascends (floor ∷ map (λ (g : Flight). g.number) fs) ≡ true → n ≤ floor
    → with_sent fs w n ≡ w n
below_sent floor [] w n up low = refl
below_sent floor (g ∷ gs) w n up low =
    let above : floor + 1 ≤ g.number = leb-true (floor + 1) g.number (and_parts _ _ up).0 in
    let other : cond (nat_eq g.number n) (Some (kept_of g)) (w n) ≡ w n = rw (ne_eqb g.number n (λ e. omega (arith, above, low, e))) refl in
    below_sent g.number gs (λ m. cond (nat_eq g.number m) (Some (kept_of g)) (w m)) n ((and_parts _ _ up).1) (omega (arith, above, low)) ∙ other

-- each stands under its number
sent_stands : (floor : ℕ) (fs : List Flight) (w : ℕ → Option WaitingFlight) (f : Flight) → ascends (floor ∷ map (λ (g : Flight). g.number) fs) ≡ true → Contains fs f
    → with_sent fs w f.number ≡ Some (kept_of f)
sent_stands floor [] w f up (k, within, at) = absurd (omega arith)
sent_stands floor (g ∷ gs) w f up (zero, within, at) =
    let here : cond (nat_eq g.number f.number) (Some (kept_of g)) (w f.number) ≡ Some (kept_of f) =
    rw (eq-eqb g.number f.number (ap (λ (k : Flight). k.number) at)) (ap (λ (k : Flight). Some (kept_of k)) at) in
    below_sent g.number gs (λ m. cond (nat_eq g.number m) (Some (kept_of g)) (w m)) f.number ((and_parts _ _ up).1) (let same : g.number ≡ f.number =
    ap (λ (k : Flight). k.number) at in omega (arith, same)) ∙ here
sent_stands floor (g ∷ gs) w f up (suc k, within, at) =
    sent_stands g.number gs (λ m. cond (nat_eq g.number m) (Some (kept_of g)) (w m)) f ((and_parts _ _ up).1) (k, omega (arith, within), at)

-- Flights that were sent before

-- whether the event receives the number, in the two ways in which it is said
pub received_now : (s : Seen) (n : ℕ) → map_or s.taken false (λ f. nat_eq f.number n) ≡ same_number (number_taken s) n
received_now s n = by_flight s.taken
  where
    by_flight : (taken : Option Flight) → map_or taken false (λ f. nat_eq f.number n) ≡ same_number (option_map (λ (f : Flight). f.number) taken) n
    by_flight None = refl
    by_flight (Some f) = refl

-- the flight that the event receives leaves, if there is one
abbrev pub LeavesTaken : Seen → (ℕ → Option WaitingFlight) → (ℕ → Option WaitingFlight) → Type 0
LeavesTaken s was left = (n : ℕ) → left n ≡ cond (same_number (number_taken s) n) None (was n)

-- what is left after the receipt
pub left_parts : (s : Seen) (was left : ℕ → Option WaitingFlight) → LeavesTaken s was left → (n : ℕ) (f : WaitingFlight) → left n ≡ Some f
    → (was n ≡ Some f) × (same_number (number_taken s) n ≡ false)
left_parts s was left received n f at = by_test (same_number (number_taken s) n) refl
  where
    by_test : (b : Bool) → same_number (number_taken s) n ≡ b → (was n ≡ Some f) × (same_number (number_taken s) n ≡ false)
    by_test true is = absurd (none-some f (sym (received n ∙ ap (λ b. cond b None (was n)) is) ∙ at))
    by_test false is = (sym (received n ∙ ap (λ b. cond b None (was n)) is) ∙ at, is)

in_time_parts : (reference : ℕ) (o : Option WaitingFlight) (f : WaitingFlight) → if_in_time reference o ≡ Some f → (o ≡ Some f) × (reference ≤ f.due)
in_time_parts reference None f at = absurd (none-some f at)
in_time_parts reference (Some g) f at = by_due (cases_lt g.due reference)
  where
    by_due : (g.due < reference) ⊎ (reference ≤ g.due) → (◌≡◌ {A = Option WaitingFlight} (Some g) (Some f)) × (reference ≤ f.due)
    by_due (inl past) = absurd (none-some f (sym (rw (lt-leb reference g.due past) refl) ∙ at))
    by_due (inr late) =
        let same : ◌≡◌ {A = Option WaitingFlight} (Some g) (Some f) = sym (rw (le-leb reference g.due late) refl) ∙ at in
        (same, subst (λ (k : WaitingFlight). reference ≤ k.due) (same_Some g f same) late)

module _ (setting : Setting) (earlier : List Seen) (s : Seen) (order : IsInOrder setting earlier) (follows : Follows setting earlier s) where
  -- a flight that is sent now waits
  pub sent_waits : (f : Flight) → Contains s.sent f → Waits (s ∷ earlier) f
  sent_waits f held =
      let due : reference_of s.event ≤ f.due = All-contains (λ (g : Flight). reference_of s.event ≤ g.due) s.sent f follows.due held in
      let above : last_sent earlier < f.number = sent_above (last_sent earlier) s.sent f follows.numbers held in
      let rises : latest_reference earlier ≤ reference_of s.event = time_rises setting earlier s.event follows.allowed in
      record {
        sent = Contains-append_left s.sent (reaching_flights earlier) f held;
        in_time = or_from (nat_lt f.due (reference_of s.event)) (is_overdue earlier f) (le-ltb f.due (reference_of s.event) due)
            (not_overdue setting earlier f order (omega (arith, due, rises)));
        unreceived =
            false_from_ne_true (was_received (s ∷ earlier) f.number) (λ was. let low : f.number ≤ last_sent earlier =
            by_receipt (received_before f.number was) in omega (arith, above, low));
      }
    where
      received_before : (n : ℕ) → was_received (s ∷ earlier) n ≡ true
          → (map_or s.taken false (λ g. nat_eq g.number n) ≡ true) ⊎ (was_received earlier n ≡ true)
      received_before n was = or_cases _ _ was

      by_receipt : (map_or s.taken false (λ g. nat_eq g.number f.number) ≡ true) ⊎ (was_received earlier f.number ≡ true) → f.number ≤ last_sent earlier
      by_receipt (inl here) = taken_low s.taken f.number (last_sent earlier) follows.taken here
      by_receipt (inr before) = received_low setting earlier f.number order before

  -- a flight that waited goes on waiting, where it is neither received nor overdue
  waits_on : (f : Flight) → Waits earlier f → same_number (number_taken s) f.number ≡ false → reference_of s.event ≤ f.due → Waits (s ∷ earlier) f
  waits_on f waited other late =
      record {
        sent = Contains-append_right s.sent (reaching_flights earlier) f waited.sent;
        in_time = or_from (nat_lt f.due (reference_of s.event)) (is_overdue earlier f) (le-ltb f.due (reference_of s.event) late) waited.in_time;
        unreceived =
            or_from (map_or s.taken false (λ g. nat_eq g.number f.number)) (was_received earlier f.number) (received_now s f.number ∙ other) waited.unreceived;
      }

  -- and one that waits now, and was sent before, waited
  waited_before : (f : Flight) → Waits (s ∷ earlier) f → Contains (reaching_flights earlier) f
      → Waits earlier f × (same_number (number_taken s) f.number ≡ false) × (reference_of s.event ≤ f.due)
  waited_before f waits held =
      let time = or_parts (nat_lt f.due (reference_of s.event)) (is_overdue earlier f) waits.in_time in
      let receipt = or_parts (map_or s.taken false (λ g. nat_eq g.number f.number)) (was_received earlier f.number) waits.unreceived in (
        record { sent = held; in_time = time.1; unreceived = receipt.1 },
        sym (received_now s f.number)
            ∙ receipt.0,
        ltb-false f.due (reference_of s.event) time.0,
      )

  module _ (was left now : ℕ → Option WaitingFlight) (waiting : AreWaiting earlier was)
      (received : LeavesTaken s was left)
      (sent : (n : ℕ) → now n ≡ with_sent s.sent (λ m. if_in_time (reference_of s.event) (left m)) n) where
    pub waits_next : AreWaiting (s ∷ earlier) now
    waits_next = record { found = found; all = all }
      where
        before : (n : ℕ) (kept : WaitingFlight) → if_in_time (reference_of s.event) (left n) ≡ Some kept → IsKeptOf (s ∷ earlier) n kept
        before n kept at =
            let time = in_time_parts (reference_of s.event) (left n) kept at in
            let there = left_parts s was left received n kept time.0 in
            let known = waiting.found n kept there.0 in
            let late = subst (λ (k : WaitingFlight). reference_of s.event ≤ k.due) (sym known.same) time.1 in
            record {
              flight = known.flight;
              same = known.same;
              number = known.number;
              waits = waits_on known.flight known.waits (ap (same_number (number_taken s)) known.number ∙ there.1) late;
            }

        by_sending : (n : ℕ) (kept : WaitingFlight) → IsSent s.sent n kept ⊎ (if_in_time (reference_of s.event) (left n) ≡ Some kept)
            → IsKeptOf (s ∷ earlier) n kept
        by_sending n kept (inl is) = record { flight = is.flight; same = is.same; number = is.number; waits = sent_waits is.flight is.held }
        by_sending n kept (inr at) = before n kept at

        found : (n : ℕ) (kept : WaitingFlight) → now n ≡ Some kept → IsKeptOf (s ∷ earlier) n kept
        found n kept at = by_sending n kept (sent_or_before s.sent (λ m. if_in_time (reference_of s.event) (left m)) n kept (sym (sent n) ∙ at))

        on_time : (f : Flight) → Waits earlier f × (same_number (number_taken s) f.number ≡ false) × (reference_of s.event ≤ f.due)
            → if_in_time (reference_of s.event) (left f.number) ≡ Some (kept_of f)
        on_time f (waited, other, late) =
            let there : left f.number ≡ Some (kept_of f) = received f.number ∙ ap (λ b. cond b None (was f.number)) other ∙ waiting.all f waited in
            ap (if_in_time (reference_of s.event)) there ∙ rw (le-leb (reference_of s.event) f.due late) refl

        by_place : (f : Flight) → Waits (s ∷ earlier) f → Contains s.sent f ⊎ Contains (reaching_flights earlier) f → now f.number ≡ Some (kept_of f)
        by_place f waits (inl held) =
            sent f.number ∙ sent_stands (last_sent earlier) s.sent (λ m. if_in_time (reference_of s.event) (left m)) f follows.numbers held
        by_place f waits (inr held) =
            sent f.number
            ∙ below_sent (last_sent earlier) s.sent (λ m. if_in_time (reference_of s.event) (left m)) f.number follows.numbers
            (le_greatest (reaching_flights earlier) f held)
            ∙ on_time f (waited_before f waits held)

        all : (f : Flight) → Waits (s ∷ earlier) f → now f.number ≡ Some (kept_of f)
        all f waits = by_place f waits (Contains-append_cases s.sent (reaching_flights earlier) f waits.sent)
