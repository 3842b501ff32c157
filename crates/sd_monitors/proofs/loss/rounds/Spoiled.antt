-- Which rounds are spoiled after one more event.
use Rattle.std.proofs.Common.{◌≡◌, ℕ, zero, suc, ◌<◌, Bool, true, false, cond, ◌||◌, ◌&&◌, not, List, [], ◌∷◌, map, filter, Option, None, nat_lt, ◌⊎◌, inl, inr, refl, sym, ◌∙◌, ap, subst, arith}
use Rattle.std.specs.List.{Contains, list_any}
use Rattle.std.proofs.lemmas.Bool.{or_left, or_right, or_parts, or_cases, or_from, and_parts, and_from, not-true, not_from_false, ltb-true, lt-ltb, both_ways}
use Rattle.std.proofs.lemmas.List.Elements.{Contains-append_cases, Contains-append_right}
use Rattle.sd_device.specs.declared.msg.Flight.{Flight}
use Rattle.sd_num.specs.Lists.{same_number}
use Rattle.sd_sched.specs.Events.{reference_of}
use Rattle.sd_history.specs.World.{Setting, Seen}
use Rattle.sd_history.specs.Premises.{reaching_flights, is_overdue, was_received, was_interrupted, spoils, is_round}
use Rattle.sd_history.proofs.Shared.{spoiled_is_overdue, stays_spoiled}
use Rattle.sd_history.specs.Rounds.{is_spoiled}
use Rattle.sd_monitors.specs.loss.rounds.Order.{Follows, IsInOrder}
use Rattle.sd_monitors.specs.declared.loss.flights.WaitingFlight.{WaitingFlight}
use Rattle.sd_monitors.specs.loss.flights.Kept.{kept_of}
use Rattle.sd_monitors.specs.loss.flights.Interrupted.{is_interrupted}
use Rattle.sd_monitors.specs.loss.rounds.Loss.{number_taken, Waits, AreWaiting, mark_in, IsLost, HasOnlyLost}
use Rattle.sd_monitors.proofs.loss.rounds.Marks.{was_interrupted_by}
use Rattle.sd_monitors.proofs.loss.rounds.Waits.{LeavesTaken, received_now, left_parts, sent_waits}

-- A spoiled round is that of a flight that was spoiled

-- the round is that of a flight
abbrev pub is_round_of : Flight → ℕ → ℕ → Bool
is_round_of f term round = is_round f.message.stamp term round

pub record SpoiledBy (seen : List Seen) (t r : ℕ) : Type 0 where
  pub flight : Flight
  pub sent : Contains (reaching_flights seen) flight
  pub spoils_it : spoils seen flight ≡ true
  pub of_round : is_round_of flight t r ≡ true

-- the first of some flights that pass a test and are of the round
kept_flight : (p q : Flight → Bool) (fs : List Flight) → list_any q (filter p fs) ≡ true → (f : Flight) × Contains fs f × (p f ≡ true) × (q f ≡ true)
kept_flight p q [] any = cc
kept_flight p q (g ∷ gs) any = by_test (p g) refl any (kept_flight p q gs)
  where
    deeper : ((f : Flight) × Contains gs f × (p f ≡ true) × (q f ≡ true)) → (f : Flight) × Contains (g ∷ gs) f × (p f ≡ true) × (q f ≡ true)
    deeper (f, held, passes, has) = (f, (suc held.0, omega (arith, held.1), held.2), passes, has)

    by_test : (b : Bool) → p g ≡ b → list_any q (cond b (g ∷ filter p gs) (filter p gs)) ≡ true
        → (list_any q (filter p gs) ≡ true → (f : Flight) × Contains gs f × (p f ≡ true) × (q f ≡ true))
        → (f : Flight) × Contains (g ∷ gs) f × (p f ≡ true) × (q f ≡ true)
    by_test false is found rest = deeper (rest found)
    by_test true is found rest =
        elim (or_cases (q g) (list_any q (filter p gs)) found) [ inl here ↦ (g, (zero, omega arith, refl), is, here) | inr later ↦ deeper (rest later) ]

any_kept : (p q : Flight → Bool) (fs : List Flight) (f : Flight) → Contains fs f → p f ≡ true → q f ≡ true → list_any q (filter p fs) ≡ true
any_kept p q [] f (k, within, at) passes has = absurd (omega arith)
any_kept p q (g ∷ gs) f (zero, within, at) passes has =
    rw (subst (λ (h : Flight). p h ≡ true) (sym at) passes) (or_left (q g) (list_any q (filter p gs)) (subst (λ (h : Flight). q h ≡ true) (sym at) has))
any_kept p q (g ∷ gs) f (suc k, within, at) passes has = by_test (p g) (any_kept p q gs f (k, omega (arith, within), at) passes has)
  where
    by_test : (b : Bool) → list_any q (filter p gs) ≡ true → list_any q (cond b (g ∷ filter p gs) (filter p gs)) ≡ true
    by_test true rest = or_right (q g) (list_any q (filter p gs)) rest
    by_test false rest = rest

-- of the flights in place of their stamps
any_stamp : (t r : ℕ) (fs : List Flight)
    → list_any (λ other. is_round other t r) (map (λ (f : Flight). f.message.stamp) fs) ≡ list_any (λ f. is_round_of f t r) fs
any_stamp t r [] = refl
any_stamp t r (f ∷ fs) = ap (λ b. is_round_of f t r || b) (any_stamp t r fs)

pub spoiled_by : (seen : List Seen) (t r : ℕ) → is_spoiled seen t r ≡ true → SpoiledBy seen t r
spoiled_by seen t r is =
    let found = kept_flight (spoils seen) (λ f. is_round_of f t r) (reaching_flights seen) (sym (any_stamp t r (filter (spoils seen) (reaching_flights seen))) ∙ is) in
    record { flight = found.0; sent = found.1; spoils_it = found.2; of_round = found.3 }

pub is_spoiled_by : (seen : List Seen) (t r : ℕ) → SpoiledBy seen t r → is_spoiled seen t r ≡ true
is_spoiled_by seen t r by =
    any_stamp t r (filter (spoils seen) (reaching_flights seen))
    ∙ any_kept (spoils seen) (λ f. is_round_of f t r) (reaching_flights seen) by.flight by.sent by.spoils_it by.of_round

-- What was judged stays

-- the event is the first past the due of a flight, which was neither received nor interrupted
abbrev spoils_now : Seen → List Seen → Flight → Bool
spoils_now s earlier f = nat_lt f.due (reference_of s.event) && not (was_received (s ∷ earlier) f.number) && not (was_interrupted (s ∷ earlier) f)

-- a round that is spoiled stays so
pub spoiled_still : (s : Seen) (earlier : List Seen) (t r : ℕ) → is_spoiled earlier t r ≡ true → is_spoiled (s ∷ earlier) t r ≡ true
spoiled_still s earlier t r is =
    let by = spoiled_by earlier t r is in
    is_spoiled_by (s ∷ earlier) t r
    (record {
      flight = by.flight;
      sent = Contains-append_right s.sent (reaching_flights earlier) by.flight by.sent;
      spoils_it = stays_spoiled s earlier by.flight by.spoils_it;
      of_round = by.of_round;
    })

-- One more event

module _ (setting : Setting) (earlier : List Seen) (s : Seen) (order : IsInOrder setting earlier) (follows : Follows setting earlier s)
    (was left : ℕ → Option WaitingFlight) (waiting : AreWaiting earlier was)
    (received : LeavesTaken s was left) where
  -- a flight that was sent before and is not spoiled_is_overdue is spoiled where it is lost
  lost_where : (f : Flight) → Contains (reaching_flights earlier) f → is_overdue earlier f ≡ false → spoils (s ∷ earlier) f ≡ true
      → IsLost left (mark_in (s ∷ earlier)) (reference_of s.event) (kept_of f)
  lost_where f held unsettled spoilt =
      let judged : spoils_now s earlier f ≡ true = subst (λ (b : Bool). cond b (spoils earlier f) (spoils_now s earlier f) ≡ true) unsettled spoilt in
      let outer = and_parts _ _ judged in
      let inner = and_parts _ _ outer.0 in
      let receipt = or_parts _ _ (not-true (was_received (s ∷ earlier) f.number) inner.1) in
      let waited : Waits earlier f = record { sent = held; in_time = unsettled; unreceived = receipt.1 } in
      record {
        waits = received f.number ∙ ap (λ b. cond b None (was f.number)) (sym (received_now s f.number) ∙ receipt.0) ∙ waiting.all f waited;
        overdue = ltb-true f.due (reference_of s.event) inner.0;
        whole = sym (was_interrupted_by setting (s ∷ earlier) f (order, follows) (Contains-append_right s.sent (reaching_flights earlier) f held))
            ∙ not-true (was_interrupted (s ∷ earlier) f) outer.1;
      }

  -- a lost flight is spoiled with this event
  lost_spoils : (kept : WaitingFlight) → IsLost left (mark_in (s ∷ earlier)) (reference_of s.event) kept
      → (f : Flight) × (kept_of f ≡ kept) × Contains (reaching_flights earlier) f × (spoils (s ∷ earlier) f ≡ true)
  lost_spoils kept lost =
      let there = left_parts s was left received kept.number kept lost.waits in
      let known = waiting.found kept.number kept there.0 in
      let f = known.flight in
      let overdue = subst (λ (k : WaitingFlight). k.due < reference_of s.event) (sym known.same) lost.overdue in
      let not_received : was_received (s ∷ earlier) f.number ≡ false =
      or_from _ _ (received_now s f.number ∙ ap (same_number (number_taken s)) known.number ∙ there.1) known.waits.unreceived in
      let whole : was_interrupted (s ∷ earlier) f ≡ false =
      was_interrupted_by setting (s ∷ earlier) f (order, follows) (Contains-append_right s.sent (reaching_flights earlier) f known.waits.sent)
      ∙ ap (is_interrupted (mark_in (s ∷ earlier))) known.same ∙ lost.whole in
      let judged : spoils_now s earlier f ≡ true =
      and_from _ _ (and_from _ _ (lt-ltb f.due (reference_of s.event) overdue) (not_from_false _ not_received)) (not_from_false _ whole) in
      (f, known.same, known.waits.sent, subst (λ (b : Bool). cond b (spoils earlier f) (spoils_now s earlier f) ≡ true) (sym known.waits.in_time) judged)

  -- so is its round
  pub lost_round : (kept : WaitingFlight) (t r : ℕ) → IsLost left (mark_in (s ∷ earlier)) (reference_of s.event) kept → is_round kept.stamp t r ≡ true
      → is_spoiled (s ∷ earlier) t r ≡ true
  lost_round kept t r lost of_round =
      let (f, same, sent, spoilt) = lost_spoils kept lost in
      is_spoiled_by (s ∷ earlier) t r
      (record {
        flight = f;
        sent = Contains-append_right s.sent (reaching_flights earlier) f sent;
        spoils_it = spoilt;
        of_round = subst (λ (k : WaitingFlight). is_round k.stamp t r ≡ true) (sym same) of_round;
      })

  -- and no other round is spoiled with it
  pub spoiled_only : HasOnlyLost left (mark_in (s ∷ earlier)) (reference_of s.event) (is_spoiled earlier) (is_spoiled (s ∷ earlier))
  spoiled_only t r is = by_place (Contains-append_cases s.sent (reaching_flights earlier) by.flight by.sent)
    where
      by : SpoiledBy (s ∷ earlier) t r
      by = spoiled_by (s ∷ earlier) t r is

      by_settled : Contains (reaching_flights earlier) by.flight → (b : Bool) → is_overdue earlier by.flight ≡ b
          → (is_spoiled earlier t r ≡ true) ⊎ ((f : WaitingFlight) × IsLost left (mark_in (s ∷ earlier)) (reference_of s.event) f × (is_round f.stamp t r ≡ true))
      by_settled held true settled_before =
          let before : spoils earlier by.flight ≡ true =
          subst (λ (b : Bool). cond b (spoils earlier by.flight) (spoils_now s earlier by.flight) ≡ true) settled_before by.spoils_it in
          inl (is_spoiled_by earlier t r (record { flight = by.flight; sent = held; spoils_it = before; of_round = by.of_round }))
      by_settled held false unsettled = inr (kept_of by.flight, lost_where by.flight held unsettled by.spoils_it, by.of_round)

      by_place : Contains s.sent by.flight ⊎ Contains (reaching_flights earlier) by.flight
          → (is_spoiled earlier t r ≡ true) ⊎ ((f : WaitingFlight) × IsLost left (mark_in (s ∷ earlier)) (reference_of s.event) f × (is_round f.stamp t r ≡ true))
      by_place (inl held) =
          absurd (both_ways (is_overdue (s ∷ earlier) by.flight) (sent_waits setting earlier s order follows by.flight held).in_time
          (spoiled_is_overdue (s ∷ earlier) by.flight by.spoils_it))
      by_place (inr held) = by_settled held (is_overdue earlier by.flight) refl
