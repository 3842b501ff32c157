-- What a step leaves of the flights that are not spent: those that its event leaves, and then what it sends and what reaches.
use Rattle.std.specs.Prelude.{◌≡◌, ℕ, ◌+◌, ◌<◌, ◌≤◌, max, Bool, true, false, ◌&&◌, ◌||◌, not, List, [], ◌∷◌, ◌++◌, filter, nat_eq, nat_le, nat_lt, Option, Some, None, refl, if◌then◌else◌}
use Rattle.std.specs.List.{list_any}
use Rattle.std.proofs.Common.{arith, sym, ◌∙◌, ap, inl, inr}
use Rattle.std.proofs.lemmas.Bool.{ne_eqb, lt-ltb, le-ltb, le-leb, lt-leb, cases_lt, or_parts, ltb-false, ltb-true}
use Rattle.std.proofs.lemmas.List.Elements.{filter-append}
use Rattle.sd_num.specs.Lists.{map_or, same_number}
use Rattle.sd_plan.specs.declared.topo.Thing.{Thing}
use Rattle.sd_plan.specs.declared.topo.Thing.TheVariants as thing
use Rattle.sd_device.specs.declared.msg.Flight.{Flight}
use Rattle.sd_device.specs.msg.Books.{has_number, is_current}
use Rattle.sd_device.proofs.msg.Finding.{beyond}
use Rattle.sd_sched.specs.declared.Event.{Event}
use Rattle.sd_sched.specs.Events.{reference_of, message_of}
use Rattle.sd_num.proofs.Shared.{equal_swap}
use Rattle.sd_history.specs.Things.{failure_of}
use Rattle.sd_history.specs.World.{Setting, is_thing, fails, latest_reference}
use Rattle.sd_history.specs.Steps.{Step, seen_of, flight_count}
use Rattle.sd_history.specs.Refusals.{refusal, since_sending, was_used, was_swept, is_spent}
use Rattle.sd_history.specs.Open.{unspent}
use Rattle.sd_history.specs.Accepted.{AreSteps}
use Rattle.sd_history.proofs.Among.{Among}
use Rattle.sd_history.proofs.Filters.{kept_alike, both_tests, all_pass_kept}
use Rattle.sd_history.proofs.Contained.{time_goes_on}
use Rattle.sd_history.proofs.Clear.{accepted_is_clear}
use Rattle.sd_history.specs.flights.Flights.{sent_in_order, without_taken, without_swept, left_by}
use Rattle.sd_history.proofs.flights.Finds.{within, finds, none_has, some_has}
use Rattle.sd_history.proofs.flights.Sending.{step_numbered, counted, ends_later}
use Rattle.sd_history.proofs.flights.Numbers.{one_more_step, length_in_order, numbered_in_order, step_given}

-- Each event leaves those that pass three tests.

-- the event fails the link or the receiver of the flight
abbrev sweeps : Event → Flight → Bool
sweeps e f = fails (thing.Link f.link) e || fails (thing.Device f.receiver) e

-- the event receives or loses it
abbrev uses : Event → Flight → Bool
uses e f = same_number (message_of e) f.number

taken_out : (number : Option ℕ) (fs : List Flight) → without_taken number fs ≡ filter (λ f. not (same_number number f.number)) fs
taken_out None fs = all_pass_kept fs
taken_out (Some n) fs = kept_alike (λ f. not (has_number n f)) (λ f. not (nat_eq n f.number)) fs (λ f a. ap not (equal_swap f.number n))

or_none : (b : Bool) → b ≡ (b || false)
or_none true = refl
or_none false = refl

swept_out : (x : Option Thing) (fs : List Flight)
    → without_swept x fs ≡ filter (λ f. not (is_thing x (thing.Link f.link) || is_thing x (thing.Device f.receiver))) fs
swept_out None fs = all_pass_kept fs
swept_out (Some (thing.Device d)) fs = refl
swept_out (Some (thing.Link l)) fs =
    kept_alike (λ f. not (nat_eq f.link l)) (λ f. not (nat_eq f.link l || false)) fs (λ f a. ap not (or_none (nat_eq f.link l)))

left_tests : (e : Event) (p : Flight → Bool) (fs : List Flight)
    → left_by e (filter p fs) ≡ filter (λ f. not (sweeps e f) && (not (uses e f) && (is_current (reference_of e) f && p f))) fs
left_tests e p fs =
    swept_out (failure_of e) (without_taken (message_of e) (filter (is_current (reference_of e)) (filter p fs)))
    ∙ ap (filter (λ f. not (sweeps e f))) (taken_out (message_of e) (filter (is_current (reference_of e)) (filter p fs)))
    ∙ ap (λ gs. filter (λ f. not (sweeps e f)) (filter (λ f. not (uses e f)) gs)) (both_tests (is_current (reference_of e)) p fs)
    ∙ ap (filter (λ f. not (sweeps e f))) (both_tests (λ f. not (uses e f)) (λ f. is_current (reference_of e) f && p f) fs)
    ∙ both_tests (λ f. not (sweeps e f)) (λ f. not (uses e f) && (is_current (reference_of e) f && p f)) fs

-- Use

-- an accepted event names a message that was sent
named_message : (setting : Setting) (steps : List Step) (e : Event) (n : ℕ) → refusal setting steps e ≡ None → flight_count steps < n
    → same_number (message_of e) n ≡ false
named_message setting steps e n none past = go (message_of e) (accepted_is_clear setting steps e none).message_known
  where
    go : (o : Option ℕ) → map_or o false (λ m. nat_eq m 0 || nat_lt (flight_count steps) m) ≡ false → same_number o n ≡ false
    go None known = refl
    go (Some m) known =
        let high : m ≤ flight_count steps = ltb-false (flight_count steps) m (or_parts (nat_eq m 0) (nat_lt (flight_count steps) m) known).1 in
        ne_eqb m n (λ same. omega arith)

-- a number that was not given was not used
pub unused : (setting : Setting) (steps : List Step) (n : ℕ) → AreSteps setting steps → flight_count steps < n → was_used steps n ≡ false
unused setting [] n is past = refl
unused setting (s ∷ earlier) n is past =
    let all = counted s earlier in
    let before : flight_count earlier < n = omega (arith, all) in
    ap (λ b. b || was_used earlier n) (named_message setting earlier s.seen.event n is.1 before) ∙ unused setting earlier n is.0 before

-- What was sent before

-- the test for one flight, by what it was before and what the event does
old_by : (u1 u w1 w late now lost : Bool) → (late ≡ true → now ≡ true)
    → not ((u1 || u) || (w1 || w) || now || lost) ≡ (not w1 && (not u1 && (not now && not (u || w || late || lost))))
old_by true u true w late now lost more = refl
old_by true u false w late now lost more = refl
old_by false true true w late now lost more = refl
old_by false false true w late now lost more = refl
old_by false true false w late true lost more = refl
old_by false true false w late false lost more = refl
old_by false false false true late true lost more = refl
old_by false false false true late false lost more = refl
old_by false false false false late true lost more = refl
old_by false false false false true false lost more = let clash : false ≡ true = more refl in cc
old_by false false false false false false lost more = refl

not_current : (last reference : ℕ) → not (nat_lt last reference) ≡ nat_le reference last
not_current last reference = elim (cases_lt last reference) [
  | inl past ↦ rw (lt-ltb last reference past, lt-leb reference last past) refl
  | inr upto ↦ rw (le-ltb last reference upto, le-leb reference last upto) refl
]

-- a new flight is not used, swept or late
new_by : (u1 u w late reaches : Bool) → u1 ≡ false → u ≡ false → w ≡ false → late ≡ false → not ((u1 || u) || w || late || not reaches) ≡ reaches
new_by u1 u w late reaches a b c d = rw (a, b, c, d) (twice reaches)
  where
    twice : (b : Bool) → not (not b) ≡ b
    twice true = refl
    twice false = refl

module _ (setting : Setting) (s : Step) (earlier : List Step) (is : AreSteps setting (s ∷ earlier)) where
  abbrev here : ℕ
  here = reference_of s.seen.event

  -- nothing that the step sent has the number of a flight that was sent before
  sweeping_goes_on : (n : ℕ) → n ≤ flight_count earlier → since_sending (s ∷ earlier) n ≡ s ∷ since_sending earlier n
  sweeping_goes_on n old =
      ap (λ b. if not b then s ∷ since_sending earlier n else [])
      (none_has n s.sent (beyond (flight_count earlier) (flight_count (s ∷ earlier)) n s.sent (step_given setting s earlier is) old))

  old_flight : (f : Flight) → Among f (sent_in_order earlier)
      → not (is_spent (s ∷ earlier) 0 f) ≡ (not (sweeps s.seen.event f) && (not (uses s.seen.event f) && (is_current here f && not (is_spent earlier 0 f))))
  old_flight f a =
      let bounds = within 1 (sent_in_order earlier) f (numbered_in_order setting earlier is.0) a in
      let old : f.number ≤ flight_count earlier = omega (arith, bounds.1, length_in_order earlier) in
      let goes : latest_reference (seen_of earlier) ≤ here = time_goes_on setting earlier s.seen.event is.1 in
      ap (λ q. not (was_used (s ∷ earlier) f.number || list_any (λ x. sweeps x.seen.event f) q || nat_lt f.last (max 0 here) || not f.reaches))
      (sweeping_goes_on f.number old)
      ∙ old_by (uses s.seen.event f) (was_used earlier f.number) (sweeps s.seen.event f) (was_swept earlier f)
      (nat_lt f.last (max 0 (latest_reference (seen_of earlier)))) (nat_lt f.last (max 0 here)) (not f.reaches)
      (λ late.
      let past : f.last < max 0 (latest_reference (seen_of earlier)) = ltb-true f.last (max 0 (latest_reference (seen_of earlier))) late in
      lt-ltb f.last (max 0 here) (omega arith))
      ∙ ap (λ b. not (sweeps s.seen.event f) && (not (uses s.seen.event f) && (b && not (is_spent earlier 0 f))))
      (let same : max 0 here ≡ here = omega arith in ap (λ (r : ℕ). not (nat_lt f.last r)) same ∙ not_current f.last here)

  -- What the step sends

  new_flight : (f : Flight) → Among f s.sent → not (is_spent (s ∷ earlier) 0 f) ≡ f.reaches
  new_flight f a =
      let bounds = within (flight_count earlier + 1) s.sent f (step_numbered setting s earlier is) a in
      let number : flight_count earlier < f.number = omega (arith, bounds.0) in
      let has : list_any (λ g. nat_eq g.number f.number) s.sent ≡ true =
      some_has f.number s.sent f (finds (flight_count earlier + 1) s.sent f (step_numbered setting s earlier is) a) in
      let ends : here ≤ f.last = ends_later setting s earlier f is a in
      new_by (uses s.seen.event f) (was_used earlier f.number) (was_swept (s ∷ earlier) f) (nat_lt f.last (max 0 here)) f.reaches
      (named_message setting earlier s.seen.event f.number is.1 number)
      (unused setting earlier f.number is.0 number)
      (ap (λ b. list_any (λ x. sweeps x.seen.event f) (if not b then s ∷ since_sending earlier f.number else [])) has)
      (le-ltb f.last (max 0 here) (omega arith))

-- what is not spent after a step
pub unspent_after : (setting : Setting) (s : Step) (earlier : List Step) → AreSteps setting (s ∷ earlier)
    → unspent (s ∷ earlier) 0 ≡ left_by s.seen.event (unspent earlier 0) ++ filter (λ f. f.reaches) s.sent
unspent_after setting s earlier is =
    ap (filter (λ f. not (is_spent (s ∷ earlier) 0 f))) (one_more_step s earlier)
    ∙ filter-append (λ f. not (is_spent (s ∷ earlier) 0 f)) (sent_in_order earlier) s.sent
    ∙ ap (λ fs. fs ++ filter (λ f. not (is_spent (s ∷ earlier) 0 f)) s.sent)
    (kept_alike (λ f. not (is_spent (s ∷ earlier) 0 f)) (λ f. not (sweeps s.seen.event f)
    && (not (uses s.seen.event f) && (is_current (reference_of s.seen.event) f && not (is_spent earlier 0 f))))
    (sent_in_order earlier) (old_flight setting s earlier is)
    ∙ sym (left_tests s.seen.event (λ f. not (is_spent earlier 0 f)) (sent_in_order earlier)))
    ∙ ap (λ fs. left_by s.seen.event (unspent earlier 0) ++ fs)
    (kept_alike (λ f. not (is_spent (s ∷ earlier) 0 f)) (λ f. f.reaches) s.sent (new_flight setting s earlier is))
