-- What is seen of accepted steps can be shown to the monitors: each step can follow those before it.
use Rattle.std.specs.Prelude.{◌≡◌, ℕ, zero, suc, ◌+◌, ◌*◌, ◌<◌, ◌≤◌, max, Bool, true, false, ◌||◌, not, List, [], ◌∷◌, ◌++◌, length, map, filter, find, nat_eq, nat_le, nat_lt, All, Contains, IfSome, Option, Some, None, option_map, option_and_then, slice_index_or, if◌then◌else◌, refl}
use Rattle.std.specs.Option.{ForSome}
use Rattle.std.specs.List.{list_any}
use Rattle.std.proofs.Common.{arith, sym, ap, ◌∙◌, subst, inl, inr, cond}
use Rattle.std.proofs.lemmas.Bool.{and_parts, and_from, or_parts, or_from, le-leb, not-false, eqb-true}
use Rattle.std.proofs.lemmas.Option.{same_Some}
use Rattle.std.proofs.lemmas.List.Elements.{Contains-append_left, Contains-append_right}
use Rattle.sd_num.specs.Lists.{map_or, same_number, ascends, greatest}
use Rattle.sd_plan.specs.topo.Network.{delay_of}
use Rattle.sd_device.specs.declared.msg.Flight.{Flight}
use Rattle.sd_sched.specs.declared.Event.{Event}
use Rattle.sd_sched.specs.Events.{reference_of, device_of, message_of, received, is_stage, is_commit}
use Rattle.sd_history.specs.World.{Setting, Seen, window, has_commit, latest_reference}
use Rattle.sd_history.specs.Steps.{Step, seen_of, flights, flight_numbered, flight_count, first_step, taken_by, has_turned}
use Rattle.sd_history.specs.Refusals.{refusal, unknown_device, unknown_link, dead_device, dead_link, time_falls, counter_falls, not_started, started_twice, no_plan_left, window_order_seen, window_order_within, after_end, not_failed, not_member, too_many, was_used, was_swept, is_spent}
use Rattle.sd_history.specs.Open.{may_be_seen}
use Rattle.sd_history.specs.Accepted.{AreSteps}
use Rattle.sd_history.specs.Premises as premises
use Rattle.sd_history.proofs.Among.{Among, first, later, found, either_side}
use Rattle.sd_history.proofs.Clear.{accepted_is_clear, few_events}
use Rattle.sd_history.proofs.Known.{named_is_known}
use Rattle.sd_history.specs.flights.Flights.{AreNumberedOn}
use Rattle.sd_history.proofs.flights.Sending.{step_numbered, counted, WasSent, was_sent}
use Rattle.sd_history.proofs.flights.Numbers.{numbers_within}
use Rattle.sd_history.proofs.flights.Places.{IsOfNetwork, flights_of_network}
use Rattle.sd_history.proofs.Shared.{received_message}
use Rattle.sd_monitors.specs.loss.rounds.Order.{last_sent}
use Rattle.sd_monitors.proofs.loss.rounds.InOrder.{last_sent_with}
use Rattle.sd_premise.specs.Order.{IsSentAt, IsOnTheWay, CanFollow}

-- Lists

among_contains : {A : Type 0} {x : A} {xs : List A} → Among x xs → Contains xs x
among_contains {x = x} (first {xs = ys}) = (0, omega arith, refl)
among_contains {x = x} (later {y = y} {xs = ys} a) = let rest : Contains ys x = among_contains a in (suc rest.0, omega (arith, rest.1), rest.2)

beside : {x : Flight} (xs ys : List Flight) → Among x xs → Among x (xs ++ ys)
beside [] ys a = elim a [ ]
beside (x ∷ xs) ys first = first
beside (x ∷ xs) ys (later a) = later (beside xs ys a)

-- an element at a place that passes the test, and is one of the list
kept_at : (p : Flight → Bool) (xs : List Flight) (k : ℕ) (d : Flight) → k < length (filter p xs) → Among (slice_index_or (filter p xs) k d) xs
kept_at p [] k d within = absurd (omega (arith, within))
kept_at p (x ∷ xs) k d within = by (p x) k within (λ j. kept_at p xs j d)
  where
    by : (b : Bool) (k : ℕ) → k < length (cond b (x ∷ filter p xs) (filter p xs))
        → ((j : ℕ) → j < length (filter p xs) → Among (slice_index_or (filter p xs) j d) xs)
        → Among (slice_index_or (cond b (x ∷ filter p xs) (filter p xs)) k d) (x ∷ xs)
    by true zero within rest = first
    by true (suc j) within rest = later (rest j (omega (arith, within)))
    by false k within rest = later (rest k within)

kept_too : (p : Flight → Bool) (xs : List Flight) (x : Flight) → Among x xs → p x ≡ true → Among x (filter p xs)
kept_too p [] x a passes = elim a [ ]
kept_too p (y ∷ ys) x first passes = subst (λ (b : Bool). Among x (cond b (x ∷ filter p ys) (filter p ys))) (sym passes) first
kept_too p (y ∷ ys) x (later a) passes = by (p y) (kept_too p ys x a passes)
  where
    by : (b : Bool) → Among x (filter p ys) → Among x (cond b (y ∷ filter p ys) (filter p ys))
    by true rest = later rest
    by false rest = rest

kept_contains : (p : Flight → Bool) (xs : List Flight) (x : Flight) → Among x xs → p x ≡ true → Contains (filter p xs) x
kept_contains p xs x a passes = among_contains (kept_too p xs x a passes)

-- numbers that go up by one ascend, and so do those that are kept of them
kept_ascend : (p : Flight → Bool) (floor n : ℕ) (fs : List Flight) → AreNumberedOn n fs → floor < n → ascends (floor ∷ map (λ f. f.number) (filter p fs)) ≡ true
kept_ascend p floor n [] numbered low = refl
kept_ascend p floor n (f ∷ fs) numbered low =
    by (p f) (kept_ascend p f.number (n + 1) fs numbered.1 (omega (arith, numbered.0))) (kept_ascend p floor (n + 1) fs numbered.1 (omega (arith, low)))
  where
    by : (b : Bool) → ascends (f.number ∷ map (λ f. f.number) (filter p fs)) ≡ true → ascends (floor ∷ map (λ f. f.number) (filter p fs)) ≡ true
        → ascends (floor ∷ map (λ f. f.number) (cond b (f ∷ filter p fs) (filter p fs))) ≡ true
    by true here rest =
        and_from (nat_le (floor + 1) f.number) (ascends (f.number ∷ map (λ f. f.number) (filter p fs)))
        (le-leb (floor + 1) f.number (omega (arith, numbered.0, low))) here
    by false here rest = rest

-- The event may be seen

fourteen : (a b c d e f g h i j k l m n : Bool) → a ≡ false → b ≡ false → c ≡ false → d ≡ false → e ≡ false → f ≡ false → g ≡ false → h ≡ false → i ≡ false
    → j ≡ false → k ≡ false → l ≡ false → m ≡ false → n ≡ false
    → not (a || b || c || d || e || f || g || h || i || j || k || l || m || n) ≡ true
fourteen a b c d e f g h i j k l m n pa pb pc pd pe pf pg ph pi pj pk pl pm pn = rw (pa, pb, pc, pd, pe, pf, pg, ph, pi, pj, pk, pl, pm, pn) refl

pub allowed : (setting : Setting) (steps : List Step) (e : Event) → refusal setting steps e ≡ None → may_be_seen setting (seen_of steps) e ≡ true
allowed setting steps e none =
    let clear = accepted_is_clear setting steps e none in
    fourteen (unknown_device setting e) (unknown_link setting e) (dead_device (seen_of steps) e) (dead_link (seen_of steps) e) (time_falls (seen_of steps) e)
    (counter_falls (seen_of steps) e) (not_started (seen_of steps) e)
    (started_twice setting (seen_of steps) e) (no_plan_left setting (seen_of steps) e) (window_order_seen setting (seen_of steps) e) (after_end (seen_of steps))
    (not_failed (seen_of steps) e) (not_member setting (seen_of steps) e) (too_many (seen_of steps))
    clear.device_known
    clear.link_known
    clear.device_works
    clear.link_works
    clear.time_rises
    clear.counter_rises
    clear.device_up
    clear.started_once
    clear.plan_left
    (or_parts (window_order_seen setting (seen_of steps) e) (window_order_within steps e)
    clear.in_window).0
    clear.before_end
    clear.has_failed
    clear.is_member
    (few_events setting steps e none)

-- A window closes at its commit or later

closes_late : (s : Seen) (earlier : List Seen) → s.closed ≡ false → has_commit (s ∷ earlier) ≡ true → (is_commit s.event || has_commit earlier) ≡ true
closes_late s earlier stays had = by s.closed (is_stage s.event) (window earlier) stays had
  where
    by : (closed stage : Bool) (o : Option (List Seen)) → closed ≡ false
        → map_or (if closed then None else if stage then Some [] else option_map (λ w. s ∷ w) o) false (list_any (λ x. is_commit x.event)) ≡ true
        → (is_commit s.event || map_or o false (list_any (λ x. is_commit x.event))) ≡ true
    by true stage o stays' had' = cc
    by false true o stays' had' = cc
    by false false None stays' had' = cc
    by false false (Some w) stays' had' = had'

-- Steps

module _ (setting : Setting) (s : Step) (earlier : List Step) (steps : AreSteps setting (s ∷ earlier)) where
  closing : (not s.seen.closed || is_commit s.seen.event || has_commit (seen_of earlier)) ≡ true
  closing = by s.seen.closed refl
    where
      by : (b : Bool) → s.seen.closed ≡ b → (not b || is_commit s.seen.event || has_commit (seen_of earlier)) ≡ true
      by false stays = refl
      by true closes =
          closes_late (first_step setting earlier s.seen.event s.told).seen (seen_of earlier) refl
          (and_parts (has_commit (seen_of (first_step setting earlier s.seen.event s.told ∷ earlier))) _
          (sym (ap (λ (x : Step). x.seen.closed) steps.2) ∙ closes)).0

  activated : IfSome s.seen.activated (λ d. d < length setting.net.devices)
  activated = subst (λ (o : Option ℕ). IfSome o (λ d. d < length setting.net.devices)) (sym (ap (λ (x : Step). x.seen.activated) steps.2))
      (by (device_of s.seen.event) refl)
    where
      turned : (d : ℕ) (b : Bool) → d < length setting.net.devices → IfSome (if b then Some d else None) (λ d. d < length setting.net.devices)
      turned d true within = within
      turned d false within = tt

      by : (o : Option ℕ) → device_of s.seen.event ≡ o
          → IfSome (map_or o None (λ d. if has_turned earlier (first_step setting earlier s.seen.event s.told) d then Some d else None))
          (λ d. d < length setting.net.devices)
      by None names = tt
      by (Some d) names =
          turned d (has_turned earlier (first_step setting earlier s.seen.event s.told) d) (named_is_known setting earlier s.seen.event d steps.1 names)

  -- what is seen of what is sent
  reach : s.seen.sent ≡ filter (λ f. f.reaches) s.sent
  reach = ap (λ (x : Step). x.seen.sent) steps.2 ∙ sym (ap (λ (x : Step). filter (λ f. f.reaches) x.sent) steps.2)

  sent_one : (f : Flight) → Among f s.sent → IsSentAt setting (reference_of s.seen.event) f
  sent_one f a =
      let of_net : IsOfNetwork setting.net f = flights_of_network setting (s ∷ earlier) f steps (beside s.sent (flights earlier) a) in
      let sent : WasSent setting s earlier f = was_sent setting s earlier f steps a in
      let link : f.link ≡ sent.over.end_.link = ap (λ (g : Flight). g.link) sent.over.is in
      let receiver : f.receiver ≡ sent.over.end_.device = ap (λ (g : Flight). g.receiver) sent.over.is in
      record {
        sender = of_net.sender;
        receiver = of_net.receiver;
        link = of_net.link;
        sent_at = ap (λ (g : Flight). g.sent_at) sent.over.is;
        due = ap (λ (g : Flight). g.due) sent.over.is ∙ (λ i. reference_of s.seen.event + (delay_of setting.net (sym link i) (sym receiver i)).max);
        last = ap (λ (g : Flight). g.last) sent.over.is ∙ (λ i. reference_of s.seen.event + 2 * (delay_of setting.net (sym link i) (sym receiver i)).max);
      }

  sent : All (IsSentAt setting (reference_of s.seen.event)) s.seen.sent
  sent = subst (λ (fs : List Flight). All (IsSentAt setting (reference_of s.seen.event)) fs) (sym reach)
      (λ k d within. sent_one (slice_index_or (filter (λ f. f.reaches) s.sent) k d) (kept_at (λ f. f.reaches) s.sent k d within))

-- Numbers

greatest_low : (fs : List Flight) (n : ℕ) → All (λ f. f.number ≤ n) fs → greatest (map (λ f. f.number) fs) ≤ n
greatest_low [] n low = omega arith
greatest_low (f ∷ fs) n low =
    omega (arith, low 0 f (omega arith), greatest_low fs n (λ k d within. low (suc k) d (omega (arith, within))))

last_low : (setting : Setting) (steps : List Step) → AreSteps setting steps → last_sent (seen_of steps) ≤ flight_count steps
last_low setting [] is = omega arith
last_low setting (s ∷ earlier) is = omega (arith, last_sent_with s.seen (seen_of earlier), here, last_low setting earlier is.0, counted s earlier)
  where
    here : greatest (map (λ f. f.number) s.seen.sent) ≤ flight_count (s ∷ earlier)
    here =
        subst (λ (fs : List Flight). greatest (map (λ f. f.number) fs) ≤ flight_count (s ∷ earlier)) (sym (reach setting s earlier is))
        (greatest_low (filter (λ f. f.reaches) s.sent) (flight_count (s ∷ earlier)) (λ k d within.
        (numbers_within setting (s ∷ earlier) (slice_index_or (filter (λ f. f.reaches) s.sent) k d) is
        (beside s.sent (flights earlier) (kept_at (λ f. f.reaches) s.sent k d within))).1))

-- Flights that are received

-- what was sent and reaches is seen to be sent
seen_sent : (setting : Setting) (steps : List Step) (f : Flight) → AreSteps setting steps → Among f (flights steps) → f.reaches ≡ true
    → Contains (premises.reaching_flights (seen_of steps)) f
seen_sent setting [] f is a reaches = elim a [ ]
seen_sent setting (s ∷ earlier) f is a reaches = elim (either_side s.sent (flights earlier) a) [
  | inl now ↦
      Contains-append_left s.seen.sent (premises.reaching_flights (seen_of earlier)) f
      (subst (λ (fs : List Flight). Contains fs f) (sym (reach setting s earlier is)) (kept_contains (λ g. g.reaches) s.sent f now reaches))
  | inr before ↦ Contains-append_right s.seen.sent (premises.reaching_flights (seen_of earlier)) f (seen_sent setting earlier f is.0 before reaches)
]

found_numbered : (n : ℕ) (fs : List Flight) (f : Flight) → find (λ g. nat_eq g.number n) fs ≡ Some f → f.number ≡ n
found_numbered n [] f is = cc
found_numbered n (g ∷ gs) f is = by (nat_eq g.number n) refl is (found_numbered n gs f)
  where
    by : (b : Bool) → nat_eq g.number n ≡ b → cond b (Some g) (find (λ g. nat_eq g.number n) gs) ≡ Some f
        → (find (λ g. nat_eq g.number n) gs ≡ Some f → f.number ≡ n) → f.number ≡ n
    by true same there rest = subst (λ (x : Flight). x.number ≡ n) (same_Some g f there) (eqb-true g.number n same)
    by false other there rest = rest there

-- a flight that is taken is that of the message that the event receives
record IsTaken (steps : List Step) (e : Event) (f : Flight) : Type 0 where
  message : message_of e ≡ Some f.number
  there : flight_numbered steps f.number ≡ Some f

taken_is : (steps : List Step) (e : Event) (f : Flight) → taken_by steps e ≡ Some f → IsTaken steps e f
taken_is steps e f is = by (received e) refl is
  where
    by : (o : Option ℕ) → received e ≡ o → option_and_then (flight_numbered steps) o ≡ Some f → IsTaken steps e f
    by None none there = cc
    by (Some m) some there =
        let same : f.number ≡ m = found_numbered m (flights steps) f there in
        record {
          message = received_message e m some ∙ ap (λ (n : ℕ). Some n) (sym same);
          there = ap (flight_numbered steps) same ∙ there;
        }

step_takes : (setting : Setting) (s : Step) (earlier : List Step) → AreSteps setting (s ∷ earlier) → s.seen.taken ≡ taken_by earlier s.seen.event
step_takes setting s earlier is = ap (λ (x : Step). x.seen.taken) is.2

-- what was received was used
unreceived : (setting : Setting) (steps : List Step) (n : ℕ) → AreSteps setting steps → was_used steps n ≡ false
    → premises.was_received (seen_of steps) n ≡ false
unreceived setting [] n is unused = refl
unreceived setting (s ∷ earlier) n is unused =
    or_from (map_or s.seen.taken false (λ f. nat_eq f.number n)) (premises.was_received (seen_of earlier) n) (by s.seen.taken refl)
    (unreceived setting earlier n is.0 two.1)
  where
    two : (same_number (message_of s.seen.event) n ≡ false) × (was_used earlier n ≡ false)
    two = or_parts (same_number (message_of s.seen.event) n) (was_used earlier n) unused

    by : (o : Option Flight) → s.seen.taken ≡ o → map_or o false (λ f. nat_eq f.number n) ≡ false
    by None none = refl
    by (Some f) some = sym (ap (λ (m : Option ℕ). same_number m n) (taken_is earlier s.seen.event f (sym (step_takes setting s earlier is) ∙ some)).message)
        ∙ two.0

on_the_way : (setting : Setting) (s : Step) (earlier : List Step) → AreSteps setting (s ∷ earlier) → ForSome s.seen.taken (IsOnTheWay (seen_of earlier))
on_the_way setting s earlier is f takes = record {
  sent = seen_sent setting earlier f is.0 (found (λ g. nat_eq g.number f.number) f (flights earlier) taken.there) (not-false f.reaches open_.1);
  unreceived =
      unreceived setting earlier f.number is.0
      (or_parts (was_used earlier f.number) (was_swept earlier f) (or_parts (was_used earlier f.number || was_swept earlier f) _ open_.0).0).0;
}
  where
    taken : IsTaken earlier s.seen.event f
    taken = taken_is earlier s.seen.event f (sym (step_takes setting s earlier is) ∙ takes)

    unspent : is_spent earlier (reference_of s.seen.event) f ≡ false
    unspent =
        sym (ap (λ (o : Option ℕ). map_or o false (λ n. map_or (flight_numbered earlier n) false (is_spent earlier (reference_of s.seen.event))))
        taken.message
        ∙ ap (λ (o : Option Flight). map_or o false (is_spent earlier (reference_of s.seen.event))) taken.there)
        ∙ (accepted_is_clear setting earlier s.seen.event is.1).message_open

    open_ : ((was_used earlier f.number || was_swept earlier f || nat_lt f.last (max (reference_of s.seen.event) (latest_reference (seen_of earlier)))) ≡ false)
        × (not f.reaches ≡ false)
    open_ = or_parts (was_used earlier f.number || was_swept earlier f || nat_lt f.last (max (reference_of s.seen.event) (latest_reference (seen_of earlier))))
        (not f.reaches) unspent

-- All of it

-- what is seen of an accepted step can follow what is seen of those before it
pub can_follow : (setting : Setting) (s : Step) (earlier : List Step) → AreSteps setting (s ∷ earlier) → CanFollow setting (seen_of earlier) s.seen
can_follow setting s earlier is = record {
  allowed = allowed setting earlier s.seen.event is.1;
  closing = closing setting s earlier is;
  activated = activated setting s earlier is;
  sent = sent setting s earlier is;
  numbers =
      subst (λ (fs : List Flight). ascends (last_sent (seen_of earlier) ∷ map (λ f. f.number) fs) ≡ true) (sym (reach setting s earlier is))
      (kept_ascend (λ f. f.reaches) (last_sent (seen_of earlier)) (flight_count earlier + 1) s.sent (step_numbered setting s earlier is)
      (omega (arith, last_low setting earlier is.0)));
  taken = on_the_way setting s earlier is;
}
