-- What is on its way in a calm time: each flight that reaches is received no later than its due, so that none is spoiled.
use Rattle.std.specs.Prelude.{count_by, ◌≡◌, ℕ, ◌+◌, ◌<◌, ◌≤◌, Bool, true, false, ◌&&◌, ◌||◌, not, List, [], ◌∷◌, filter, map, nat_eq, nat_lt, Option, Some, None, option_map, refl, if◌then◌else◌}
use Rattle.std.specs.List.{list_any, list_all}
use Rattle.std.proofs.Common.{sym, ap, ◌∙◌, subst, arith, inl, inr}
use Rattle.std.proofs.lemmas.Bool.{and_parts, or_left, or_right, or_cases, or_parts, or_from, ltb-true, eq-eqb, eqb-true, not-true, le-ltb, both_ways, false_from_ne_true, true_from_ne_false}
use Rattle.sd_num.specs.Lists.{map_or, same_number}
use Rattle.sd_plan.specs.topo.Network.{Network, delay_of}
use Rattle.sd_plan.specs.declared.topo.Thing.{Thing}
use Rattle.sd_plan.specs.declared.topo.Thing.TheVariants as thing
use Rattle.sd_plan.specs.declared.domain.DomainId.{DomainId}
use Rattle.sd_plan.specs.declared.Plan.{Plan}
use Rattle.sd_plan.specs.declared.End.{End}
use Rattle.sd_plan.specs.Duties.{ends_of, follows_over}
use Rattle.sd_device.specs.declared.msg.Flight.{Flight}
use Rattle.sd_device.specs.declared.msg.Stamp.{Stamp}
use Rattle.sd_device.specs.declared.Effect.TheVariants.{Send}
use Rattle.sd_sched.specs.declared.Event.{Event}
use Rattle.sd_sched.specs.declared.Event.TheVariants as event
use Rattle.sd_sched.specs.Events.{reference_of, device_of, message_of}
use Rattle.sd_history.specs.World.{Setting, Seen, window, fails, is_up, link_has_failed, plan_numbered, staged, in_force, epoch_in_force, staged_epoch, alone}
use Rattle.sd_history.specs.Steps.{Step, seen_of, flights, flight_numbered, ends_at}
use Rattle.sd_history.specs.Chronicle.{next_step}
use Rattle.sd_history.specs.Accepted.{AreSteps}
use Rattle.sd_history.specs.Refusals.{was_used, was_swept, since_sending}
use Rattle.sd_history.specs.Premises as premise
use Rattle.sd_history.specs.Premises.{is_overdue, was_received, was_interrupted, spoils, spoiled_rounds, loss_holds}
use Rattle.sd_history.proofs.Among.{Among, first, later, either_side, on_right}
use Rattle.sd_history.proofs.Given.{some_is}
use Rattle.sd_history.proofs.Filters.{kept_among}
use Rattle.sd_history.proofs.flights.Sending.{WasSent, was_sent}
use Rattle.sd_history.proofs.flights.Places.{IsBelow, ends_below, changed_named}
use Rattle.sd_beside.proofs.needed.Elements.{on_left, passes_kept, any_of}
use Rattle.sd_beside.proofs.needed.Worlds.{IsCalm, ticks, receives, is_live, World}

-- what holds of a flight that was sent before this reference
pub record FlightLaw (net : Network) (plan : Plan) (down : Thing → Bool) (steps : List Step) (t : ℕ) (f : Flight) : Type 0 where
  pub due : f.due ≡ f.sent_at + (delay_of net f.link f.receiver).max
  pub last : f.due ≤ f.last
  pub follows : follows_over plan f.sender f.link f.receiver ≡ true
  pub whole : f.reaches ≡ true → down (thing.Link f.link) ≡ false
  pub live : f.reaches ≡ true → is_live net plan down f.receiver ≡ true
  pub unswept : was_swept steps f ≡ false
  pub waits : f.reaches ≡ true → was_used steps f.number ≡ false → t ≤ f.due

pub record Air (net : Network) (plan : Plan) (down : Thing → Bool) (steps : List Step) (t : ℕ) : Type 0 where
  pub law : (f : Flight) → Among f (flights steps) → FlightLaw net plan down steps t f
  pub seen : (f : Flight) → Among f (premise.reaching_flights (seen_of steps)) → Among f (flights steps) × (f.reaches ≡ true)
  pub unspoiled : (f : Flight) → Among f (premise.reaching_flights (seen_of steps)) → spoils (seen_of steps) f ≡ false
  pub overdue : (f : Flight) → is_overdue (seen_of steps) f ≡ true → f.due < t
  pub used : (n : ℕ) → was_used steps n ≡ true → was_received (seen_of steps) n ≡ true

-- nothing that is on its way is due before this reference
abbrev pub NoneDue : List Step → ℕ → Type 0
NoneDue steps r = (f : Flight) → Among f (flights steps) → f.reaches ≡ true → was_used steps f.number ≡ false → r ≤ f.due

-- the event receives a flight that was sent, if any
pub data Receives (steps : List Step) : Event → Type 0 where
  nothing : {r d : ℕ} → Receives steps (event.Tick r d r)
  one : {r d n : ℕ} (f : Flight) → flight_numbered steps n ≡ Some f → f.number ≡ n → Receives steps (event.Recv r d r n)

-- The loss premise

none_spoiled : (seen : List Seen) (fs : List Flight) → ((f : Flight) → Among f fs → spoils seen f ≡ false) → filter (spoils seen) fs ≡ []
none_spoiled seen [] each = refl
none_spoiled seen (f ∷ fs) each = rw (each f first) (none_spoiled seen fs (λ g a. each g (later a)))

pub loss_held : (net : Network) (plan : Plan) (down : Thing → Bool) (steps : List Step) (t : ℕ) → Air net plan down steps t
    → loss_holds (alone net plan) (seen_of steps) ≡ true
loss_held net plan down steps t air =
    let none : spoiled_rounds (seen_of steps) ≡ [] =
    ap (map (λ (f : Flight). f.message.stamp)) (none_spoiled (seen_of steps) (premise.reaching_flights (seen_of steps)) air.unspoiled) in
    ap (λ (rounds : List Stamp). list_all (λ r. not (premise.all_from rounds r.term r.round (net.params.loss + 1))) rounds) none

-- One step more

-- a flight that a step sends
pub record IsNew (net : Network) (plan : Plan) (steps : List Step) (s : Step) (r d : ℕ) (f : Flight) : Type 0 where
  pub sender : f.sender ≡ d
  pub sent_at : f.sent_at ≡ r
  pub due : f.due ≡ r + (delay_of net f.link f.receiver).max
  pub last : f.due ≤ f.last
  pub follows : follows_over plan d f.link f.receiver ≡ true
  pub reaches : f.reaches ≡ (not (link_has_failed (seen_of steps) f.link) && is_up (seen_of steps) f.receiver)
  pub sends : s.told.effect ≡ Send f.message

-- what fails nothing sweeps nothing away
swept_on : (s : Step) (steps : List Step) (f : Flight)
    → (fails (thing.Link f.link) s.seen.event || fails (thing.Device f.receiver) s.seen.event) ≡ false
    → was_swept steps f ≡ false → was_swept (s ∷ steps) f ≡ false
swept_on s steps f nothing_ before = by (not (list_any (λ g. nat_eq g.number f.number) s.sent))
  where
    by : (b : Bool) → list_any (λ x. fails (thing.Link f.link) x.seen.event || fails (thing.Device f.receiver) x.seen.event)
        (if b then s ∷ since_sending steps f.number else []) ≡ false
    by true = rw nothing_ before
    by false = refl

-- nothing came since the latest step
swept_new : (s : Step) (steps : List Step) (f : Flight) → Among f s.sent → was_swept (s ∷ steps) f ≡ false
swept_new s steps f a = rw (any_of (λ g. nat_eq g.number f.number) s.sent f (eq-eqb f.number f.number refl) a) refl

-- a flight that was received in time, or is not due yet, is not spoiled
spoiled_on : (s : Seen) (seen : List Seen) (f : Flight) → spoils seen f ≡ false → (f.due < reference_of s.event → was_received seen f.number ≡ true)
    → spoils (s ∷ seen) f ≡ false
spoiled_on s seen f before received_ = by (is_overdue seen f)
  where
    late : (b : Bool) → nat_lt f.due (reference_of s.event) ≡ b
        → (b && not (was_received (s ∷ seen) f.number) && not (was_interrupted (s ∷ seen) f)) ≡ false
    late false is = refl
    late true is =
        rw (or_right (map_or s.taken false (λ g. nat_eq g.number f.number)) (was_received seen f.number)
        (received_ (ltb-true f.due (reference_of s.event) is))) refl

    by : (b : Bool) → (if b then spoils seen f
        else nat_lt f.due (reference_of s.event) && not (was_received (s ∷ seen) f.number) && not (was_interrupted (s ∷ seen) f)) ≡ false
    by true = before
    by false = late (nat_lt f.due (reference_of s.event)) refl

spoiled_new : (s : Seen) (seen : List Seen) (f : Flight) → is_overdue seen f ≡ false → reference_of s.event ≤ f.due → spoils (s ∷ seen) f ≡ false
spoiled_new s seen f early waits = rw (early, le-ltb f.due (reference_of s.event) waits) refl

device_is : (e : Event) (r d x : ℕ) → IsCalm e r d → device_of e ≡ Some x → x ≡ d
device_is e r d x ticks same = sym (some_is same)
device_is e r d x (receives n) same = sym (some_is same)

reference_is : (e : Event) (r d : ℕ) → IsCalm e r d → reference_of e ≡ r
reference_is e r d ticks = refl
reference_is e r d (receives n) = refl

fails_nothing : (e : Event) (r d : ℕ) (x : Thing) → IsCalm e r d → fails x e ≡ false
fails_nothing e r d x ticks = refl
fails_nothing e r d x (receives n) = refl

none_staged : (net : Network) (d : ℕ) (e : End) (b : Bool) → Among e (map_or (if b then None else None) [] (λ p. ends_of net p d)) → ⊥
none_staged net d e true a = elim a [ ]
none_staged net d e false a = elim a [ ]

-- the ends of a device are those of the plan, where no window is open and none was closed
pub ends_are : (net : Network) (plan : Plan) (steps : List Step) → window (seen_of steps) ≡ None → count_by (λ s. s.closed) (seen_of steps) ≡ 0
    → (epoch d : ℕ) (e : End) → Among e (ends_at (alone net plan) steps epoch d) → Among e (ends_of net plan d)
ends_are net plan steps open_ none epoch d e a = by (nat_eq epoch (epoch_in_force (seen_of steps))) a
  where
    by : (b : Bool)
        → Among e
        (map_or
        (if b then Some (in_force (alone net plan) (seen_of steps))
        else if nat_eq epoch (staged_epoch (seen_of steps)) then staged (alone net plan) (seen_of steps) else None) []
        (λ p. ends_of net p d))
        → Among e (ends_of net plan d)
    by true b = subst (λ (k : ℕ). Among e (ends_of net (plan_numbered (alone net plan) (k + 1)) d)) none b
    by false b =
        absurd (none_staged net d e (nat_eq epoch (staged_epoch (seen_of steps)))
        (subst (λ (w : Option (List Seen)).
        Among e
        (map_or
        (if nat_eq epoch (staged_epoch (seen_of steps)) then option_map (λ x. plan_numbered (alone net plan) (staged_epoch (seen_of steps))) w else None) []
        (λ p. ends_of net p d))) open_ b))

module _ (net : Network) (plan : Plan) (dom : DomainId) (down : Thing → Bool) (steps : List Step) (t : ℕ)
    (world : World net plan dom down (seen_of steps) t) where
  abbrev setting : Setting
  setting = alone net plan

  pub is_new : (e : Event) (r d : ℕ) (f : Flight) → IsCalm e r d → AreSteps setting (next_step setting steps e ∷ steps)
      → Among f (next_step setting steps e).sent → IsNew net plan steps (next_step setting steps e) r d f
  is_new e r d f calm is a =
      let sent : WasSent setting (next_step setting steps e) steps f = was_sent setting (next_step setting steps e) steps f is a in
      let same : sent.device ≡ d = device_is e r d sent.device calm (changed_named setting steps e sent.device sent.calls) in
      let among : Among sent.over.end_ (ends_of net plan sent.device) = ends_are net plan steps world.window world.closings sent.answers.epoch sent.device
      sent.over.end_ sent.over.among in
      let below_ : IsBelow net plan sent.device sent.over.end_ = ends_below net plan sent.device sent.over.end_ among in
      let here : reference_of e ≡ r = reference_is e r d calm in
      subst (λ (g : Flight). IsNew net plan steps (next_step setting steps e) r d g) (sym sent.over.is)
      (record {
        sender = same;
        sent_at = here;
        due = ap (λ (k : ℕ). k + (delay_of net sent.over.end_.link sent.over.end_.device).max) here;
        last = omega arith;
        follows = subst (λ (x : ℕ). follows_over plan x sent.over.end_.link sent.over.end_.device ≡ true) same below_.follows;
        reaches = refl;
        sends = sent.sends;
      })

  -- what is used was received
  used_on : (e : Event) (r d : ℕ) → IsCalm e r d → Receives steps e → AreSteps setting (next_step setting steps e ∷ steps) → Air net plan down steps t
      → (n : ℕ) → was_used (next_step setting steps e ∷ steps) n ≡ true → was_received (seen_of (next_step setting steps e ∷ steps)) n ≡ true
  used_on e r d calm nothing is air n used = air.used n used
  used_on e r d calm (one {n = m} f found number) is air n used =
      elim (or_cases (nat_eq m n) (was_used steps n) used) [
        | inl now ↦ rw found (or_left (nat_eq f.number n) (was_received (seen_of steps) n) (eq-eqb f.number n (number ∙ eqb-true m n now)))
        | inr old ↦ or_right (map_or (flight_numbered steps m) false (λ g. nat_eq g.number n)) (was_received (seen_of steps) n) (air.used n old)
      ]

  pub air_goes_on : (e : Event) (r d : ℕ) → IsCalm e r d → Receives steps e → AreSteps setting (next_step setting steps e ∷ steps) → t ≤ r
      → NoneDue steps r → Air net plan down steps t → Air net plan down (next_step setting steps e ∷ steps) r
  air_goes_on e r d calm receives_ is later_ none air =
      record {
        law = λ f a. elim (either_side s.sent (flights steps) a) [
          | inl b ↦ law_new f b
          | inr b ↦ law_old f b
        ];
        seen = λ f a. elim (either_side (filter (λ g. g.reaches) s.sent) (premise.reaching_flights (seen_of steps)) a) [
          | inl b ↦ (on_left s.sent (flights steps) f (kept_among (λ g. g.reaches) s.sent f b), passes_kept (λ g. g.reaches) s.sent f b)
          | inr b ↦ (let old = air.seen f b in (on_right s.sent old.0, old.1))
        ];
        unspoiled = λ f a. elim (either_side (filter (λ g. g.reaches) s.sent) (premise.reaching_flights (seen_of steps)) a) [
          | inl b ↦ spoiled_new s.seen (seen_of steps) f (not_overdue f (kept_among (λ g. g.reaches) s.sent f b))
              (due_later f (kept_among (λ g. g.reaches) s.sent f b))
          | inr b ↦ spoiled_on s.seen (seen_of steps) f (air.unspoiled f b) (in_time f b)
        ];
        overdue = λ f late. elim (or_cases (nat_lt f.due (reference_of e)) (is_overdue (seen_of steps) f) late) [
          | inl now ↦ (let before = ltb-true f.due (reference_of e) now in omega (arith, here, before))
          | inr old ↦ (let before = air.overdue f old in omega (arith, before, later_))
        ];
        used = used_on e r d calm receives_ is air;
      }
    where
      s : Step
      s = next_step setting steps e

      here : reference_of e ≡ r
      here = reference_is e r d calm

      new : (f : Flight) → Among f s.sent → IsNew net plan steps s r d f
      new f a = is_new e r d f calm is a

      due_later : (f : Flight) → Among f s.sent → reference_of s.seen.event ≤ f.due
      due_later f a = let due = (new f a).due in omega (arith, here, due)

      not_overdue : (f : Flight) → Among f s.sent → is_overdue (seen_of steps) f ≡ false
      not_overdue f a =
          false_from_ne_true (is_overdue (seen_of steps) f)
          (λ late. let due = (new f a).due in let before = air.overdue f late in omega (arith, here, due, before, later_))

      in_time : (f : Flight) → Among f (premise.reaching_flights (seen_of steps)) → f.due < reference_of s.seen.event
          → was_received (seen_of steps) f.number ≡ true
      in_time f a late =
          air.used f.number (true_from_ne_false (was_used steps f.number)
          (λ unused. let before = none f (air.seen f a).0 (air.seen f a).1 unused in omega (arith, here, late, before)))

      sound_link : (f : Flight) → not (link_has_failed (seen_of steps) f.link) ≡ true → down (thing.Link f.link) ≡ false
      sound_link f sound =
          false_from_ne_true (down (thing.Link f.link))
          (λ failed. both_ways (link_has_failed (seen_of steps) f.link) (not-true (link_has_failed (seen_of steps) f.link) sound) (world.failed f.link failed))

      law_new : (f : Flight) → Among f s.sent → FlightLaw net plan down (s ∷ steps) r f
      law_new f a =
          let n : IsNew net plan steps s r d f = new f a in
          let sent = n.sent_at in
          let due = n.due in
          record {
            due = due ∙ ap (λ (k : ℕ). k + (delay_of net f.link f.receiver).max) (sym sent);
            last = n.last;
            follows = subst (λ (x : ℕ). follows_over plan x f.link f.receiver ≡ true) (sym n.sender) n.follows;
            whole = λ reaches. sound_link f
                (and_parts (not (link_has_failed (seen_of steps) f.link)) (is_up (seen_of steps) f.receiver) (sym n.reaches ∙ reaches)).0;
            live = λ reaches. sym (world.up f.receiver)
                ∙ (and_parts (not (link_has_failed (seen_of steps) f.link)) (is_up (seen_of steps) f.receiver) (sym n.reaches ∙ reaches)).1;
            unswept = swept_new s steps f a;
            waits = λ reaches unused. omega (arith, due);
          }

      law_old : (f : Flight) → Among f (flights steps) → FlightLaw net plan down (s ∷ steps) r f
      law_old f a =
          let old : FlightLaw net plan down steps t f = air.law f a in
          record {
            due = old.due;
            last = old.last;
            follows = old.follows;
            whole = old.whole;
            live = old.live;
            unswept = swept_on s steps f
                (or_from (fails (thing.Link f.link) e) (fails (thing.Device f.receiver) e) (fails_nothing e r d (thing.Link f.link) calm)
                (fails_nothing e r d (thing.Device f.receiver) calm)) old.unswept;
            waits = λ reaches unused. none f a reaches (or_parts (same_number (message_of e) f.number) (was_used steps f.number) unused).1;
          }
