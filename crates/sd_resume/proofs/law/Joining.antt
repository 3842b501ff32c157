-- Two shifts are one: what is raised by the inner shift and then by the outer one is raised by the joined shift.
use Rattle.std.specs.Prelude.{◌≡◌, ◌≢◌, ℕ, zero, suc, ◌+◌, false, List, [], ◌∷◌, map, nat_eq, Option, Some, None, option_map, refl, if◌then◌else◌}
use Rattle.std.proofs.Common.{arith, sym, ◌∙◌, ap}
use Rattle.std.proofs.lemmas.Bool.Decides.{nat_tests}
use Rattle.sd_plan.specs.declared.Duty.{Duty}
use Rattle.sd_num.specs.declared.clock.Estimate.{Estimate}
use Rattle.sd_device.specs.declared.msg.Stamp.{Stamp}
use Rattle.sd_device.specs.declared.msg.Message.{Message}
use Rattle.sd_device.specs.declared.msg.Flight.{Flight}
use Rattle.sd_device.specs.msg.Stamps.{stamp}
use Rattle.sd_device.specs.declared.registers.Registers.{Registers}
use Rattle.sd_sched.specs.declared.Event.{Event}
use Rattle.sd_sched.specs.declared.Event.TheVariants as event
use Rattle.sd_history.specs.World.{Seen}
use Rattle.sd_history.specs.Steps.{Answers}
use Rattle.sd_resume.specs.law.Shifts.{Shift, raised_epoch, raised_round, raised_stamp, raised_message, raised_flight, raised_duty, raised_registers, raised_event, raised_seen}
use Rattle.sd_resume.specs.law.Agreement.{raised_answers}
use Rattle.sd_resume.specs.law.Composed.{joined_shift}

-- numbers that are raised in two steps
pub sum : (n a b : ℕ) → n + (a + b) ≡ n + a + b
sum n a b = omega arith

-- maps in two steps
pub options_joined : {A : Type 0} (f g h : A → A) → ((x : A) → f x ≡ g (h x)) → (o : Option A) → option_map f o ≡ option_map g (option_map h o)
options_joined f g h each None = refl
options_joined f g h each (Some x) = ap Some (each x)

pub lists_joined : {A : Type 0} (f g h : A → A) → ((x : A) → f x ≡ g (h x)) → (xs : List A) → map f xs ≡ map g (map h xs)
lists_joined f g h each [] = refl
lists_joined f g h each (x ∷ xs) = ap (λ y. y ∷ map f xs) (each x) ∙ ap (λ ys. g (h x) ∷ ys) (lists_joined f g h each xs)

-- records with other parts

abbrev flight_with : Flight → ℕ → Message → Flight
flight_with f n m =
    record {
      number = n;
      link = f.link;
      sender = f.sender;
      receiver = f.receiver;
      sent_at = f.sent_at;
      due = f.due;
      last = f.last;
      reaches = f.reaches;
      message = m;
    }

abbrev seen_with : Seen → Event → Option Flight → List Flight → Seen
seen_with s e taken sent = record { event = e; taken = taken; sent = sent; activated = s.activated; acted = s.acted; closed = s.closed }

abbrev answers_with : Answers → ℕ → Option Duty → Answers
answers_with a e given = record { parent = a.parent; acts = a.acts; epoch = e; given = given; sealed = a.sealed }

abbrev registers_with : Registers → (last sent : ℕ) → Stamp → Estimate → (duty given : Option Duty) → Registers
registers_with r last sent other estimate duty given =
    record {
      duty = duty;
      given = given;
      mode = r.mode;
      sealed = r.sealed;
      stamp = other;
      last = last;
      sent = sent;
      estimate = estimate;
      rates = r.rates;
    }

module _ (outer inner : Shift) where
  abbrev joined : Shift
  joined = joined_shift outer inner

  -- Plans

  later_epoch : (n : ℕ) → n ≢ 0 → raised_epoch outer n ≡ n + outer.plans
  later_epoch zero some = absurd (some refl)
  later_epoch (suc n) some = refl

  pub epoch_joined : (e : ℕ) → raised_epoch joined e ≡ raised_epoch outer (raised_epoch inner e)
  epoch_joined zero = refl
  epoch_joined (suc e) = sum (suc e) inner.plans outer.plans ∙ sym (later_epoch (suc e + inner.plans) (never e inner.plans))
    where
      never : (e k : ℕ) → suc e + k ≡ 0 → ⊥
      never e k is = omega (arith, is)

  pub duty_joined : (duty : Duty) → raised_duty joined duty ≡ raised_duty outer (raised_duty inner duty)
  duty_joined duty = ap (λ n. record duty { epoch = n }) (epoch_joined duty.epoch)

  -- Stamps

  later_stamp : (n round : ℕ) → n ≢ 0 → raised_round outer n round ≡ stamp (n + outer.term) round
  later_stamp zero round some = absurd (some refl)
  later_stamp (suc n) round some = refl

  first_stamp : (k r round : ℕ) → stamp (k + outer.term) (round + (if nat_eq k 0 then r + outer.round else r)) ≡ raised_round outer k (round + r)
  first_stamp zero r round = ap (λ t. stamp t (round + (r + outer.round))) (none outer.term) ∙ ap (stamp outer.term) (sum round r outer.round)
    where
      none : (n : ℕ) → 0 + n ≡ n
      none n = omega arith
  first_stamp (suc k) r round = ap (λ b. stamp (suc k + outer.term) (round + (if b then r + outer.round else r))) (later k)
    where
      later : (k : ℕ) → nat_eq (suc k) 0 ≡ false
      later k = grind (arith, nat_tests)

  round_joined : (term round : ℕ) → raised_round joined term round ≡ raised_stamp outer (raised_round inner term round)
  round_joined zero round = first_stamp inner.term inner.round round
  round_joined (suc term) round =
      ap (λ t. stamp t round) (sum (suc term) inner.term outer.term) ∙ sym (later_stamp (suc term + inner.term) round (never term inner.term))
    where
      never : (e k : ℕ) → suc e + k ≡ 0 → ⊥
      never e k is = omega (arith, is)

  pub stamp_joined : (x : Stamp) → raised_stamp joined x ≡ raised_stamp outer (raised_stamp inner x)
  stamp_joined x = round_joined x.term x.round

  -- Messages, events and what is seen of them

  message_joined : (m : Message) → raised_message joined m ≡ raised_message outer (raised_message inner m)
  message_joined m =
      by (raised_epoch joined m.epoch) (raised_epoch outer (raised_epoch inner m.epoch)) (raised_stamp joined m.stamp)
      (raised_stamp outer (raised_stamp inner m.stamp)) (epoch_joined m.epoch) (stamp_joined m.stamp)
    where
      by : (e e' : ℕ) (s s' : Stamp) → e ≡ e' → s ≡ s'
          → ◌≡◌ {A = Message} (record { epoch = e; stamp = s; clock = m.clock; eps = m.eps }) (record { epoch = e'; stamp = s'; clock = m.clock; eps = m.eps })
      by e e' s s' a b = rw (a, b) refl

  pub flight_joined : (f : Flight) → raised_flight joined f ≡ raised_flight outer (raised_flight inner f)
  flight_joined f =
      by (f.number + (inner.messages + outer.messages)) (f.number + inner.messages + outer.messages) (raised_message joined f.message)
      (raised_message outer (raised_message inner f.message)) (sum f.number inner.messages outer.messages) (message_joined f.message)
    where
      by : (n n' : ℕ) (m m' : Message) → n ≡ n' → m ≡ m' → flight_with f n m ≡ flight_with f n' m'
      by n n' m m' a b = ap (λ k. flight_with f k m) a ∙ ap (flight_with f n') b

  pub event_joined : (e : Event) → raised_event joined e ≡ raised_event outer (raised_event inner e)
  event_joined (event.Recv reference device counter message) = ap (event.Recv reference device counter) (sum message inner.messages outer.messages)
  event_joined (event.Lose reference message) = ap (event.Lose reference) (sum message inner.messages outer.messages)
  event_joined (event.Start reference device counter clock eps) = refl
  event_joined _ = refl

  pub seen_joined : (s : Seen) → raised_seen joined s ≡ raised_seen outer (raised_seen inner s)
  seen_joined s =
      ap (λ (e : Event). seen_with s e (option_map (raised_flight joined) s.taken) (map (raised_flight joined) s.sent)) (event_joined s.event)
      ∙ ap (λ (o : Option Flight). seen_with s (raised_event outer (raised_event inner s.event)) o (map (raised_flight joined) s.sent))
      (options_joined (raised_flight joined) (raised_flight outer) (raised_flight inner) flight_joined s.taken)
      ∙ ap (λ (fs : List Flight). seen_with s (raised_event outer (raised_event inner s.event)) (option_map (raised_flight outer) (option_map (raised_flight inner) s.taken)) fs)
      (lists_joined (raised_flight joined) (raised_flight outer) (raised_flight inner) flight_joined s.sent)

  -- What devices keep and answer

  pub answers_joined : (a : Answers) → raised_answers joined a ≡ raised_answers outer (raised_answers inner a)
  answers_joined a =
      ap (λ (e : ℕ). answers_with a e (option_map (raised_duty joined) a.given)) (epoch_joined a.epoch)
      ∙ ap (answers_with a (raised_epoch outer (raised_epoch inner a.epoch)))
      (options_joined (raised_duty joined) (raised_duty outer) (raised_duty inner) duty_joined a.given)

  pub registers_joined : (r : Registers) (last sent last' sent' : ℕ) (other other' : Stamp) (estimate estimate' : Estimate)
      → raised_registers outer (raised_registers inner r last' sent' other' estimate') last sent other estimate
      ≡ raised_registers joined r last sent other estimate
  registers_joined r last sent last' sent' other other' estimate estimate' =
      ap (λ (o : Option Duty). registers_with r last sent other estimate o (option_map (raised_duty outer) (option_map (raised_duty inner) r.given)))
      (sym (options_joined (raised_duty joined) (raised_duty outer) (raised_duty inner) duty_joined r.duty))
      ∙ ap (registers_with r last sent other estimate (option_map (raised_duty joined) r.duty))
      (sym (options_joined (raised_duty joined) (raised_duty outer) (raised_duty inner) duty_joined r.given))
