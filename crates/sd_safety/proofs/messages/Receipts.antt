-- An accepted receipt of a chronicle is of a flight that was sent at an earlier moment, that reached, and that nothing cut off since.
use Rattle.std.specs.Prelude.{◌≡◌, ℕ, Bool, true, false, ◌||◌, not, List, nat_eq, nat_lt, max, Option, Some, None, refl}
use Rattle.std.specs.List.{list_any}
use Rattle.std.proofs.Common.{sym, ◌∙◌, ap, subst}
use Rattle.std.proofs.lemmas.Bool.{eqb-true, or_parts, and_parts, not-false, not-true}
use Rattle.sd_num.specs.Lists.{map_or, same_number}
use Rattle.sd_plan.specs.declared.topo.Thing.TheVariants as thing
use Rattle.sd_plan.specs.declared.Edge.{Edge}
use Rattle.sd_plan.specs.declared.End.{End}
use Rattle.sd_plan.specs.declared.Plan.{Plan}
use Rattle.sd_plan.specs.Duties.{duty_of}
use Rattle.sd_device.specs.declared.msg.Message.{Message}
use Rattle.sd_device.specs.declared.msg.Flight.{Flight}
use Rattle.sd_device.specs.Calls as calls
use Rattle.sd_device.specs.Calls.{Call, Receive, Past}
use Rattle.sd_device.specs.Words.{transition_of, after, accepted_over, epoch_now}
use Rattle.sd_sched.specs.declared.Event.{Event}
use Rattle.sd_sched.specs.declared.Event.TheVariants as event
use Rattle.sd_sched.specs.Events.{reference_of}
use Rattle.sd_history.specs.World.{Setting, fails, link_has_failed, is_up, staged, staged_epoch, latest_reference}
use Rattle.sd_history.specs.Steps.{Calls, Passes, Step, seen_of, flight_numbered, ends_at, act_by, taken_by}
use Rattle.sd_history.specs.Refusals.{since_sending, was_swept, was_used, is_spent, spent_message, wrong_device}
use Rattle.sd_history.specs.Chronicle.{past_in}
use Rattle.sd_history.specs.Premises.{delay_holds, is_in_time}
use Rattle.sd_history.proofs.Among.{Among, first, later}
use Rattle.sd_history.proofs.Clear.{clear}
use Rattle.sd_history.proofs.Given.{some_is}
use Rattle.sd_history.proofs.flights.Sending.{IsOver}
use Rattle.sd_safety.specs.messages.Moments.{IsChronicle, Moment, upto, when, IsIn, IsBefore, Sends, Receipt}
use Rattle.sd_safety.specs.messages.Traces.{Hop}
use Rattle.sd_safety.proofs.messages.Tails.{tail_chronicle, moment_arrives}
use Rattle.sd_safety.proofs.messages.Sending.{accepted_why}
use Rattle.sd_safety.proofs.messages.Flights.{IsSentBy, moment_sends, SentAt, sent_where}

-- the event received this flight
record Got (earlier : List Step) (e : Event) (d : ℕ) (l : ℕ) (m : Message) (c : ℕ) : Type 0 where
  reference : ℕ
  number : ℕ
  flight : Flight
  event_is : e ≡ event.Recv reference d c number
  found : flight_numbered earlier number ≡ Some flight
  link : flight.link ≡ l
  message : flight.message ≡ m

pub device_is : {d e : ℕ} {a b : Call} → Calls d a ≡ Calls e b → d ≡ e
device_is {d = d} same = ap (λ act. elim act [ Calls x call ↦ x | _ ↦ d ]) same

pub call_is : {d e : ℕ} {a b : Call} → Calls d a ≡ Calls e b → a ≡ b
call_is {a = a} same = ap (λ act. elim act [ Calls x call ↦ call | _ ↦ a ]) same

receive_is : {l k : ℕ} {m n : Message} {c e : ℕ} → Receive l m c ≡ Receive k n e → (l ≡ k) × (m ≡ n) × (c ≡ e)
receive_is {l = l} {m = m} {c = c} same = (
  ap (λ call. elim call [ Receive x y z ↦ x | _ ↦ l ]) same,
  ap (λ call. elim call [ Receive x y z ↦ y | _ ↦ m ]) same,
  ap (λ call. elim call [ Receive x y z ↦ z | _ ↦ c ]) same,
)

got_recv : (earlier : List Step) (r v k n : ℕ) (o : Option Flight) (d l : ℕ) (m : Message) (c : ℕ) → flight_numbered earlier n ≡ o
    → map_or o Passes (λ f. Calls v (Receive f.link f.message k)) ≡ Calls d (Receive l m c) → Got earlier (event.Recv r v k n) d l m c
got_recv earlier r v k n None d l m c found same = cc
got_recv earlier r v k n (Some f) d l m c found same =
    let parts : (f.link ≡ l) × (f.message ≡ m) × (k ≡ c) = receive_is (call_is same) in
    record {
      reference = r;
      number = n;
      flight = f;
      event_is = ap (λ x. event.Recv r x k n) (device_is same) ∙ ap (λ x. event.Recv r d x n) parts.2;
      found = found;
      link = parts.0;
      message = parts.1;
    }

got_give : (earlier : List Step) (e : Event) (v : ℕ) (give : Plan → Call) (o : Option Plan) (d l : ℕ) (m : Message) (c : ℕ)
    → ((plan : Plan) → give plan ≡ Receive l m c → ⊥)
    → map_or o Passes (λ plan. Calls v (give plan)) ≡ Calls d (Receive l m c) → Got earlier e d l m c
got_give earlier e v give None d l m c none same = cc
got_give earlier e v give (Some plan) d l m c none same = absurd (none plan (call_is same))

got : (setting : Setting) (earlier : List Step) (e : Event) (d l : ℕ) (m : Message) (c : ℕ) → act_by setting earlier e ≡ Calls d (Receive l m c)
    → Got earlier e d l m c
got setting earlier (event.Recv r v k n) d l m c same = got_recv earlier r v k n (flight_numbered earlier n) d l m c refl same
got setting earlier (event.Give r v) d l m c same =
    got_give earlier (event.Give r v) v (λ plan. calls.Give (duty_of setting.net plan (staged_epoch (seen_of earlier)) v))
    (staged setting (seen_of earlier)) d l m c (λ plan other. cc) same
got setting earlier (event.Tick r v k) d l m c same = let call = call_is same in cc
got setting earlier (event.Fix r v k clock eps) d l m c same = let call = call_is same in cc
got setting earlier (event.Commit r v k) d l m c same = let call = call_is same in cc
got setting earlier (event.Seal r v) d l m c same = let call = call_is same in cc
got setting earlier _ d l m c same = cc

-- What an accepted receipt says of its flight

-- the flight can be received: it reached, it is not over, and it goes to this device
pub record IsReceivable (earlier : List Step) (d : ℕ) (f : Flight) : Type 0 where
  pub receiver : f.receiver ≡ d
  pub reaches : f.reaches ≡ true
  pub unused : was_used earlier f.number ≡ false
  pub unswept : was_swept earlier f ≡ false

or_parts_of_four : (a b c d : Bool) → (a || b || c || not d) ≡ false → (a ≡ false) × (b ≡ false) × (c ≡ false) × (d ≡ true)
or_parts_of_four false false false true h = (refl, refl, refl, refl)
or_parts_of_four false false false false h = cc
or_parts_of_four true b c d h = cc
or_parts_of_four false true c d h = cc
or_parts_of_four false false true d h = cc

receivable_by : (earlier : List Step) (r d : ℕ) (o : Option Flight) (f : Flight) → o ≡ Some f → map_or o false (is_spent earlier r) ≡ false
    → map_or o false (λ g. not (same_number (Some d) g.receiver)) ≡ false
    → IsReceivable earlier d f
receivable_by earlier r d None f is spent right = cc
receivable_by earlier r d (Some g) f is spent right =
    let parts : (was_used earlier g.number ≡ false) × (was_swept earlier g ≡ false) × (nat_lt g.last (max r (latest_reference (seen_of earlier))) ≡ false)
    × (g.reaches ≡ true) =
    or_parts_of_four (was_used earlier g.number) (was_swept earlier g) (nat_lt g.last (max r (latest_reference (seen_of earlier)))) g.reaches spent in
    subst (IsReceivable earlier d) (some_is is)
    (record { receiver = sym (eqb-true d g.receiver (not-false (nat_eq d g.receiver) right)); reaches = parts.3; unused = parts.0; unswept = parts.1 })

-- the flight of a receipt: where it was found, and what was seen of it
pub record Taken (p : Moment) (d : ℕ) (l : ℕ) (m : Message) (c : ℕ) : Type 0 where
  pub number : ℕ
  pub flight : Flight
  pub found : flight_numbered p.earlier number ≡ Some flight
  pub taken : p.step.seen.taken ≡ Some flight
  pub receivable : IsReceivable p.earlier d flight
  pub link : flight.link ≡ l
  pub message : flight.message ≡ m
  pub event_is : p.step.seen.event ≡ event.Recv (when p) d c number

pub taken_flight : (setting : Setting) (p : Moment) (d l : ℕ) (m : Message) (c : ℕ) → IsChronicle setting (upto p) → p.step.act ≡ Calls d (Receive l m c)
    → Taken p d l m c
taken_flight setting p d l m c is act =
    let g : Got p.earlier p.step.seen.event d l m c = got setting p.earlier p.step.seen.event d l m c (sym (ap (λ s. s.act) is.1) ∙ act) in
    record {
      number = g.number;
      flight = g.flight;
      found = g.found;
      taken = ap (λ s. s.seen.taken) is.1 ∙ ap (taken_by p.earlier) g.event_is ∙ g.found;
      receivable =
          receivable_by p.earlier g.reference d (flight_numbered p.earlier g.number) g.flight g.found
          (subst (λ e. spent_message p.earlier e ≡ false) g.event_is
          (clear setting p.earlier p.step.seen.event is.2).message_open)
          (subst (λ e. wrong_device p.earlier e ≡ false) g.event_is
          (clear setting p.earlier p.step.seen.event is.2).right_device);
      link = g.link;
      message = g.message;
      event_is = g.event_is ∙ ap (λ r. event.Recv r d c g.number) (sym (ap reference_of g.event_is));
    }

-- The hop of an accepted receipt

any_fails : {A : Type 0} (test : A → Bool) (x : A) (xs : List A) → Among x xs → list_any test xs ≡ false → test x ≡ false
any_fails test x xs (first {xs = ys}) none = (or_parts (test x) (list_any test ys) none).0
any_fails test x xs (later {y = y} {xs = ys} a) none = any_fails test x ys a ((or_parts (test y) (list_any test ys) none).1)

-- where a received flight came from
pub record CameFrom (setting : Setting) (to : Moment) (d : ℕ) (f : Flight) : Type 0 where
  pub from : Moment
  pub sends : Sends from f.sender f.message
  pub among : Among f from.step.sent
  pub sent_at : f.sent_at ≡ when from
  pub before : IsBefore from to
  pub link_whole : link_has_failed (seen_of from.earlier) f.link ≡ false
  pub receiver_up : is_up (seen_of from.earlier) d ≡ true
  pub unharmed : (q : Moment) → IsIn q to.earlier → IsBefore from q
      → (fails (thing.Link f.link) q.step.seen.event ≡ false) × (fails (thing.Device d) q.step.seen.event ≡ false)

reached : (setting : Setting) (steps : List Step) (r x : ℕ) (m : Message) (ends : List End) (f : Flight) → IsOver setting steps r x m ends f → f.reaches ≡ true
    → (f.sender ≡ x) × (f.sent_at ≡ r) × (link_has_failed (seen_of steps) f.link ≡ false) × (is_up (seen_of steps) f.receiver ≡ true)
reached setting steps r x m ends f over reaches =
    let parts : (not (link_has_failed (seen_of steps) over.end_.link) ≡ true) × (is_up (seen_of steps) over.end_.device ≡ true) =
    and_parts (not (link_has_failed (seen_of steps) over.end_.link)) (is_up (seen_of steps) over.end_.device) (sym (ap (λ g. g.reaches) over.is) ∙ reaches) in (
      ap (λ g. g.sender) over.is,
      ap (λ g. g.sent_at) over.is,
      subst (λ l. link_has_failed (seen_of steps) l ≡ false) (sym (ap (λ g. g.link) over.is))
          (not-true (link_has_failed (seen_of steps) over.end_.link) parts.0),
      subst (λ v. is_up (seen_of steps) v ≡ true) (sym (ap (λ g. g.receiver) over.is)) parts.1,
    )

pub came_from : (setting : Setting) (to : Moment) (d n : ℕ) (f : Flight) → IsChronicle setting (upto to) → flight_numbered to.earlier n ≡ Some f
    → IsReceivable to.earlier d f → CameFrom setting to d f
came_from setting to d n f is found receivable =
    let at : SentAt to.earlier n f = sent_where to.earlier n f found in
    let from : Moment = at.moment in
    let by : IsSentBy setting from.earlier (when from) from.step.act f = moment_sends setting from f (tail_chronicle setting at.is_in is.0) at.among in
    let reach : (f.sender ≡ by.device) × (f.sent_at ≡ when from) × (link_has_failed (seen_of from.earlier) f.link ≡ false)
    × (is_up (seen_of from.earlier) f.receiver ≡ true) =
    reached setting from.earlier (when from) by.device f.message
    (ends_at setting from.earlier (epoch_now (after by.past by.call)) by.device) f by.over receivable.reaches in
    record {
      from = from;
      sends = subst (λ x. Sends from x f.message) (sym reach.0)
          (record { past = by.past; call = by.call; there = by.there; act = by.act_is; effect = by.effect });
      among = at.among;
      sent_at = reach.1;
      before = at.is_in;
      link_whole = reach.2;
      receiver_up = subst (λ v. is_up (seen_of from.earlier) v ≡ true) receivable.receiver reach.3;
      unharmed = λ q t u. harmless q
          (any_fails (λ s. fails (thing.Link f.link) s.seen.event || fails (thing.Device f.receiver) s.seen.event) q.step (since_sending to.earlier f.number)
          (subst (λ k. Among q.step (since_sending to.earlier k)) (sym at.number) (at.since q t u)) receivable.unswept);
    }
  where
    harmless : (q : Moment) → (fails (thing.Link f.link) q.step.seen.event || fails (thing.Device f.receiver) q.step.seen.event) ≡ false
        → (fails (thing.Link f.link) q.step.seen.event ≡ false) × (fails (thing.Device d) q.step.seen.event ≡ false)
    harmless q none =
        let parts : (fails (thing.Link f.link) q.step.seen.event ≡ false) × (fails (thing.Device f.receiver) q.step.seen.event ≡ false) =
        or_parts (fails (thing.Link f.link) q.step.seen.event) (fails (thing.Device f.receiver) q.step.seen.event) none in
        (parts.0, subst (λ v. fails (thing.Device v) q.step.seen.event ≡ false) receivable.receiver parts.1)

-- what is told of the device that accepts it
pub receipt_of : (setting : Setting) (p : Moment) (d l : ℕ) (m : Message) (c : ℕ) (past : Past) (edge : Edge) (t : Taken p d l m c)
    → p.step.act ≡ Calls d (Receive l m c) → past_in p.earlier d ≡ Some past
    → accepted_over (transition_of past (Receive l m c)) ≡ Some edge → Receipt p d t.flight
receipt_of setting p d l m c past edge t act there over =
    let call : Receive l m c ≡ Receive t.flight.link t.flight.message c =
    ap (λ k. Receive k m c) (sym t.link) ∙ ap (λ n. Receive t.flight.link n c) (sym t.message) in
    let same : accepted_over (transition_of past (Receive t.flight.link t.flight.message c)) ≡ Some edge =
    subst (λ k. accepted_over (transition_of past k) ≡ Some edge) call over in
    let why = accepted_why past t.flight.link t.flight.message c edge same in
    record {
      past = past;
      counter = c;
      edge = edge;
      there = there;
      act = act ∙ ap (Calls d) call;
      taken = t.taken;
      over = same;
      accepts = why.0;
      link = why.1;
    }

-- the hop, and what its sender sent
pub record Hopped (setting : Setting) (m : Message) (to : Moment) (d : ℕ) : Type 0 where
  pub from : Moment
  pub x : ℕ
  pub message : Message
  pub sends : Sends from x message
  pub stamp : message.stamp ≡ m.stamp
  pub epoch : message.epoch ≡ m.epoch
  pub hop : Hop setting m.stamp m.epoch from x to d

pub hop_of : (setting : Setting) (p : Moment) (steps : List Step) (d l : ℕ) (m : Message) (c : ℕ) (past : Past) (edge : Edge) → IsIn p steps
    → IsChronicle setting steps → delay_holds setting (seen_of steps) ≡ true
    → p.step.act ≡ Calls d (Receive l m c) → past_in p.earlier d ≡ Some past → accepted_over (transition_of past (Receive l m c)) ≡ Some edge
    → Hopped setting m p d
hop_of setting p steps d l m c past edge here is delay act there over =
    let t : Taken p d l m c = taken_flight setting p d l m c (tail_chronicle setting here is) act in
    let came : CameFrom setting p d t.flight = came_from setting p d t.number t.flight (tail_chronicle setting here is) t.found t.receivable in
    record {
      from = came.from;
      x = t.flight.sender;
      message = t.flight.message;
      sends = came.sends;
      stamp = ap (λ n. n.stamp) t.message;
      epoch = ap (λ n. n.epoch) t.message;
      hop =
          record {
            flight = t.flight;
            sender = refl;
            receiver = t.receivable.receiver;
            carries = ap (λ n. n.stamp) t.message;
            epoch_is = ap (λ n. n.epoch) t.message;
            sent = came.among;
            sent_at = came.sent_at;
            before = came.before;
            receipt = receipt_of setting p d l m c past edge t act there over;
            in_time = subst (λ o. map_or o true (is_in_time setting (when p)) ≡ true) t.taken (moment_arrives setting p steps here delay);
            link_whole = came.link_whole;
            receiver_up = came.receiver_up;
            unharmed = came.unharmed;
          };
    }
