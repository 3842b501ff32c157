-- A clean round goes along an open way: one hop first, then hop by hop along the whole of it.
use Rattle.std.specs.Prelude.{◌≡◌, ℕ, suc, ◌+◌, ◌*◌, ◌<◌, ◌≤◌, Bool, true, false, ◌&&◌, not, List, [], ◌∷◌, length, filter, nat_eq, Some, ◌⊎◌, refl}
use Rattle.std.proofs.Common.{arith, sym, ◌∙◌, ap, subst, inl, inr}
use Rattle.sd_num.specs.Lists.{map_or}
use Rattle.sd_plan.specs.topo.Network.{greatest_delay}
use Rattle.sd_plan.specs.declared.End.{End}
use Rattle.sd_device.specs.declared.msg.Stamp.{Stamp}
use Rattle.sd_device.specs.declared.msg.Message.{Message}
use Rattle.sd_device.specs.declared.msg.Flight.{Flight}
use Rattle.sd_device.specs.Calls.{Receive}
use Rattle.sd_device.specs.Words.{after, effect_of, epoch_now}
use Rattle.sd_sched.specs.declared.Event.{Event}
use Rattle.sd_sched.specs.declared.Event.TheVariants as event
use Rattle.sd_history.specs.World.{Setting, is_up, link_has_failed, latest_reference}
use Rattle.sd_history.specs.Steps.{Calls, Passes, tells_nothing, tells_called, Step, seen_of, flights, flight_numbered, flight_count, flight_to, flights_to, ends_at, flights_by, flights_of, act_by, taken_by}
use Rattle.sd_history.specs.Chronicle.{answers_by, told_by}
use Rattle.sd_history.specs.Premises as premises
use Rattle.sd_history.specs.Premises.{delay_holds, is_in_time, is_overdue}
use Rattle.sd_history.proofs.Among.{Among, first, later, found, on_right}
use Rattle.sd_history.proofs.Filters.{filter_in}
use Rattle.sd_history.proofs.Given.{some_is}
use Rattle.sd_history.proofs.flights.Sending.{counted}
use Rattle.sd_history.specs.Rounds.{is_spoiled}
use Rattle.sd_safety.specs.messages.Moments.{Tail, whole, behind, IsChronicle, Moment, upto, when, IsIn, IsBefore, Sends}
use Rattle.sd_safety.specs.messages.Rounds.{Takes, Hears, HeardSince, IsOpen, AreOpen, Flows, arrived, heard}
use Rattle.sd_safety.proofs.messages.Tails.{Order, before, same, after as comes_after, ordered, tail_trans, tail_chronicle, rest_of, moment_arrives, no_later, step_time, before_is_earlier}
use Rattle.sd_safety.proofs.messages.Sending.{sends_own}
use Rattle.sd_safety.proofs.messages.Receipts.{Taken, taken_flight}
use Rattle.sd_safety.proofs.messages.Overlap.{delay_within, in_time_most}
use Rattle.sd_safety.proofs.messages.Numbers.{one_flight, numbers_within, newly_numbered, sent_at_moment, on_left}
use Rattle.sd_safety.proofs.messages.Spoils.{clean_flight, Overdue, first_overdue, overdue_now, before_due, Received, clean_is_received}
use Rattle.sd_safety.proofs.messages.Hearing.{heard_at}

-- What a sender's step sends

end_flight : (setting : Setting) (steps : List Step) (r d : ℕ) (m : Message) (n : ℕ) (ends : List End) (e : End) → Among e ends
    → (number : ℕ) × Among (flight_to setting steps r d m number e) (flights_to setting steps r d m n ends)
end_flight setting steps r d m n (x ∷ ends) e first = (n, first)
end_flight setting steps r d m n (x ∷ ends) e (later a) = let rest = end_flight setting steps r d m (n + 1) ends e a in (rest.0, later rest.1)
end_flight setting steps r d m n [] e a = elim a [ ]

pub sent_is : (setting : Setting) (p : Moment) (x : ℕ) (m : Message) → IsChronicle setting (upto p) → (s : Sends p x m)
    → p.step.sent ≡ flights_to setting p.earlier (when p) x m (flight_count p.earlier + 1) (ends_at setting p.earlier (epoch_now (after s.past s.call)) x)
sent_is setting p x m is s =
    ap (λ y. y.sent) is.1
    ∙ ap (λ act. flights_of setting p.earlier (when p) act (told_by p.earlier act)) (sym (ap (λ y. y.act) is.1) ∙ s.act)
    ∙ ap (λ o. map_or (map_or o tells_nothing (λ past. tells_called (effect_of past s.call) (answers_by (after past s.call)))).answers []
    (λ a. flights_by setting p.earlier (when p) x a.epoch
    (map_or o tells_nothing (λ past. tells_called (effect_of past s.call) (answers_by (after past s.call)))).effect)) s.there
    ∙ ap (flights_by setting p.earlier (when p) x (epoch_now (after s.past s.call))) s.effect

pub seen_sent : (setting : Setting) (p : Moment) → IsChronicle setting (upto p) → p.step.seen.sent ≡ filter (λ f. f.reaches) p.step.sent
seen_sent setting p is = ap (λ y. y.seen.sent) is.1 ∙ ap (filter (λ f. f.reaches)) (sym (ap (λ y. y.sent) is.1))

seen_in : (p : Moment) (steps : List Step) (f : Flight) → IsIn p steps → Among f p.step.seen.sent → Among f (premises.reaching_flights (seen_of steps))
seen_in p steps f whole a = on_left p.step.seen.sent (premises.reaching_flights (seen_of p.earlier)) a
seen_in p (s ∷ steps) f (behind t) a = on_right s.seen.sent (seen_in p steps f t a)

-- the flight over an end that the sender has, where the link is whole and the device up
record Launched (setting : Setting) (p : Moment) (x : ℕ) (m : Message) (e : End) : Type 0 where
  number : ℕ
  sent : Among (flight_to setting p.earlier (when p) x m number e) p.step.sent
  seen : Among (flight_to setting p.earlier (when p) x m number e) p.step.seen.sent

both_true : (a b : Bool) → a ≡ false → b ≡ true → (not a && b) ≡ true
both_true false true one two = refl
both_true false false one two = cc
both_true true b one two = cc

launched : (setting : Setting) (p : Moment) (x : ℕ) (m : Message) (e : End) → IsChronicle setting (upto p) → Sends p x m
    → Among e (ends_at setting p.earlier m.epoch x)
    → link_has_failed (seen_of p.earlier) e.link ≡ false → is_up (seen_of p.earlier) e.device ≡ true → Launched setting p x m e
launched setting p x m e is s a link up =
    let own = sends_own s.past s.call m s.effect in
    let there : Among e (ends_at setting p.earlier (epoch_now (after s.past s.call)) x) =
    subst (λ epoch. Among e (ends_at setting p.earlier epoch x)) own.1 a in
    let f = end_flight setting p.earlier (when p) x m (flight_count p.earlier + 1) (ends_at setting p.earlier (epoch_now (after s.past s.call)) x) e there in
    let sent : Among (flight_to setting p.earlier (when p) x m f.0 e) p.step.sent =
    subst (λ fs. Among (flight_to setting p.earlier (when p) x m f.0 e) fs) (sym (sent_is setting p x m is s)) f.1 in
    record {
      number = f.0;
      sent = sent;
      seen =
          subst (λ fs. Among (flight_to setting p.earlier (when p) x m f.0 e) fs) (sym (seen_sent setting p is))
          (filter_in (λ g. g.reaches) (flight_to setting p.earlier (when p) x m f.0 e) p.step.sent sent
          (both_true (link_has_failed (seen_of p.earlier) e.link) (is_up (seen_of p.earlier) e.device) link up));
    }

-- Times and places

pub tail_rest : {A : Type 0} {x y : A} {xs ys : List A} → Tail (x ∷ xs) (y ∷ ys) → Tail xs ys
tail_rest whole = whole
tail_rest (behind t) = rest_of t

counts_rise : (older steps : List Step) → Tail older steps → flight_count older ≤ flight_count steps
counts_rise older steps whole = omega arith
counts_rise older (s ∷ steps) (behind t) = let rest = counts_rise older steps t in omega (arith, rest, counted s steps)

-- before a moment no event is later than before a later one
latest_before : (setting : Setting) (q p : Moment) → IsChronicle setting (upto p) → IsIn q (upto p)
    → latest_reference (seen_of q.earlier) ≤ latest_reference (seen_of p.earlier)
latest_before setting q p is whole = omega arith
latest_before setting q p is (behind t) =
    let one = step_time setting q.step q.earlier (tail_chronicle setting t is.0) in
    let two = no_later setting q p.earlier is.0 t in
    omega (arith, one, two)

overdue_by : (steps : List Step) (f : Flight) → f.due < latest_reference (seen_of steps) → is_overdue (seen_of steps) f ≡ true
overdue_by [] f less = absurd (omega (arith, less))
overdue_by (s ∷ earlier) f less = overdue_now s earlier f less

inside : (setting : Setting) (p q : Moment) → IsChronicle setting (upto p) → when p < when q → Order p q → IsIn p (upto q)
inside setting p q is less (before t) = behind t
inside setting p q is less (same equal) = subst (λ steps. Tail (upto p) steps) equal whole
inside setting p q is less (comes_after t) = let late = before_is_earlier setting q p is t in absurd (omega (arith, less, late))

-- who took a flight with this number took this flight, and later
number_here : (setting : Setting) (p q : Moment) (f : Flight) → IsChronicle setting (upto p) → Among f p.step.sent → Among f (flights q.earlier)
    → IsIn q (upto p) → ⊥
number_here setting p q f is sent a t =
    let new = newly_numbered setting p f is sent in
    let old = numbers_within setting q.earlier f (tail_chronicle setting (tail_rest t) is.0) a in
    let rise = counts_rise q.earlier p.earlier (tail_rest t) in
    absurd (omega (arith, new, old, rise))

sent_before : (setting : Setting) (p q : Moment) (f : Flight) → IsChronicle setting (upto p) → Among f p.step.sent → Among f (flights q.earlier) → Order p q
    → IsBefore p q
sent_before setting p q f is sent a (before t) = t
sent_before setting p q f is sent a (same equal) = absurd (number_here setting p q f is sent a (subst (λ steps. Tail steps (upto p)) equal whole))
sent_before setting p q f is sent a (comes_after t) = absurd (number_here setting p q f is sent a (behind t))

-- What an event took

record Took (earlier : List Step) (e : Event) (g : Flight) : Type 0 where
  reference : ℕ
  device : ℕ
  counter : ℕ
  number : ℕ
  event_is : e ≡ event.Recv reference device counter number
  found_ : flight_numbered earlier number ≡ Some g

took : (earlier : List Step) (e : Event) (g : Flight) → taken_by earlier e ≡ Some g → Took earlier e g
took earlier (event.Recv r v k n) g is = record { reference = r; device = v; counter = k; number = n; event_is = refl; found_ = is }
took earlier _ g is = cc

-- a flight that was taken was sent before, and its receiver received it
pub record Delivered (q : Moment) (g : Flight) : Type 0 where
  pub counter : ℕ
  pub act : q.step.act ≡ Calls g.receiver (Receive g.link g.message counter)
  pub among : Among g (flights q.earlier)

pub delivered : (setting : Setting) (q : Moment) (g : Flight) → IsChronicle setting (upto q) → q.step.seen.taken ≡ Some g → Delivered q g
delivered setting q g is taken =
    let t : Took q.earlier q.step.seen.event g = took q.earlier q.step.seen.event g (sym (ap (λ s. s.seen.taken) is.1) ∙ taken) in
    let act : q.step.act ≡ Calls t.device (Receive g.link g.message t.counter) =
    ap (λ s. s.act) is.1 ∙ ap (act_by setting q.earlier) t.event_is
    ∙ ap (λ o. map_or o Passes (λ f. Calls t.device (Receive f.link f.message t.counter))) t.found_ in
    let receipt : Taken q t.device g.link g.message t.counter = taken_flight setting q t.device g.link g.message t.counter is act in
    let one : receipt.flight ≡ g = some_is (sym receipt.taken ∙ taken) in
    let device : t.device ≡ g.receiver = sym receipt.receivable.receiver ∙ ap (λ f. f.receiver) one in
    record {
      counter = t.counter;
      act = act ∙ ap (λ d. Calls d (Receive g.link g.message t.counter)) device;
      among = found (λ f. nat_eq f.number t.number) g (flights q.earlier) t.found_;
    }

-- One hop

-- what the next device hears
pub record Next (setting : Setting) (steps : List Step) (stamp : Stamp) (epoch : ℕ) (start from : Moment) (e : End) : Type 0 where
  pub moment : Moment
  pub is_in : IsIn moment steps
  pub since : IsBefore start moment
  pub in_time : when moment ≤ when from + greatest_delay setting.net
  pub link : ℕ
  pub hears : Hears stamp epoch moment e.device link

flights_rise : (older steps : List Step) (f : Flight) → Tail older steps → Among f (flights older) → Among f (flights steps)
flights_rise older steps f whole a = a
flights_rise older (s ∷ steps) f (behind t) a = on_right s.sent (flights_rise older steps f t a)

-- the steps with what is taken for granted of them: the round is not spoiled, and some event lies past the limit
pub record IsClean (setting : Setting) (steps : List Step) (stamp : Stamp) (limit : ℕ) : Type 0 where
  pub chronicle_ : IsChronicle setting steps
  pub delay : delay_holds setting (seen_of steps) ≡ true
  pub clean : is_spoiled (seen_of steps) stamp.term stamp.round ≡ false
  pub past : limit < latest_reference (seen_of steps)

-- sums of this many delays
first_fits : (a time n D limit : ℕ) → a ≤ time → time + suc n * D ≤ limit → a + D ≤ limit
first_fits a time n D limit by fits = omega (arith, by, fits)

rest_fits : (time n D limit : ℕ) → time + suc n * D ≤ limit → (time + D) + n * D ≤ limit
rest_fits time n D limit fits = omega (arith, fits)

here_fits : (time b n D : ℕ) → b ≤ time + D → b ≤ time + suc n * D
here_fits time b n D next = omega (arith, next)

there_fits : (time b n D : ℕ) → b ≤ (time + D) + n * D → b ≤ time + suc n * D
there_fits time b n D next = omega (arith, next)

module _ (setting : Setting) (steps : List Step) (stamp : Stamp) (epoch : ℕ) (start : Moment) (limit : ℕ) (are : IsClean setting steps stamp limit)
    (from : Moment) (here : IsIn from steps) (started : IsIn start (upto from))
    (fits : when from + greatest_delay setting.net ≤ limit) (x : ℕ) (m : Message) (sends : Sends from x m) (carries : m.stamp ≡ stamp)
    (epoch_is : m.epoch ≡ epoch) (e : End) (open_ : IsOpen setting steps stamp epoch start limit x e) where
  from_is : IsChronicle setting (upto from)
  from_is = tail_chronicle setting here are.chronicle_

  D : ℕ
  D = greatest_delay setting.net

  soon : when from ≤ limit
  soon = omega (arith, fits)

  way : Among e (ends_at setting from.earlier epoch x) × (link_has_failed (seen_of from.earlier) e.link ≡ false)
      × (is_up (seen_of from.earlier) e.device ≡ true)
  way = open_.follows from here started soon m sends carries epoch_is

  l : Launched setting from x m e
  l = launched setting from x m e from_is sends (subst (λ n. Among e (ends_at setting from.earlier n x)) (sym epoch_is) way.0) way.1 way.2

  abbrev f : Flight
  f = flight_to setting from.earlier (when from) x m l.number e

  due_most : f.due ≤ when from + greatest_delay setting.net
  due_most = let within = delay_within setting.net e.link e.device in omega (arith, within)

  due_least : when from ≤ f.due
  due_least = omega arith

  over : is_overdue (seen_of steps) f ≡ true
  over = let late = are.past in overdue_by steps f (omega (arith, due_most, fits, late))

  o : Overdue steps f
  o = first_overdue steps f over

  o_is : IsChronicle setting (upto o.moment)
  o_is = tail_chronicle setting o.is_in are.chronicle_

  inside_ : IsIn from (upto o.moment)
  inside_ = let late = o.past in inside setting from o.moment from_is (omega (arith, due_least, late)) (ordered steps from o.moment here o.is_in)

  bound : (q' : Moment) → IsIn q' (upto o.moment) → latest_reference (seen_of q'.earlier) ≤ limit
  bound q' t =
      let one = latest_before setting q' o.moment o_is t in
      let two = before_due o.moment.earlier f o.not_before in
      omega (arith, one, two, due_most, fits)

  r : Received (upto o.moment) f.number
  r =
      clean_is_received steps from f here l.seen over (clean_flight (seen_of steps) f stamp (seen_in from steps f here l.seen) carries are.clean) o inside_
      (λ q' t u. open_.lasts q' (tail_trans t o.is_in) (tail_trans started u) (bound q' t))

  abbrev q : Moment
  q = r.moment

  q_in : IsIn q steps
  q_in = tail_trans r.is_in o.is_in

  q_is : IsChronicle setting (upto q)
  q_is = tail_chronicle setting q_in are.chronicle_

  d : Delivered q r.flight
  d = delivered setting q r.flight q_is r.taken

  one : r.flight ≡ f
  one = one_flight setting steps r.flight f are.chronicle_ (flights_rise q.earlier steps r.flight (rest_of q_in) d.among)
      (sent_at_moment from steps f here l.sent) r.number

  act : q.step.act ≡ Calls e.device (Receive e.link m d.counter)
  act = subst (λ (g : Flight). q.step.act ≡ Calls g.receiver (Receive g.link g.message d.counter)) one d.act

  after_from : IsBefore from q
  after_from = sent_before setting from q f from_is l.sent (subst (λ g. Among g (flights q.earlier)) one d.among) (ordered steps from q here q_in)

  q_time : when q ≤ when from + greatest_delay setting.net
  q_time =
      let timely : is_in_time setting (when q) f ≡ true =
      subst (λ o'. map_or o' true (is_in_time setting (when q)) ≡ true) (r.taken ∙ ap Some one) (moment_arrives setting q steps q_in are.delay) in
      let most = in_time_most setting (when q) f timely in
      omega (arith, most, due_most)

  takes : Takes q e.device e.link m d.counter ⊎ HeardSince stamp epoch start q e.device
  takes = open_.accepts q q_in (tail_trans started after_from) (omega (arith, q_time, fits)) m d.counter carries epoch_is act

  next_by : Takes q e.device e.link m d.counter ⊎ HeardSince stamp epoch start q e.device → Next setting steps stamp epoch start from e
  next_by (inl now) =
      record {
        moment = q;
        is_in = q_in;
        since = tail_trans started after_from;
        in_time = q_time;
        link = e.link;
        hears = subst (λ n. Hears stamp n q e.device e.link) epoch_is
            (subst (λ s. Hears s m.epoch q e.device e.link) carries (heard_at q e.device e.link m d.counter act now));
      }
  next_by (inr old) =
      let less = before_is_earlier setting old.moment q q_is old.before in
      record {
        moment = old.moment;
        is_in = tail_trans old.before (rest_of q_in);
        since = old.since;
        in_time = omega (arith, less, q_time);
        link = old.link;
        hears = old.hears;
      }

  pub hop_on : Next setting steps stamp epoch start from e
  hop_on = next_by takes

-- Lemma 11: along a whole way

pub flows : (setting : Setting) (steps : List Step) (stamp : Stamp) (epoch : ℕ) (start : Moment) (limit : ℕ) → IsClean setting steps stamp limit
    → (way : List End) (from : Moment) (time : ℕ) → IsIn from steps → IsIn start (upto from)
    → when from ≤ time → time + length way * greatest_delay setting.net ≤ limit → (x : ℕ) (m : Message) → Sends from x m → m.stamp ≡ stamp → m.epoch ≡ epoch
    → AreOpen setting steps stamp epoch start limit x way
    → Flows steps stamp epoch start (greatest_delay setting.net) time way
flows setting steps stamp epoch start limit are [] from time here started by fits x m sends carries epoch_is open_ = arrived
flows setting steps stamp epoch start limit are (e ∷ way) from time here started by fits x m sends carries epoch_is open_ =
    let next = hop_on setting steps stamp epoch start limit are from here started
    (first_fits (when from) time (length way) (greatest_delay setting.net) limit by fits) x m sends carries epoch_is e open_.0 in
    let timely = next.in_time in
    let next_by_ : when next.moment ≤ time + greatest_delay setting.net = omega (arith, timely, by) in
    heard next.moment next.is_in next.since next_by_ next.link next.hears
    (flows setting steps stamp epoch start limit are way next.moment (time + greatest_delay setting.net) next.is_in (behind next.since) next_by_
    (rest_fits time (length way) (greatest_delay setting.net) limit fits) e.device next.hears.sent next.hears.sends next.hears.sent_carries
    next.hears.sent_epoch open_.1)

-- each device of the way heard the round since the first moment, and when at the latest
pub record HeardBy (steps : List Step) (stamp : Stamp) (epoch : ℕ) (start : Moment) (latest_ d : ℕ) : Type 0 where
  pub moment : Moment
  pub is_in : IsIn moment steps
  pub since : IsBefore start moment
  pub in_time : when moment ≤ latest_
  pub link : ℕ
  pub hears : Hears stamp epoch moment d link

pub each_heard : (steps : List Step) (stamp : Stamp) (epoch : ℕ) (start : Moment) (most time : ℕ) (way : List End) → Flows steps stamp epoch start most time way
    → (e : End) → Among e way
    → HeardBy steps stamp epoch start (time + length way * most) e.device
each_heard steps stamp epoch start most time (x ∷ way) (heard q within since by link hears rest) e first =
    record { moment = q; is_in = within; since = since; in_time = here_fits time (when q) (length way) most by; link = link; hears = hears }
each_heard steps stamp epoch start most time (x ∷ way) (heard q within since by link hears rest) e (later a) =
    let found_ = each_heard steps stamp epoch start most (time + most) way rest e a in
    record {
      moment = found_.moment;
      is_in = found_.is_in;
      since = found_.since;
      in_time = there_fits time (when found_.moment) (length way) most found_.in_time;
      link = found_.link;
      hears = found_.hears;
    }
each_heard steps stamp epoch start most time [] flow e a = elim a [ ]
