-- A calm time runs on: at each multiple of the tick all live devices tick, and between them each message is received when it is due.
use Rattle.std.specs.Prelude.{◌≡◌, ℕ, zero, suc, ◌+◌, ◌-◌, ◌*◌, ◌^◌, ◌<◌, ◌≤◌, Bool, true, false, ◌&&◌, ◌||◌, not, List, [], ◌∷◌, ◌⊎◌, length, nat_eq, nat_lt, Some, None, refl, if◌then◌else◌}
use Rattle.std.proofs.Common.{sym, ◌∙◌, subst, arith, inl, inr}
use Rattle.std.proofs.lemmas.Bool.{and_parts, not-true, cases_lt, cases_eq, eqb-false, lt-ltb, le-ltb, both_ways}
use Rattle.sd_num.specs.Lists.{map_or}
use Rattle.sd_plan.specs.topo.Network.{Network}
use Rattle.sd_plan.specs.topo.Limits.{IsNetwork}
use Rattle.sd_plan.specs.declared.topo.Thing.{Thing}
use Rattle.sd_plan.specs.domain.Domains.{domains}
use Rattle.sd_plan.specs.declared.domain.DomainId.{DomainId}
use Rattle.sd_plan.specs.declared.Plan.{Plan}
use Rattle.sd_device.specs.declared.msg.Flight.{Flight}
use Rattle.sd_device.specs.Calls.{Past, Tick}
use Rattle.sd_sched.specs.declared.Event.{Event}
use Rattle.sd_sched.specs.declared.Event.TheVariants as event
use Rattle.sd_history.specs.World.{Setting, alone}
use Rattle.sd_history.specs.Steps.{Step, seen_of, flights, flight_numbered}
use Rattle.sd_history.specs.Chronicle.{chronicle}
use Rattle.sd_history.specs.Accepted.{AreSteps}
use Rattle.sd_history.specs.Refusals.{was_used}
use Rattle.sd_history.specs.Premises.{latest_tick}
use Rattle.sd_history.proofs.Among.{Among, first, later}
use Rattle.sd_history.proofs.Filters.{kept_among}
use Rattle.sd_history.proofs.Accepting.{history_is_accepted}
use Rattle.sd_history.proofs.flights.Numbers.{numbered_itself}
use Rattle.sd_beside.proofs.needed.Elements.{passes_kept, among_kept}
use Rattle.sd_beside.proofs.needed.Worlds.{is_live, OnTime, tick_later}
use Rattle.sd_beside.proofs.needed.Allowed.{live_parts}
use Rattle.sd_beside.proofs.needed.Air.{NoneDue}
use Rattle.sd_beside.proofs.needed.Going.{Good, tick_goes, receipt_goes}
use Rattle.sd_beside.proofs.needed.Hush.{IsShut, Hush, Idles, Silent, hush_tick, hush_receipt}
use Rattle.sd_beside.proofs.needed.Budget.{Stamps, pending, budget, tick_stamps, receipt_stamps}

-- The first that is due

record IsFirst (fs : List Flight) : Type 0 where
  pub flight : Flight
  pub among : Among flight fs
  pub least : (g : Flight) → Among g fs → flight.due ≤ g.due

first_due : (fs : List Flight) → (fs ≡ []) ⊎ IsFirst fs
first_due [] = inl refl
first_due (f ∷ fs) = inr (with_one f fs (first_due fs))
  where
    alone_is : (f : Flight) (fs : List Flight) → fs ≡ [] → (g : Flight) → Among g (f ∷ fs) → f.due ≤ g.due
    alone_is f fs none g first = omega arith
    alone_is f fs none g (later a) = absurd (gone g (subst (λ (xs : List Flight). Among g xs) none a))
      where
        gone : (g : Flight) → Among g [] → ⊥
        gone g b = elim b [ ]

    here : (f : Flight) (fs : List Flight) (h : IsFirst fs) → f.due ≤ h.flight.due → (g : Flight) → Among g (f ∷ fs) → f.due ≤ g.due
    here f fs h less g first = omega arith
    here f fs h less g (later a) = let least = h.least g a in omega (arith, least, less)

    there : (f : Flight) (fs : List Flight) (h : IsFirst fs) → h.flight.due < f.due → (g : Flight) → Among g (f ∷ fs) → h.flight.due ≤ g.due
    there f fs h less g first = omega (arith, less)
    there f fs h less g (later a) = h.least g a

    with_one : (f : Flight) (fs : List Flight) → (fs ≡ []) ⊎ IsFirst fs → IsFirst (f ∷ fs)
    with_one f fs (inl none) = record { flight = f; among = first; least = alone_is f fs none }
    with_one f fs (inr h) = elim (cases_lt h.flight.due f.due) [
      | inl less ↦ record { flight = h.flight; among = later h.among; least = there f fs h less }
      | inr more ↦ record { flight = f; among = first; least = here f fs h more }
    ]

has_length : {A : Type 0} (xs : List A) (x : A) → Among x xs → 1 ≤ length xs
has_length [] x a = elim a [ ]
has_length (y ∷ ys) x a = omega arith

-- Running

module _ (net : Network) (plan : Plan) (dom : DomainId) (down : Thing → Bool) (zone : ℕ → Bool) (mute : ℕ → ℕ → Type 0) (last : ℕ) (law : IsNetwork net)
    (among : Among dom (domains net))
    (shut : IsShut net plan down zone mute) (state : ℕ → ℕ → Past → Type 0) (idles : Idles net.params.tick last zone mute state) where
  abbrev setting : Setting
  setting = alone net plan

  abbrev steps : List Event → List Step
  steps history = chronicle setting history

  abbrev tick : ℕ
  tick = net.params.tick

  -- more than each device ticks
  abbrev m : ℕ
  m = last + 1

  -- how often a device ticked before its k-th multiple of the tick, where the devices from c on ticked there
  abbrev pub made : ℕ → ℕ → ℕ → ℕ
  made k c z = if nat_lt z c then k - 1 else k

  pub made_before : (k c z : ℕ) → z < c → made k c z ≡ k - 1
  made_before k c z less = rw (lt-ltb z c less) refl

  pub made_now : (k c z : ℕ) → c ≤ z → made k c z ≡ k
  made_now k c z more = rw (le-ltb z c more) refl

  made_other : (k d z : ℕ) → (d ≡ z → ⊥) → made k (suc d) z ≡ made k d z
  made_other k d z other =
      elim (cases_lt z d) [
        | inl less ↦ (made_before k (suc d) z (omega (arith, less)) ∙ sym (made_before k d z less))
        | inr more ↦ (made_now k (suc d) z (omega (arith, more, other)) ∙ sym (made_now k d z more))
      ]

  pub hush_as : (a b : ℕ → ℕ) (st : List Step) → ((z : ℕ) → zone z ≡ true → a z ≡ b z) → Hush zone mute (λ z. state (a z) z) st
      → Hush zone mute (λ z. state (b z) z) st
  hush_as a b st same hush =
      record {
        still = λ z in_. (let old = hush.still z in_ in
            record { past = old.past; is = old.is; still = subst (λ (i : ℕ). state i z old.past) (same z in_) old.still });
        silent = hush.silent;
      }

  -- a good history before its k-th multiple of the tick: the devices below c have still to tick there, the zone is as it should be, and there is room for the
  -- messages that can come and for this many more ticks
  pub record Running (k c left : ℕ) : Type 0 where
    pub history : List Event
    pub reference : ℕ
    pub good : Good net plan dom down history reference
    pub before : reference ≤ k * tick
    pub ticked : (d : ℕ) → is_live net plan down d ≡ true → k * tick ≤ latest_tick (seen_of (steps history)) d + tick
    pub done : (d : ℕ) → is_live net plan down d ≡ true → c ≤ d → k * tick ≤ latest_tick (seen_of (steps history)) d
    pub hush : Hush zone mute (λ z. state (made k c z) z) (steps history)
    pub stamps : Stamps net plan down k c (steps history)
    pub room : length history + budget net plan m (steps history) + left ≤ 2 ^ 26

  -- and all is received that is due before
  pub record Clear (k c left : ℕ) : Type 0 where
    pub running : Running k c left
    pub none : NoneDue (steps running.history) (k * tick)

  fewer_due : (k c c' : ℕ) → c' ≤ c → (st : List Step) → Stamps net plan down k c st → Stamps net plan down k c' st
  fewer_due k c c' fewer st stamps =
      record {
        there = stamps.there;
        plain = stamps.plain;
        term = stamps.term;
        round = stamps.round;
        due = λ d past is acts below_. stamps.due d past is acts (omega (arith, below_, fewer));
        sent_term = stamps.sent_term;
        sent_round = stamps.sent_round;
      }

  more_rounds : (k c : ℕ) (st : List Step) → Stamps net plan down k 0 st → Stamps net plan down (suc k) c st
  more_rounds k c st stamps =
      record {
        there = stamps.there;
        plain = stamps.plain;
        term = stamps.term;
        round = λ d past is. (let old = stamps.round d past is in omega (arith, old));
        due = λ d past is acts below_. (let old = stamps.round d past is in omega (arith, old));
        sent_term = stamps.sent_term;
        sent_round = λ f a. (let old = stamps.sent_round f a in omega (arith, old));
      }

  -- a flight that is on its way is pending
  is_pending : (history : List Event) (f : Flight) → Among f (flights (steps history)) → f.reaches ≡ true → was_used (steps history) f.number ≡ false
      → Among f (pending (steps history))
  is_pending history f a reaches unused =
      among_kept (λ g. g.reaches && not (was_used (steps history) g.number)) (flights (steps history)) f (rw (reaches, unused) refl) a

  -- what is pending is on its way
  record OnWay (history : List Event) (f : Flight) : Type 0 where
    pub among_ : Among f (flights (steps history))
    pub reaches : f.reaches ≡ true
    pub unused : was_used (steps history) f.number ≡ false

  on_way : (history : List Event) (f : Flight) → Among f (pending (steps history)) → OnWay history f
  on_way history f a =
      let (reaches, unused) = and_parts f.reaches (not (was_used (steps history) f.number))
      (passes_kept (λ g. g.reaches && not (was_used (steps history) g.number)) (flights (steps history)) f a) in
      record {
        among_ = kept_among (λ g. g.reaches && not (was_used (steps history) g.number)) (flights (steps history)) f a;
        reaches = reaches;
        unused = not-true (was_used (steps history) f.number) unused;
      }

  none_left : (history : List Event) (r : ℕ) → pending (steps history) ≡ [] → NoneDue (steps history) r
  none_left history r none f a reaches unused = absurd (gone (subst (λ (fs : List Flight). Among f fs) none (is_pending history f a reaches unused)))
    where
      gone : Among f [] → ⊥
      gone b = elim b [ ]

  -- the first flight that is due is received
  receive : (k c left : ℕ) → 1 ≤ k → k < m → (run : Running k c left) → (h : IsFirst (pending (steps run.history))) → h.flight.due < k * tick
      → (next : Running k c left) × (budget net plan m (steps next.history) < budget net plan m (steps run.history))
  receive k c left some less run h soon =
      let f : Flight = h.flight in
      let way : OnWay run.history f = on_way run.history f h.among in
      let long = has_length (pending (steps run.history)) f h.among in
      let roomy = run.room in
      let few : length run.history < 2 ^ 26 = omega (arith, roomy, long) in
      let live : is_live net plan down f.receiver ≡ true = (run.good.air.law f way.among_).live way.reaches in
      let found : flight_numbered (steps run.history) f.number ≡ Some f =
      numbered_itself setting (steps run.history) f (history_is_accepted setting run.history run.good.is) way.among_ in
      let in_time : OnTime net plan down (seen_of (steps run.history)) f.due = λ d alive. (let late = run.ticked d alive in omega (arith, late, soon)) in
      let good : Good net plan dom down (event.Recv f.due f.receiver f.due f.number ∷ run.history) f.due =
      receipt_goes net plan dom down law among run.history run.reference run.good few f way.among_ way.reaches way.unused in_time
      (λ g a reaches unused. h.least g (is_pending run.history g a reaches unused)) in
      let is : AreSteps setting (steps (event.Recv f.due f.receiver f.due f.number ∷ run.history)) =
      history_is_accepted setting (event.Recv f.due f.receiver f.due f.number ∷ run.history) good.is in
      let both = receipt_stamps net plan dom down m k c (steps run.history) run.reference run.good.world run.stamps some less f way.among_ way.reaches
      way.unused found live is in (
        record {
          history = event.Recv f.due f.receiver f.due f.number ∷ run.history;
          reference = f.due;
          good = good;
          before = omega (arith, soon);
          ticked = run.ticked;
          done = run.done;
          hush = hush_receipt net plan dom down zone mute shut (λ z. state (made k c z) z) (steps run.history) run.reference run.good.world run.hush f
              way.among_ way.reaches found live
              (λ past in_ sounds at. idles.hears (made k c f.receiver) f.receiver past f.link f.message f.due in_ sounds at) is good.air;
          stamps = both.0;
          room = (let fewer = both.1 in omega (arith, fewer, roomy));
        },
        both.1,
      )

  -- all that is due before the k-th multiple
  pub clear : (k c left fuel : ℕ) → 1 ≤ k → k < m → (run : Running k c left) → budget net plan m (steps run.history) ≤ fuel → Clear k c left
  clear k c left zero some less run enough =
      record {
        running = run;
        none = none_left run.history (k * tick) (none_of (pending (steps run.history)) (omega (arith, enough)));
      }
    where
      none_of : (fs : List Flight) → length fs ≤ 0 → fs ≡ []
      none_of [] short = refl
      none_of (f ∷ fs) short = absurd (omega (arith, short))
  clear k c left (suc fuel) some less run enough = by (first_due (pending (steps run.history))) (λ next shorter. clear k c left fuel some less next shorter)
    where
      later_due : (h : IsFirst (pending (steps run.history))) → k * tick ≤ h.flight.due → NoneDue (steps run.history) (k * tick)
      later_due h late f a reaches unused =
          let least = h.least f (is_pending run.history f a reaches unused) in omega (arith, late, least)

      by : (pending (steps run.history) ≡ []) ⊎ IsFirst (pending (steps run.history))
          → ((next : Running k c left) → budget net plan m (steps next.history) ≤ fuel → Clear k c left) → Clear k c left
      by (inl none) more = record { running = run; none = none_left run.history (k * tick) none }
      by (inr h) more = elim (cases_lt h.flight.due (k * tick)) [
        | inl soon ↦ (let next = receive k c left some less run h soon in let fewer = next.1 in more next.0 (omega (arith, fewer, enough)))
        | inr late ↦ record { running = run; none = later_due h late }
      ]

  -- room for fewer ticks
  with_left : (k c left left' : ℕ) → left' ≤ left → Running k c left → Running k c left'
  with_left k c left left' fewer run =
      record {
        history = run.history;
        reference = run.reference;
        good = run.good;
        before = run.before;
        ticked = run.ticked;
        done = run.done;
        hush = run.hush;
        stamps = run.stamps;
        room = (let roomy = run.room in omega (arith, roomy, fewer));
      }

  -- a device that is not live has not to tick
  passed_by : (k c left : ℕ) → is_live net plan down c ≡ false → Running k (suc c) (suc left) → Running k c left
  passed_by k c left dead run =
      record {
        history = run.history;
        reference = run.reference;
        good = run.good;
        before = run.before;
        ticked = run.ticked;
        done = λ d live above. elim (cases_eq c d) [
          | inl same ↦ absurd (both_ways (is_live net plan down c) dead (subst (λ (x : ℕ). is_live net plan down x ≡ true) (sym same) live))
          | inr other ↦ run.done d live (omega (arith, above, other))
        ];
        hush = hush_as (made k (suc c)) (made k c) (steps run.history)
            (λ z in_. made_other k c z (λ same.
            both_ways (is_live net plan down c) dead (subst (λ (x : ℕ). is_live net plan down x ≡ true) (sym same) (shut.live z in_)))) run.hush;
        stamps = fewer_due k (suc c) c (omega arith) (steps run.history) run.stamps;
        room = (let roomy = run.room in omega (arith, roomy));
      }

  -- where all have ticked, the next multiple comes
  next_multiple : (k left : ℕ) → Running k 0 left → Running (suc k) (length net.devices) left
  next_multiple k left run =
      let next : suc k * tick ≡ k * tick + tick = grind arith in
      record {
        history = run.history;
        reference = run.reference;
        good = run.good;
        before = (let before = run.before in omega (arith, before, next));
        ticked = λ d live. (let late = run.done d live (omega arith) in omega (arith, late, next));
        done = λ d live above. (let within = (live_parts net plan down d live).within in absurd (omega (arith, within, above)));
        hush = hush_as (made k 0) (made (suc k) (length net.devices)) (steps run.history)
            (λ z in_. (let now = made_now k 0 z (omega arith) in
            let before = made_before (suc k) (length net.devices) z (live_parts net plan down z (shut.live z in_)).within in
            omega (arith, now, before))) run.hush;
        stamps = more_rounds k (length net.devices) (steps run.history) run.stamps;
        room = run.room;
      }

  -- a device ticks
  tick_one : (k d left : ℕ) → 1 ≤ k → k < last → is_live net plan down d ≡ true → Clear k (suc d) (suc left) → Running k d left
  tick_one k d left some less_ live clear_ =
      let less : k < m = omega (arith, less_) in
      let run : Running k (suc d) (suc left) = clear_.running in
      let roomy = run.room in
      let few : length run.history < 2 ^ 26 = omega (arith, roomy) in
      let good : Good net plan dom down (event.Tick (k * tick) d (k * tick) ∷ run.history) (k * tick) =
      tick_goes net plan dom down law among run.history run.reference run.good few (k * tick) d live run.before run.ticked clear_.none in
      let is : AreSteps setting (steps (event.Tick (k * tick) d (k * tick) ∷ run.history)) =
      history_is_accepted setting (event.Tick (k * tick) d (k * tick) ∷ run.history) good.is in
      let both = tick_stamps net plan dom down m k (suc d) (steps run.history) run.reference run.good.world run.stamps some less (k * tick) d (omega arith)
      live is in
      record {
        history = event.Tick (k * tick) d (k * tick) ∷ run.history;
        reference = k * tick;
        good = good;
        before = omega arith;
        ticked = λ x alive. tick_later (nat_eq d x) (k * tick) (latest_tick (seen_of (steps run.history)) x) tick (run.ticked x alive);
        done = λ x alive above. by x (nat_eq d x) refl alive above;
        hush = hush_tick net plan dom down zone mute shut (λ z. state (made k (suc d) z) z) (steps run.history) run.reference run.good.world run.hush
            (λ z. state (made k d z) z) (k * tick) d live
            (λ past in_ at. subst (λ (i : ℕ). Silent (state i d) past (Tick (k * tick))) (sym (made_now k d d (omega arith)))
            (ticked_once past in_ (subst (λ (i : ℕ). state i d past) (made_before k (suc d) d (omega arith)) at)))
            (λ z past in_ other at. subst (λ (i : ℕ). state i z past) (made_other k d z (eqb-false d z other)) at) is good.air;
        stamps = both.0;
        room = (let fewer = both.1 in omega (arith, fewer, roomy));
      }
    where
      ticked_once : (past : Past) → zone d ≡ true → state (k - 1) d past → Silent (state k d) past (Tick (k * tick))
      ticked_once past in_ at =
          let one : suc (k - 1) ≡ k = omega (arith, some) in
          subst (λ (i : ℕ). Silent (state i d) past (Tick (i * tick))) one (idles.ticks (k - 1) d past (omega (arith, some, less_)) in_ at)

      by : (x : ℕ) (b : Bool) → nat_eq d x ≡ b → is_live net plan down x ≡ true → d ≤ x
          → k * tick ≤ map_or (if b || false then Some (k * tick) else None) (latest_tick (seen_of (steps clear_.running.history)) x) (λ told. told)
      by x true same alive above = omega arith
      by x false other alive above = clear_.running.done x alive (omega (arith, above, eqb-false d x other))

  -- all devices below c tick
  tick_all : (k c left : ℕ) → 1 ≤ k → k < last → Running k c (c + left) → Running k 0 left
  tick_all k zero left some less run = with_left k 0 (0 + left) left (omega arith) run
  tick_all k (suc c) left some less run =
      tick_all k c left some less (by (is_live net plan down c) refl (with_left k (suc c) (suc c + left) (suc (c + left)) (omega arith) run))
    where
      by : (b : Bool) → is_live net plan down c ≡ b → Running k (suc c) (suc (c + left)) → Running k c (c + left)
      by true live now = tick_one k c (c + left) some less live
          (clear k (suc c) (suc (c + left)) (budget net plan m (steps now.history)) some (omega (arith, less)) now (omega arith))
      by false dead now = passed_by k c (c + left) dead now

  -- j multiples of the tick
  pub ticks_on : (j k left : ℕ) → 1 ≤ k → k + j ≤ last → Running k (length net.devices) (j * length net.devices + left)
      → Running (k + j) (length net.devices) left
  ticks_on zero k left some less run =
      let same : k + 0 ≡ k = omega arith in
      subst (λ (i : ℕ). Running i (length net.devices) left) (sym same)
      (with_left k (length net.devices) (0 * length net.devices + left) left (omega arith) run)
  ticks_on (suc j) k left some less run =
      let n : ℕ = length net.devices in
      let split : suc j * n + left ≡ n + (j * n + left) = grind arith in
      let all : Running k 0 (j * n + left) =
      tick_all k n (j * n + left) some (omega (arith, less))
      (with_left k n (suc j * n + left) (n + (j * n + left)) (omega (arith, split)) run) in
      let same : suc k + j ≡ k + suc j = omega arith in
      subst (λ (i : ℕ). Running i n left) same
      (ticks_on j (suc k) left (omega arith) (omega (arith, less)) (next_multiple k (j * n + left) all))
