-- When a device of a plan that does not act last heard: it accepted a message of that plan then; or it was started in the plan's era, and heard nothing since.
-- So a
-- device of a plan to come heard a message of it.
use Rattle.std.specs.Prelude.{◌≡◌, ℕ, ◌<◌, ◌≤◌, Bool, true, false, List, [], ◌∷◌, Option, Some, None, is_some, option_map, refl, ◌⊎◌, if◌then◌else◌}
use Rattle.std.proofs.Common.{arith, ◌∙◌, ap, sym, inl, inr}
use Rattle.std.proofs.lemmas.Bool.{or_left, or_right, or_from, eq-eqb}
use Rattle.sd_num.specs.Lists.{map_or}
use Rattle.sd_plan.specs.declared.Duty.{Duty}
use Rattle.sd_plan.specs.declared.Edge.{Edge}
use Rattle.sd_device.specs.declared.msg.Message.{Message}
use Rattle.sd_device.specs.Calls as calls
use Rattle.sd_device.specs.Calls.{Call, Transition, CallDone, Past}
use Rattle.sd_device.specs.Words.{after, transition_of, taken_up, accepted_over, duty_now, epoch_now, is_acting}
use Rattle.sd_sched.specs.declared.Event.{Event}
use Rattle.sd_sched.specs.declared.Event.TheVariants as event
use Rattle.sd_sched.specs.Events.{reference_of}
use Rattle.sd_history.specs.World.{Setting, makes}
use Rattle.sd_history.specs.Steps.{Calls, act_by}
use Rattle.sd_history.specs.Chronicle.{past_in, chronicle, next_step}
use Rattle.sd_history.specs.Admitted.{IsAdmitted}
use Rattle.sd_history.proofs.Given.{some_is}
use Rattle.sd_safety.specs.invariant.Eras.{era, did_by, does, hears, heard_at}
use Rattle.sd_safety.proofs.invariant.Sides.{not_both}
use Rattle.sd_safety.proofs.timers.Transitions.{by_case}
use Rattle.sd_safety.proofs.timers.Pasts.{stays_acting, was_false}
use Rattle.sd_safety.proofs.waits.Epochs.{era_rises}
use Rattle.sd_safety.specs.messages.Moments.{Tail, whole, behind, Moment, when, IsIn}
use Rattle.sd_safety.proofs.messages.Sending.{passes_on}
use Rattle.sd_safety.proofs.receipts.Alive.{Went, made, called, alone, went, made_epoch}

-- the device accepted a message of this plan at a moment, and heard nothing later
pub record IsHeard (setting : Setting) (history : List Event) (d n : ℕ) : Type 0 where
  pub moment : Moment
  pub inside : IsIn moment (chronicle setting history)
  pub link : ℕ
  pub message : Message
  pub counter : ℕ
  pub past : Past
  pub edge : Edge
  pub there : past_in moment.earlier d ≡ Some past
  pub act : moment.step.act ≡ Calls d (calls.Receive link message counter)
  pub over : accepted_over (transition_of past (calls.Receive link message counter)) ≡ Some edge
  pub epoch : message.epoch ≡ n
  pub time : heard_at (chronicle setting history) d ≡ when moment

-- the device was started in this plan's era, and heard nothing since
pub record IsStarted (setting : Setting) (history : List Event) (d n : ℕ) : Type 0 where
  pub event : Event
  pub earlier : List Event
  pub tail : Tail (event ∷ earlier) history
  pub makes_ : makes d event ≡ true
  pub past : Past
  pub there : past_in (chronicle setting (event ∷ earlier)) d ≡ Some past
  pub own : epoch_now past ≡ n
  pub number : era (chronicle setting earlier) ≡ n
  pub time : heard_at (chronicle setting history) d ≡ reference_of event

abbrev pub LastHeard : Setting → List Event → ℕ → ℕ → Type 0
LastHeard setting history d n = IsHeard setting history d n ⊎ IsStarted setting history d n

-- what accepts is a receipt
pub record IsReceipt (call : Call) : Type 0 where
  pub link : ℕ
  pub message : Message
  pub counter : ℕ
  pub is : call ≡ calls.Receive link message counter

abbrev Receives : Call → Transition → Type 0
Receives call transition = (edge : Edge) → accepted_over transition ≡ Some edge → IsReceipt call

pub accepts_receipt : (past : Past) (call : Call) → Receives call (transition_of past call)
accepts_receipt past call =
    by_case past Receives
    (record {
      emitted = λ c e edge is. cc;
      took = λ c e t edge is. cc;
      moved = λ c e t m edge is. cc;
      still = λ c e t m edge is. cc;
      entered = λ link message c duty edge other is. record { link = link; message = message; counter = c; is = refl };
      accepted = λ link message c edge other is. record { link = link; message = message; counter = c; is = refl };
      committed = λ c duty a edge is. cc;
      recommitted = λ c duty a edge is. cc;
      nothing = λ x t edge is. cc;
    }) call

-- a call that accepts nothing, and after which the device does not act, takes up nothing
abbrev TakesNone : Past → Call → Transition → Type 0
TakesNone past call transition = accepted_over transition ≡ None
    → is_acting (record { making = past.making; did = record { call = call; transition = transition } ∷ past.did }) ≡ false → taken_up transition ≡ None

takes_none : (past : Past) (call : Call) → TakesNone past call (transition_of past call)
takes_none past call =
    by_case past (TakesNone past)
    (record {
      emitted = λ c e none idle. refl;
      took = λ c e t none idle. refl;
      moved = λ c e t m none idle. refl;
      still = λ c e t m none idle. refl;
      entered = λ link message c duty edge none idle. cc;
      accepted = λ link message c edge none idle. refl;
      committed = λ c duty a none idle. cc;
      recommitted = λ c duty a none idle. cc;
      nothing = λ x t none idle. refl;
    }) call

pub makes_or_calls : (setting : Setting) (e : Event) (history : List Event) (d m : ℕ) (call : Call)
    → act_by setting (chronicle setting history) e ≡ Calls m call → makes d e ≡ true → ⊥
makes_or_calls setting (event.Start r x c clock eps) history d m call is makes_ = cc
makes_or_calls setting (event.Join r x c clock eps) history d m call is makes_ = cc
makes_or_calls setting _ history d m call is makes_ = cc

module _ (setting : Setting) (e : Event) (history : List Event) (d n : ℕ) where
  heard_same : makes d e ≡ false → does hears (chronicle setting history) (next_step setting (chronicle setting history) e) d ≡ false
      → heard_at (chronicle setting (e ∷ history)) d ≡ heard_at (chronicle setting history) d
  heard_same none deaf =
      ap (λ b. if b then reference_of e else heard_at (chronicle setting history) d)
      (or_from (makes d e) (does hears (chronicle setting history) (next_step setting (chronicle setting history) e) d) none deaf)

  later_on : heard_at (chronicle setting (e ∷ history)) d ≡ heard_at (chronicle setting history) d → LastHeard setting history d n
      → LastHeard setting (e ∷ history) d n
  later_on same (inl h) =
      inl
      (record {
        moment = h.moment;
        inside = behind h.inside;
        link = h.link;
        message = h.message;
        counter = h.counter;
        past = h.past;
        edge = h.edge;
        there = h.there;
        act = h.act;
        over = h.over;
        epoch = h.epoch;
        time = same ∙ h.time;
      })
  later_on same (inr s) =
      inr (record {
        event = s.event;
        earlier = s.earlier;
        tail = behind s.tail;
        makes_ = s.makes_;
        past = s.past;
        there = s.there;
        own = s.own;
        number = s.number;
        time = same ∙ s.time;
      })

  module _ (past : Past) (call : Call) (acted : act_by setting (chronicle setting history) e ≡ Calls d call)
      (there : past_in (chronicle setting history) d ≡ Some past) where
    did_is : did_by (chronicle setting history) (act_by setting (chronicle setting history) e) d
        ≡ Some (record { call = call; transition = transition_of past call })
    did_is =
        ap (λ a. did_by (chronicle setting history) a d) acted
        ∙ ap (λ b. if b then option_map (λ p. record { call = call; transition = transition_of p call }) (past_in (chronicle setting history) d) else None)
        (eq-eqb d d refl)
        ∙ ap (option_map (λ p. record { call = call; transition = transition_of p call })) there

    heard_here : (edge : Edge) → accepted_over (transition_of past call) ≡ Some edge → epoch_now (after past call) ≡ n → IsReceipt call
        → IsHeard setting (e ∷ history) d n
    heard_here edge over number r = with_receipt r.link r.message r.counter r.is
      where
        with_receipt : (l : ℕ) (m : Message) (c : ℕ) → call ≡ calls.Receive l m c → IsHeard setting (e ∷ history) d n
        with_receipt l m c is =
            let over_ : accepted_over (transition_of past (calls.Receive l m c)) ≡ Some edge = sym (ap (λ x. accepted_over (transition_of past x)) is) ∙ over in
            record {
              moment = record { step = next_step setting (chronicle setting history) e; earlier = chronicle setting history };
              inside = whole;
              link = l;
              message = m;
              counter = c;
              past = past;
              edge = edge;
              there = there;
              act = acted ∙ ap (Calls d) is;
              over = over_;
              epoch = sym (passes_on past l m c edge over_).1 ∙ sym (ap (λ x. epoch_now (after past x)) is) ∙ number;
              time =
                  ap (λ b. if b then reference_of e else heard_at (chronicle setting history) d)
                  (or_right (makes d e) (does hears (chronicle setting history) (next_step setting (chronicle setting history) e) d)
                  (ap (λ (o : Option CallDone). map_or o false hears) did_is ∙ ap (λ (o : Option Edge). is_some o) over));
            }

    deaf_here : accepted_over (transition_of past call) ≡ None
        → does hears (chronicle setting history) (next_step setting (chronicle setting history) e) d ≡ false
    deaf_here none = ap (λ (o : Option CallDone). map_or o false hears) did_is ∙ ap (λ (o : Option Edge). is_some o) none

pub last_heard : (setting : Setting) (history : List Event) → IsAdmitted setting history → (d : ℕ) (past : Past)
    → past_in (chronicle setting history) d ≡ Some past → (n : ℕ) → epoch_now past ≡ n → 1 ≤ n → is_acting past ≡ false
    → LastHeard setting history d n
last_heard setting [] is d past there n number one idle = cc
last_heard setting (e ∷ history) is d past there n number one idle =
    by_made (makes d e) refl (λ q there' k number' one' idle'. last_heard setting history is.0 d q there' k number' one' idle')
  where
    by_number : (k : ℕ) → k ≡ n → (k ≡ era (chronicle setting history)) ⊎ (k ≡ 0) → era (chronicle setting history) ≡ n
    by_number k same (inl is') = sym is' ∙ same
    by_number k same (inr is') = absurd (omega (arith, same, is', one))

    by_call : makes d e ≡ false → (p : Past) (call : Call) → act_by setting (chronicle setting history) e ≡ Calls d call
        → past_in (chronicle setting history) d ≡ Some p → past ≡ after p call → (o : Option Edge) → accepted_over (transition_of p call) ≡ o
        → ((q : Past) → past_in (chronicle setting history) d ≡ Some q → (k : ℕ) → epoch_now q ≡ k → 1 ≤ k → is_acting q ≡ false
        → LastHeard setting history d k) → LastHeard setting (e ∷ history) d n
    by_call none p call acted there' same (Some edge) over rest =
        inl (heard_here setting e history d n p call acted there' edge over (sym (ap epoch_now same) ∙ number) (accepts_receipt p call edge over))
    by_call none p call acted there' same None deaf rest =
        let takes : taken_up (transition_of p call) ≡ None = takes_none p call deaf (sym (ap is_acting same) ∙ idle) in
        let number' : epoch_now p ≡ n = sym (ap (λ o. map_or (map_or (option_map Some o) (duty_now p) (λ told. told)) 0 (λ (u : Duty). u.epoch)) takes)
        ∙ sym (ap epoch_now same) ∙ number in
        let idle' : is_acting p ≡ false =
        was_false (is_acting p) (is_acting (after p call)) (stays_acting p call (transition_of p call) takes) (sym (ap is_acting same) ∙ idle) in
        later_on setting e history d n (heard_same setting e history d n none (deaf_here setting e history d n p call acted there' deaf))
        (rest p there' n number' one idle')

    by_went : makes d e ≡ false → Went setting e history d
        → ((q : Past) → past_in (chronicle setting history) d ≡ Some q → (k : ℕ) → epoch_now q ≡ k → 1 ≤ k → is_acting q ≡ false
        → LastHeard setting history d k) → LastHeard setting (e ∷ history) d n
    by_went none (made makes_) rest = absurd (not_both (makes d e) makes_ none)
    by_went none (called p call acted there' now) rest =
        by_call none p call acted there' (some_is (sym there ∙ now)) (accepted_over (transition_of p call)) refl rest
    by_went none (alone same did) rest =
        later_on setting e history d n (heard_same setting e history d n none (ap (λ (o : Option CallDone). map_or o false hears) did))
        (rest past (sym same ∙ there) n number one idle)

    by_made : (b : Bool) → makes d e ≡ b
        → ((q : Past) → past_in (chronicle setting history) d ≡ Some q → (k : ℕ) → epoch_now q ≡ k → 1 ≤ k → is_acting q ≡ false
        → LastHeard setting history d k) → LastHeard setting (e ∷ history) d n
    by_made true makes_ rest =
        inr
        (record {
          event = e;
          earlier = history;
          tail = whole;
          makes_ = makes_;
          past = past;
          there = there;
          own = number;
          number = by_number (epoch_now past) number (made_epoch setting e history d past makes_ there);
          time =
              ap (λ b. if b then reference_of e else heard_at (chronicle setting history) d)
              (or_left (makes d e) (does hears (chronicle setting history) (next_step setting (chronicle setting history) e) d) makes_);
        })
    by_made false none rest = by_went none (went setting e history d) rest

-- the plan came after the latest event's era: so it was not started in it
pub heard_in_plan : (setting : Setting) (history : List Event) → IsAdmitted setting history → (d : ℕ) (past : Past)
    → past_in (chronicle setting history) d ≡ Some past → (n : ℕ) → epoch_now past ≡ n → era (chronicle setting history) < n
    → is_acting past ≡ false → IsHeard setting history d n
heard_in_plan setting history is d past there n number less idle = by (last_heard setting history is d past there n number (omega (arith, less)) idle)
  where
    no_later : (x : Event) (older later : List Event) → Tail (x ∷ older) later → era (chronicle setting older) ≤ era (chronicle setting later)
    no_later x older _ whole = era_rises (next_step setting (chronicle setting older) x) (chronicle setting older)
    no_later x older _ (behind {x = y} {xs = later} t) =
        let one = no_later x older later t in
        let two = era_rises (next_step setting (chronicle setting later) y) (chronicle setting later) in
        omega (arith, one, two)

    by : LastHeard setting history d n → IsHeard setting history d n
    by (inl h) = h
    by (inr s) = let le = no_later s.event s.earlier history s.tail in let same = s.number in absurd (omega (arith, le, same, less))
