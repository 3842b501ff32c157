-- Where a device heard after a reference, there is a receipt at which it did; and where that came late enough after the failures, the way of its round stands
-- for
-- good, so it is a chain.
use Rattle.std.specs.Prelude.{◌≡◌, ℕ, ◌+◌, ◌*◌, ◌<◌, ◌≤◌, Bool, true, false, ◌||◌, List, [], ◌∷◌, nat_eq, Option, Some, None, is_some, option_map, refl, if◌then◌else◌}
use Rattle.std.specs.List.{list_all}
use Rattle.std.proofs.Common.{arith, ap, sym, ◌∙◌, subst, inl, inr}
use Rattle.std.proofs.Math.Nat.{mul-le-mul_right}
use Rattle.std.proofs.lemmas.Bool.{eqb-true}
use Rattle.sd_num.specs.Lists.{map_or}
use Rattle.sd_plan.specs.domain.Domains.{holds}
use Rattle.sd_plan.specs.declared.domain.DomainId.{DomainId}
use Rattle.sd_plan.specs.declared.Duty.{Duty}
use Rattle.sd_plan.specs.declared.Edge.{Edge}
use Rattle.sd_device.specs.declared.msg.Message.{Message}
use Rattle.sd_device.specs.Calls.{Call, Receive, Past}
use Rattle.sd_device.specs.Words.{after as past_after, transition_of, accepted_over, epoch_now}
use Rattle.sd_sched.specs.declared.Event.{Event}
use Rattle.sd_sched.specs.Events.{reference_of}
use Rattle.sd_history.specs.World.{Setting, makes, latest_reference}
use Rattle.sd_history.specs.Steps.{Act, Calls, Step, seen_of}
use Rattle.sd_history.specs.Chronicle.{past_in, chronicle, next_step}
use Rattle.sd_history.proofs.Given.{some_is}
use Rattle.sd_safety.proofs.invariant.Parts.{premises_of}
use Rattle.sd_safety.specs.invariant.Bounds.{depth, delay}
use Rattle.sd_safety.specs.invariant.Eras as eras
use Rattle.sd_safety.specs.invariant.Eras.{failed_now, does, hears, latest_such, heard_at}
use Rattle.sd_safety.specs.messages.Moments.{Tail, whole, behind, IsChronicle, Moment, upto, when, IsIn, IsBefore}
use Rattle.sd_safety.specs.messages.Traces.{Traced}
use Rattle.sd_safety.proofs.messages.Tails.{tail_trans, rest_of, tail_chronicle, no_later, before_is_earlier, earlier_is_before}
use Rattle.sd_safety.proofs.messages.Flowing.{tail_rest}
use Rattle.sd_safety.proofs.messages.Sending.{passes_on}
use Rattle.sd_safety.proofs.messages.Latest.{trace_first, trace_emits}
use Rattle.sd_safety.proofs.messages.Tracing.{accepted_traced}
use Rattle.sd_safety.proofs.messages.Consecutive.{past_after_call}
use Rattle.sd_safety.proofs.silences.Phases.{Following, following}
use Rattle.sd_safety.proofs.silences.SoundWays.{top_of}
use Rattle.sd_safety.proofs.receipts.Hearings.{IsReceipt, accepts_receipt}
use Rattle.sd_safety.proofs.frame.Standing.{chosen}
use Rattle.sd_bound.specs.timeouts.Settled.{IsSettled, IsSoundMember, Place, Scene}
use Rattle.sd_bound.proofs.timeouts.Settled.{all_chronicle}
use Rattle.sd_bound.proofs.timeouts.Scenes.{scene_at}
use Rattle.sd_bound.specs.traces.Led.{IsWithin, Stands}
use Rattle.sd_bound.proofs.traces.Emitters.{well_emitter}
use Rattle.sd_bound.proofs.traces.Served.{acts_after, led_of, stands_for_good}
use Rattle.sd_bound.proofs.traces.Lengths.{Outcome, trace_short}
use Rattle.sd_bound.specs.chains.Chains.{Chain, passing}

-- the moment at which a device was made or heard
pub record HeardAt (steps : List Step) (d : ℕ) : Type 0 where
  pub moment : Moment
  pub is_in : IsIn moment steps
  pub marks : (makes d moment.step.seen.event || does hears moment.earlier moment.step d) ≡ true
  pub at : heard_at steps d ≡ when moment

pub heard_moment : (steps : List Step) (d limit : ℕ) → limit < heard_at steps d → HeardAt steps d
heard_moment [] d limit less = absurd (omega (arith, less))
heard_moment (s ∷ earlier) d limit less = go (makes d s.seen.event || does hears earlier s d) refl less (heard_moment earlier d limit)
  where
    here : Moment
    here = record { step = s; earlier = earlier }

    go : (b : Bool) → (makes d s.seen.event || does hears earlier s d) ≡ b → limit < (if b then reference_of s.seen.event else latest_such hears earlier d)
        → (limit < heard_at earlier d → HeardAt earlier d) → HeardAt (s ∷ earlier) d
    go true is less' rest =
        record {
          moment = record { step = s; earlier = earlier };
          is_in = whole;
          marks = is;
          at = ap (λ b. if b then reference_of s.seen.event else latest_such hears earlier d) is;
        }
    go false is less' rest =
        let r = rest less' in
        record {
          moment = r.moment;
          is_in = behind r.is_in;
          marks = r.marks;
          at = ap (λ b. if b then reference_of s.seen.event else latest_such hears earlier d) is ∙ r.at;
        }

-- the receipt
pub record HeardBy (q : Moment) (d : ℕ) : Type 0 where
  pub past : Past
  pub link : ℕ
  pub message : Message
  pub counter : ℕ
  pub edge : Edge
  pub act : q.step.act ≡ Calls d (Receive link message counter)
  pub there : past_in q.earlier d ≡ Some past
  pub over : accepted_over (transition_of past (Receive link message counter)) ≡ Some edge

some_edge : (o : Option Edge) → is_some o ≡ true → (edge : Edge) × (o ≡ Some edge)
some_edge None h = cc
some_edge (Some edge) h = (edge, refl)

heard_call : (q : Moment) (d : ℕ) (past : Past) (call : Call) (edge : Edge) → q.step.act ≡ Calls d call → past_in q.earlier d ≡ Some past
    → accepted_over (transition_of past call) ≡ Some edge → IsReceipt call → HeardBy q d
heard_call q d past call edge act there over r =
    record {
      past = past;
      link = r.link;
      message = r.message;
      counter = r.counter;
      edge = edge;
      act = act ∙ ap (Calls d) r.is;
      there = there;
      over = sym (ap (λ c. accepted_over (transition_of past c)) r.is) ∙ over;
    }

pub heard_by : (q : Moment) (d : ℕ) → does hears q.earlier q.step d ≡ true → HeardBy q d
heard_by q d is = by q.step.act refl is
  where
    by_past : (call : Call) (o : Option Past) → q.step.act ≡ Calls d call → past_in q.earlier d ≡ o
        → map_or (option_map (λ past. record { call = call; transition = transition_of past call }) o) false hears ≡ true → HeardBy q d
    by_past call None act there h = cc
    by_past call (Some past) act there h =
        let e = some_edge (accepted_over (transition_of past call)) h in
        heard_call q d past call e.0 act there e.1 (accepts_receipt past call e.0 e.1)

    by_name : (m : ℕ) (call : Call) (b : Bool) → nat_eq m d ≡ b → q.step.act ≡ Calls m call
        → map_or (if b then option_map (λ past. record { call = call; transition = transition_of past call }) (past_in q.earlier d) else None) false hears
        ≡ true → HeardBy q d
    by_name m call true same act h = by_past call (past_in q.earlier d) (act ∙ ap (λ n. Calls n call) (eqb-true m d same)) refl h
    by_name m call false same act h = cc

    by : (act : Act) → q.step.act ≡ act → map_or (eras.did_by q.earlier act d) false hears ≡ true → HeardBy q d
    by (Calls m call) act h = by_name m call (nat_eq m d) refl act h
    by _ act h = cc

module _ (setting : Setting) (epoch : ℕ) (x : Event) (h : List Event) (e : Event) (calm : ℕ) (settled : IsSettled setting epoch (x ∷ h) e calm) (f : DomainId)
    (inside : list_all (holds setting.net f) (failed_now (chronicle setting (x ∷ h))) ≡ true) where
  abbrev steps : List Step
  steps = chronicle setting (x ∷ h)

  chronicle_ : IsChronicle setting (chronicle setting (e ∷ x ∷ h))
  chronicle_ = all_chronicle setting epoch (x ∷ h) e calm settled

  -- what a device heard is of the plan
  pub receipt_epoch : (p : Moment) → IsIn p (chronicle setting (x ∷ h)) → calm < when p → (y : ℕ) → IsSoundMember setting epoch (failed_now (chronicle setting (x ∷ h))) y
      → (b : HeardBy p y) → b.message.epoch ≡ epoch
  receipt_epoch p here late y well b =
      let n : Following p (top_of setting (x ∷ h) e) = following p (next_step setting steps e) steps here in
      let t : IsBefore p n.moment = subst (λ l. Tail (upto p) l) (sym n.earlier_is) whole in
      let goes : when p ≤ when n.moment = before_is_earlier setting p n.moment (tail_chronicle setting n.is_in chronicle_) t in
      let place : Place setting epoch n.moment y = (scene_at setting epoch (x ∷ h) e calm settled n.moment n.is_in (omega (arith, late, goes))).place y well in
      let there : past_in (upto p) y ≡ Some (past_after b.past (Receive b.link b.message b.counter)) =
      past_after_call p y (Receive b.link b.message b.counter) b.past b.act b.there in
      let same : past_after b.past (Receive b.link b.message b.counter) ≡ place.past =
      some_is (sym there ∙ ap (λ l. past_in l y) (sym n.earlier_is) ∙ place.there) in
      sym (passes_on b.past b.link b.message b.counter b.edge b.over).1 ∙ ap epoch_now same
      ∙ ap (λ (o : Option Duty). map_or o 0 (λ (u : Duty). u.epoch)) place.duty

  module _ (limit : ℕ) (from : calm ≤ limit) (y k : ℕ) (well : IsSoundMember setting epoch (failed_now (chronicle setting (x ∷ h))) y) (within : IsWithin setting epoch f y k)
      (few : k ≤ depth setting.net + 1)
      (p : Moment) (here : IsIn p (chronicle setting (x ∷ h))) (late : calm + passing setting.net < when p) (by : when p ≤ limit) (b : HeardBy p y) where
    after_calm : calm < when p
    after_calm = omega (arith, late)

    of_epoch : b.message.epoch ≡ epoch
    of_epoch = receipt_epoch p here after_calm y well b

    traced : Traced setting b.message.stamp epoch p y
    traced =
        subst (λ n. Traced setting b.message.stamp n p y) of_epoch
        (accepted_traced setting (chronicle setting (e ∷ x ∷ h)) chronicle_
        (premises_of setting (seen_of (chronicle setting (e ∷ x ∷ h))) settled.comes.clean.premises).delay p
        (behind here) y b.link b.message b.counter b.past b.edge b.there b.act b.over)

    -- it was emitted after the failures, and came over few hops
    came_late : Outcome setting epoch (x ∷ h) e calm settled traced.first p traced.hops (k + (depth setting.net + 1))
        → (calm < when traced.first) × (traced.hops ≤ k + (depth setting.net + 1))
    came_late (inl both) = both
    came_late (inr soon) =
        let most : (k + (depth setting.net + 1) + 1) * delay setting.net ≤ passing setting.net = mul-le-mul_right (delay setting.net) (omega (arith, few)) in
        absurd (omega (arith, soon, late, most))

    pub served_from : Chain setting epoch (failed_now (chronicle setting (x ∷ h))) (top_of setting (x ∷ h) e) limit y k
    served_from =
        let outcome = came_late (trace_short setting epoch (x ∷ h) e calm settled f inside traced.trace (behind here) after_calm k within) in
        let emitted = trace_emits setting b.message.stamp epoch traced.first traced.source traced.hops p y traced.trace in
        let started : IsIn traced.first (upto p) = trace_first setting b.message.stamp epoch traced.first traced.source traced.hops p y traced.trace in
        let first_in : IsIn traced.first (chronicle setting (x ∷ h)) = tail_trans started here in
        let source_well : IsSoundMember setting epoch (failed_now (chronicle setting (x ∷ h))) traced.source =
        well_emitter setting epoch (x ∷ h) e calm settled traced.first first_in outcome.0 traced.source emitted.0 emitted.1 in
        let acting = acts_after setting epoch (x ∷ h) e calm settled traced.first outcome.0 traced.source emitted.0 emitted.1 source_well in
        let stands : Stands traced.trace (top_of setting (x ∷ h) e) =
        stands_for_good setting epoch (x ∷ h) e calm settled b.message.stamp traced.first traced.source outcome.0 source_well acting traced.trace (few_hops outcome.1)
        (top_of setting (x ∷ h) e) whole here in
        record {
          source = traced.source;
          well = source_well;
          acts = λ q q_in q_late. acting q q_in
              (tail_trans started (earlier_is_before setting (chronicle setting (e ∷ x ∷ h)) p q chronicle_ (behind here) q_in (omega (arith, by, q_late))));
          hops = traced.hops;
          led = led_of setting epoch (x ∷ h) e calm settled traced.trace outcome.0 (top_of setting (x ∷ h) e) whole here stands limit by;
          short = outcome.1;
        }
      where
        few_hops : traced.hops ≤ k + (depth setting.net + 1) → traced.hops ≤ 2 * (depth setting.net + 1)
        few_hops le = omega (arith, le, few)

  -- a device that heard late enough by an event is served from then on
  pub served : (limit : ℕ) → calm ≤ limit → (y k : ℕ) → IsSoundMember setting epoch (failed_now (chronicle setting (x ∷ h))) y → IsWithin setting epoch f y k
      → k ≤ depth setting.net + 1
      → (q : Moment) → IsIn q (chronicle setting (e ∷ x ∷ h)) → latest_reference (seen_of q.earlier) ≤ limit → calm + passing setting.net < heard_at q.earlier y
      → Chain setting epoch (failed_now (chronicle setting (x ∷ h))) (top_of setting (x ∷ h) e) limit y k
  served limit from y k well within few q q_in before_ late =
      let a : HeardAt q.earlier y = heard_moment q.earlier y (calm + passing setting.net) late in
      let is = a.at in
      let p_in : IsIn a.moment (chronicle setting (x ∷ h)) = tail_trans a.is_in (tail_rest q_in) in
      let p_late : calm + passing setting.net < when a.moment = omega (arith, late, is) in
      let by : when a.moment ≤ latest_reference (seen_of q.earlier) =
      no_later setting a.moment q.earlier (tail_chronicle setting (rest_of q_in) chronicle_) a.is_in in
      let sc : Scene setting epoch (failed_now (chronicle setting (x ∷ h))) a.moment =
      scene_at setting epoch (x ∷ h) e calm settled a.moment (behind p_in) (omega (arith, p_late)) in
      let heard : does hears a.moment.earlier a.moment.step y ≡ true =
      chosen (makes y a.moment.step.seen.event) (does hears a.moment.earlier a.moment.step y) a.marks (sc.unmade y well) in
      served_from limit from y k well within few a.moment p_in p_late (omega (arith, by, before_)) (heard_by a.moment y heard)
