-- What a round carries along its trace: what the root said, and half of each hop. Where each device of a way took it over its primary hop, that is at most what
-- the root sends and the halves of the way.
use Rattle.std.specs.Prelude.{◌≡◌, ℕ, zero, suc, ◌+◌, ◌<◌, ◌≤◌, Bool, true, false, List, ◌∷◌, length, Some, option_map, refl}
use Rattle.std.proofs.Common.{arith, ap, sym, ◌∙◌, subst}
use Rattle.std.proofs.lemmas.Bool.{eqb-true}
use Rattle.sd_plan.specs.topo.Network.{bounds_of}
use Rattle.sd_plan.specs.declared.domain.DomainId.{DomainId}
use Rattle.sd_plan.specs.declared.Hop as declared
use Rattle.sd_plan.specs.declared.Plan.{Plan}
use Rattle.sd_plan.specs.declared.Edge.{Edge}
use Rattle.sd_plan.specs.Duties.{edge_of}
use Rattle.sd_plan.specs.Plans.{is_member, is_root, primary_of}
use Rattle.sd_plan.specs.Walks.{walk}
use Rattle.sd_plan.proofs.Forest.{IsStep, IsForest, forest_of}
use Rattle.sd_drill.specs.recovery.Walks.{halves}
use Rattle.sd_drill.specs.declared.Budget.{Budget}
use Rattle.sd_device.specs.declared.msg.Stamp.{Stamp}
use Rattle.sd_device.specs.declared.msg.Message.{Message}
use Rattle.sd_device.specs.declared.msg.Flight.{Flight}
use Rattle.sd_device.specs.declared.Effect.TheVariants.{Send}
use Rattle.sd_device.specs.Calls as calls
use Rattle.sd_device.specs.Calls.{Call, Past}
use Rattle.sd_device.specs.Words.{transition_of, accepted_over, after, effect_of, epoch_now, has_moved, is_acting}
use Rattle.sd_history.specs.World.{Setting, plan_numbered}
use Rattle.sd_history.specs.Steps.{Calls, Step, seen_of}
use Rattle.sd_history.specs.Chronicle.{past_in}
use Rattle.sd_history.specs.Premises.{delay_holds}
use Rattle.sd_history.proofs.Given.{some_is}
use Rattle.sd_history.proofs.Contained.{send_same}
use Rattle.sd_safety.specs.invariant.Guarded.{AreGuarded}
use Rattle.sd_safety.proofs.invariant.Facts.{IsSound}
use Rattle.sd_safety.specs.messages.Moments.{IsChronicle, Moment, upto, when, IsIn, Emits}
use Rattle.sd_safety.specs.messages.Traces.{Hop, Trace, begins, goes_on, Traced}
use Rattle.sd_safety.proofs.messages.Tails.{tail_trans, rest_of, tail_chronicle}
use Rattle.sd_safety.proofs.messages.Tracing.{accepted_traced}
use Rattle.sd_safety.proofs.messages.Flights.{IsSentBy, moment_sends}
use Rattle.sd_safety.proofs.messages.Receipts.{device_is, call_is}
use Rattle.sd_safety.proofs.messages.Parents.{planned}
use Rattle.sd_safety.specs.frame.Descents.{TakesFromAbove}
use Rattle.sd_safety.proofs.frame.Descending.{edge_above, takes_from_above}
use Rattle.sd_safety.proofs.frame.Telling.{links_tell}
use Rattle.sd_bound.proofs.bases.Sums.{sent_by_root, hop_direct}
use Rattle.sd_bound.proofs.bases.Holding.{relayed_eps, begun}
use Rattle.sd_bound.proofs.rebased.Sets.{heard_base, ByMessage}

-- what the last device of a trace holds: the message as it was emitted, or what its receipt set
abbrev pub carried_by : {setting : Setting} {stamp : Stamp} {epoch : ℕ} {first : Moment} {source m : ℕ} {q : Moment} {d : ℕ}
    → Trace setting stamp epoch first source m q d → ℕ
carried_by (begins message emits carries epoch_is) = message.eps
carried_by (goes_on trace hop) = hop.flight.message.eps + hop.receipt.edge.bounds.half

-- a device sends one message in an event
pub sent_same : (setting : Setting) (q : Moment) (f : Flight) (x : ℕ) (past : Past) (call : Call) → IsSentBy setting q.earlier (when q) q.step.act f
    → q.step.act ≡ Calls x call → past_in q.earlier x ≡ Some past → effect_of past call ≡ Send f.message
sent_same setting q f x past call s act there =
    let same : Calls s.device s.call ≡ Calls x call = sym s.act_is ∙ act in
    let past_is : s.past ≡ past = some_is (sym s.there ∙ ap (past_in q.earlier) (device_is same) ∙ there) in
    subst (λ p. effect_of p call ≡ Send f.message) past_is (subst (λ c. effect_of s.past c ≡ Send f.message) (call_is same) s.effect)

-- so the next hop carries that on
pub next_carries : {setting : Setting} {stamp : Stamp} {epoch : ℕ} {first : Moment} {source m : ℕ} {q : Moment} {x : ℕ}
    (trace : Trace setting stamp epoch first source m q x) → IsChronicle setting (upto q) → (to : Moment) (d : ℕ) (hop : Hop setting stamp epoch q x to d)
    → hop.flight.message.eps ≡ carried_by trace
next_carries {setting} {q = q} {x = x} (begins message emits carries epoch_is) is to d hop =
    let s : IsSentBy setting q.earlier (when q) q.step.act hop.flight = moment_sends setting q hop.flight is hop.sent in
    let sent = emits.sends in
    ap (λ (m : Message). m.eps) (send_same (sym (sent_same setting q hop.flight x sent.past sent.call s sent.act sent.there) ∙ sent.effect))
next_carries {setting} {q = q} {x = x} (goes_on trace last) is to d hop =
    let s : IsSentBy setting q.earlier (when q) q.step.act hop.flight = moment_sends setting q hop.flight is hop.sent in
    let r = last.receipt in
    let call : Call = calls.Receive last.flight.link last.flight.message r.counter in
    sym (relayed_eps (after r.past call) call (transition_of r.past call) r.edge hop.flight.message r.over
    (sent_same setting q hop.flight x r.past call s r.act r.there))
    ∙ heard_base r.past last.flight.link last.flight.message r.counter r.edge r.over

-- The last hop of what was heard

message_is : {l k c n : ℕ} {a b : Message} → calls.Receive l a c ≡ calls.Receive k b n → a ≡ b
message_is {a = a} same = ap (λ (x : calls.Call). elim x [ calls.Receive l m c ↦ m | _ ↦ a ]) same

-- a trace that ends with a hop
pub record LastHop (setting : Setting) (stamp : Stamp) (epoch : ℕ) (q : Moment) (d : ℕ) : Type 0 where
  pub first : Moment
  pub source : ℕ
  pub hops : ℕ
  pub from : Moment
  pub through : ℕ
  pub trace : Trace setting stamp epoch first source hops from through
  pub last : Hop setting stamp epoch from through q d

-- so did what was heard come
pub last_hop : (setting : Setting) (steps : List Step) → IsChronicle setting steps → delay_holds setting (seen_of steps) ≡ true → (d : ℕ) (past : Past)
    → (b : ByMessage steps d past) → LastHop setting b.message.stamp b.message.epoch b.moment d
last_hop setting steps is delay d past b = by_trace traced.hops b.moment d traced.trace refl refl
  where
    traced : Traced setting b.message.stamp b.message.epoch b.moment d
    traced = accepted_traced setting steps is delay b.moment b.inside d b.link b.message b.counter b.was b.edge b.there b.act b.over

    -- who begins a round takes no message meanwhile
    begins_none : (message : Message) → Emits b.moment d message → ⊥
    begins_none message emits =
        let s = emits.sends in
        let begins_ = begun s.past s.call emits.emission in
        let is : calls.Receive b.link b.message b.counter ≡ calls.Tick begins_.counter = sym (call_is (sym s.act ∙ b.act)) ∙ begins_.call_is in
        cc

    by_trace : (m : ℕ) (q : Moment) (v : ℕ) → Trace setting b.message.stamp b.message.epoch traced.first traced.source m q v → q ≡ b.moment → v ≡ d
        → LastHop setting b.message.stamp b.message.epoch b.moment d
    by_trace zero q v (begins message emits carries epoch_is) at_ is' =
        absurd (begins_none message (subst (λ w. Emits b.moment w message) is' (subst (λ (p : Moment). Emits p v message) at_ emits)))
    by_trace (suc m) q v (goes_on {from = from} {x = z} trace hop) at_ is' =
        record {
          first = traced.first;
          source = traced.source;
          hops = m;
          from = from;
          through = z;
          trace = trace;
          last = subst (λ w. Hop setting b.message.stamp b.message.epoch from z b.moment w) is'
              (subst (λ (p : Moment). Hop setting b.message.stamp b.message.epoch from z p v) at_ hop);
        }

-- and brought what was heard
pub brings_heard : (setting : Setting) (steps : List Step) (d : ℕ) (past : Past) (b : ByMessage steps d past) (stamp : Stamp) (epoch : ℕ) (from : Moment) (z : ℕ)
    (last : Hop setting stamp epoch from z b.moment d)
    → last.flight.message.eps + last.receipt.edge.bounds.half ≡ b.message.eps + b.edge.bounds.half
brings_heard setting steps d past b stamp epoch from z last =
    ap (λ (k : Edge). last.flight.message.eps + k.bounds.half) edge_same ∙ ap (λ (k : Message). k.eps + b.edge.bounds.half) (message_is call_same)
  where
    past_same : last.receipt.past ≡ b.was
    past_same = some_is (sym last.receipt.there ∙ b.there)

    call_same : calls.Receive last.flight.link last.flight.message last.receipt.counter ≡ calls.Receive b.link b.message b.counter
    call_same = call_is (sym last.receipt.act ∙ b.act)

    edge_same : last.receipt.edge ≡ b.edge
    edge_same =
        some_is (sym last.receipt.over
        ∙ subst (λ p. accepted_over (transition_of p (calls.Receive last.flight.link last.flight.message last.receipt.counter)) ≡ Some b.edge) (sym past_same)
        (subst (λ c. accepted_over (transition_of b.was c) ≡ Some b.edge) (sym call_same) b.over))

-- Numbers

within_root : (x s h : ℕ) → x ≤ s → x ≤ s + h
within_root x s h le = omega (arith, le)

pub equal_sums : (a b c d k : ℕ) → a ≡ c → b ≡ d → c + d ≤ k → a + b ≤ k
equal_sums a b c d k one two le = omega (arith, one, two, le)

-- Along a way

module _ (setting : Setting) (fair : AreGuarded setting) (epoch : ℕ) (budget : Budget) (f : DomainId) (fine : IsSound setting.net (plan_numbered setting epoch)) (stamp : Stamp)
    (p : Moment) (is : IsChronicle setting (upto p)) (on : ℕ → Bool)
    (climbs : (y : ℕ) (h : declared.Hop) → on y ≡ true → is_root (plan_numbered setting epoch) y ≡ false → primary_of (plan_numbered setting epoch) y ≡ Some h
    → on h.parent ≡ true)
    (stood : (y : ℕ) → on y ≡ true → is_root (plan_numbered setting epoch) y ≡ false → (q : Moment) → IsIn q (upto p) → (past : Past)
    → past_in q.earlier y ≡ Some past → epoch_now past ≡ epoch → (has_moved past ≡ false) × (is_acting past ≡ false))
    (takes_none : (q : Moment) → IsIn q (upto p) → (from : Moment) (x : ℕ) → Hop setting stamp epoch from x q (plan_numbered setting epoch).root → ⊥)
    (root_sends : (q : Moment) → IsIn q (upto p) → (m : Message) → Emits q (plan_numbered setting epoch).root m → m.epoch ≡ epoch
    → m.eps ≤ sent_by_root setting.net (plan_numbered setting epoch) budget) where
  abbrev plan : Plan
  plan = plan_numbered setting epoch

  forest : IsForest setting.net (plan_numbered setting epoch)
  forest = forest_of setting.net plan fine.fits fine.guarded.structure

  above : (y : ℕ) → on y ≡ true → is_root (plan_numbered setting epoch) y ≡ false → (q : Moment) → IsIn q (upto p)
      → TakesFromAbove setting (plan_numbered setting epoch) stamp epoch q y
  above y on_y low q here = takes_from_above setting (links_tell fair) stamp epoch q y (tail_chronicle setting here is) (stood y on_y low q here)

  pub carried_down : {first : Moment} {source m : ℕ} {q : Moment} {y : ℕ} (trace : Trace setting stamp epoch first source m q y) → IsIn q (upto p)
      → on y ≡ true → y < length setting.net.devices → is_member (plan_numbered setting epoch) y ≡ true
      → carried_by trace ≤ sent_by_root setting.net (plan_numbered setting epoch) budget + halves setting.net y (walk setting.net (plan_numbered setting epoch) y)
  carried_down {q = q} {y = y} (begins message emits carries epoch_is) here on_y known member = by (is_root plan y) refl
    where
      by : (r : Bool) → is_root plan y ≡ r → message.eps ≤ sent_by_root setting.net plan budget + halves setting.net y (walk setting.net plan y)
      by true root =
          within_root message.eps (sent_by_root setting.net plan budget) (halves setting.net y (walk setting.net plan y))
          (root_sends q here message (subst (λ z. Emits q z message) (sym (eqb-true plan.root y root)) emits) epoch_is)
      by false low = absurd ((above y on_y low q here).begins_none message emits carries epoch_is)
  carried_down {q = q} {y = y} (goes_on {from = from} {x = x} trace hop) here on_y known member =
      by (is_root plan y) refl (λ on_x known_x member_x. carried_down trace from_in on_x known_x member_x)
    where
      from_in : IsIn from (upto p)
      from_in = tail_trans hop.before (rest_of here)

      by : (r : Bool) → is_root plan y ≡ r
          → (on x ≡ true → x < length setting.net.devices → is_member plan x ≡ true
          → carried_by trace ≤ sent_by_root setting.net plan budget + halves setting.net x (walk setting.net plan x))
          → hop.flight.message.eps + hop.receipt.edge.bounds.half ≤ sent_by_root setting.net plan budget + halves setting.net y (walk setting.net plan y)
      by true root rest = absurd (takes_none q here from x (subst (λ z. Hop setting stamp epoch from x q z) (sym (eqb-true plan.root y root)) hop))
      by false low rest =
          let h = forest.hop y known member low in
          let step : IsStep setting.net plan y h.0 = forest.up y h.0 known h.1 in
          let parent : h.0.parent ≡ x = (above y on_y low q here).takes x from hop h.0 h.1 in
          let edge : option_map (edge_of setting.net y) (primary_of plan y) ≡ Some hop.receipt.edge =
          edge_above setting y epoch hop.receipt.past hop.flight.message hop.receipt.edge
          (planned setting q.earlier y hop.receipt.past (tail_chronicle setting here is).0 hop.receipt.there) hop.epoch_is
          (stood y on_y low q here hop.receipt.past hop.receipt.there) hop.receipt.accepts in
          let edge_is : edge_of setting.net y h.0 ≡ hop.receipt.edge = some_is (sym (ap (option_map (edge_of setting.net y)) h.1) ∙ edge) in
          let half : hop.receipt.edge.bounds.half ≡ (bounds_of setting.net h.0.link y).half = ap (λ (k : Edge). k.bounds.half) (sym edge_is) in
          let up : carried_by trace ≤ sent_by_root setting.net plan budget + halves setting.net h.0.parent (walk setting.net plan h.0.parent) =
          subst (λ z. carried_by trace ≤ sent_by_root setting.net plan budget + halves setting.net z (walk setting.net plan z)) (sym parent)
          (rest (subst (λ z. on z ≡ true) parent (climbs y h.0 on_y low h.1)) (subst (λ z. z < length setting.net.devices) parent step.within)
          (subst (λ z. is_member plan z ≡ true) parent step.above)) in
          subst (λ (hs : List declared.Hop). hop.flight.message.eps + hop.receipt.edge.bounds.half ≤ sent_by_root setting.net plan budget
          + halves setting.net y hs) (sym step.walk)
          (equal_sums hop.flight.message.eps hop.receipt.edge.bounds.half (carried_by trace) (bounds_of setting.net h.0.link y).half
          (sent_by_root setting.net plan budget + halves setting.net y (h.0 ∷ walk setting.net plan h.0.parent))
          (next_carries trace (tail_chronicle setting from_in is) q y hop) half
          (hop_direct setting.net plan budget f y (carried_by trace) h.0 up))
