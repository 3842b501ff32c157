-- Nothing is emitted before all have started, and so nothing heard: an emission, and what a device heard since it was made, is later than r0 + Q.
use Rattle.std.specs.Prelude.{◌≡◌, ℕ, ◌<◌, Bool, true, false, ◌||◌, List, [], ◌∷◌, nat_eq, Option, Some, None, is_some, option_map, refl, if◌then◌else◌}
use Rattle.std.proofs.Common.{◌∙◌, ap, subst}
use Rattle.std.proofs.lemmas.Bool.{or_left, or_right, eqb-true, eq-eqb}
use Rattle.sd_num.specs.Lists.{map_or}
use Rattle.sd_device.specs.declared.msg.Message.{Message}
use Rattle.sd_device.specs.Calls.{Call, Receive, Transition, Entered, Committed, Recommitted, Accepted, Moved, TookOver, Emitted, Nothing, Past}
use Rattle.sd_device.specs.Words.{transition_of, accepted_over}
use Rattle.sd_sched.specs.declared.Event.{Event}
use Rattle.sd_sched.specs.Events.{reference_of}
use Rattle.sd_history.specs.World.{Setting, makes}
use Rattle.sd_history.specs.Steps.{Act, Makes, Calls, Asks, Passes, Step, seen_of}
use Rattle.sd_history.specs.Chronicle.{past_in, chronicle, next_step}
use Rattle.sd_safety.specs.invariant.Eras as eras
use Rattle.sd_safety.specs.invariant.Eras.{does, hears, latest_such, heard_at, heard_since_made, has_emission, emission_by, begins_round, all_started}
use Rattle.sd_safety.specs.invariant.Guarded.{AreGuarded, IsSteady}
use Rattle.sd_safety.proofs.invariant.Prefix.{clean_before}
use Rattle.sd_safety.specs.messages.Moments.{whole, behind, Moment, when, IsIn, Emits, is_emission}
use Rattle.sd_safety.specs.messages.Traces.{Traced}
use Rattle.sd_safety.proofs.messages.Tails.{history_chronicle}
use Rattle.sd_safety.proofs.messages.Tracing.{accepted_traced}
use Rattle.sd_safety.proofs.messages.Latest.{trace_first, trace_emits}
use Rattle.sd_safety.proofs.invariant.Parts.{premises_of}
use Rattle.sd_history.proofs.Known.{has_some}
use Rattle.sd_safety.proofs.timers.Transitions.{by_case}
use Rattle.sd_safety.proofs.waits.LeastWaits.{timely_of}
use Rattle.sd_safety.proofs.waits.Beginning.{emitted_late}

begins_by : (call : Call) (transition : Transition) → is_emission transition ≡ true → begins_round (record { call = call; transition = transition }) ≡ true
begins_by call Emitted h = refl
begins_by call TookOver h = refl
begins_by call (Entered duty edge) h = cc
begins_by call (Committed duty) h = cc
begins_by call (Recommitted duty) h = cc
begins_by call (Accepted edge) h = cc
begins_by call Moved h = cc
begins_by call Nothing h = cc

emits_there : (p : Moment) (x : ℕ) (m : Message) → Emits p x m → emission_by p.earlier p.step.act ≡ true
emits_there p x m emits =
    let s = emits.sends in
    ap (emission_by p.earlier) s.act
    ∙ ap (λ b. map_or (if b then option_map (λ past. record { call = s.call; transition = transition_of past s.call }) (past_in p.earlier x) else None) false
    begins_round) (eq-eqb x x refl)
    ∙ ap (λ o. map_or (option_map (λ past. record { call = s.call; transition = transition_of past s.call }) o) false begins_round) s.there
    ∙ begins_by s.call (transition_of s.past s.call) emits.emission

pub has_emitted : (p : Moment) (x : ℕ) (m : Message) (steps : List Step) → IsIn p steps → Emits p x m → has_emission steps ≡ true
has_emitted p x m _ whole emits = or_left (emission_by p.earlier p.step.act) (has_emission p.earlier) (emits_there p x m emits)
has_emitted p x m _ (behind {x = s} {xs = earlier} t) emits = or_right (emission_by earlier s.act) (has_emission earlier) (has_emitted p x m earlier t emits)

-- an emission is later than r0 + Q
pub emission_late : (setting : Setting) → AreGuarded setting → (p : Moment) (x : ℕ) (m : Message) → Emits p x m → (history : List Event) → IsSteady setting history
    → IsIn p (chronicle setting history)
    → all_started setting (chronicle setting history) < when p
emission_late setting fair p x m emits [] clean here = elim here [ ]
emission_late setting fair p x m emits (e ∷ history) clean whole =
    emitted_late setting fair (e ∷ history) (timely_of setting (e ∷ history) fair clean) (has_emitted p x m (chronicle setting (e ∷ history)) whole emits)
emission_late setting fair p x m emits (e ∷ []) clean (behind t) = elim t [ ]
emission_late setting fair p x m emits (e ∷ e' ∷ history) clean (behind t) =
    emission_late setting fair p x m emits (e' ∷ history) (clean_before setting e (e' ∷ history) clean) t

-- what accepts is a receipt
receives : (past : Past) (call : Call) → is_some (accepted_over (transition_of past call)) ≡ true → (l : ℕ) × (m : Message) × (c : ℕ) × (call ≡ Receive l m c)
receives past call is =
    by_case past (λ k transition. is_some (accepted_over transition) ≡ true → (l : ℕ) × (m : Message) × (c : ℕ) × (k ≡ Receive l m c))
    (record {
      emitted = λ c e h. cc;
      took = λ c e t h. cc;
      moved = λ c e t m h. cc;
      still = λ c e t m h. cc;
      entered = λ link message c duty edge h. (link, message, c, refl);
      accepted = λ link message c edge h. (link, message, c, refl);
      committed = λ c duty a h. cc;
      recommitted = λ c duty a h. cc;
      nothing = λ k n h. cc;
    })
    call is

module _ (setting : Setting) (fair : AreGuarded setting) where
  -- at a receipt something was emitted
  heard_emission : (e : Event) (history : List Event) → IsSteady setting (e ∷ history) → (d : ℕ)
      → does hears (chronicle setting history) (next_step setting (chronicle setting history) e) d ≡ true
      → has_emission (chronicle setting (e ∷ history)) ≡ true
  heard_emission e history clean d h = by_act (next_step setting (chronicle setting history) e).act refl h
    where
      here : Moment
      here = record { step = next_step setting (chronicle setting history) e; earlier = chronicle setting history }

      by_call : (call : Call) (past : Past) → (next_step setting (chronicle setting history) e).act ≡ Calls d call
          → past_in (chronicle setting history) d ≡ Some past → is_some (accepted_over (transition_of past call)) ≡ true
          → has_emission (chronicle setting (e ∷ history)) ≡ true
      by_call call past act there is =
          let r = receives past call is in
          let over : is_some (accepted_over (transition_of past (Receive r.0 r.1 r.2))) ≡ true =
          subst (λ k. is_some (accepted_over (transition_of past k)) ≡ true) r.3 is in
          let edge = has_some (accepted_over (transition_of past (Receive r.0 r.1 r.2))) over in
          let q : Moment = record { step = next_step setting (chronicle setting history) e; earlier = chronicle setting history } in
          let t : Traced setting r.1.stamp r.1.epoch q d =
          accepted_traced setting (chronicle setting (e ∷ history)) (history_chronicle setting (e ∷ history) clean.is)
          (premises_of setting (seen_of (chronicle setting (e ∷ history))) clean.premises).delay q whole d r.0 r.1 r.2 past edge.0 there
          (act ∙ ap (Calls d) r.3) edge.1 in
          let source = trace_emits setting r.1.stamp r.1.epoch t.first t.source t.hops q d t.trace in
          has_emitted t.first t.source source.0 (chronicle setting (e ∷ history))
          (trace_first setting r.1.stamp r.1.epoch t.first t.source t.hops q d t.trace) source.1

      by_act : (act : Act) → (next_step setting (chronicle setting history) e).act ≡ act
          → map_or (eras.did_by (chronicle setting history) act d) false hears ≡ true → has_emission (chronicle setting (e ∷ history)) ≡ true
      by_act (Calls z call) act is = go (nat_eq z d) refl (past_in (chronicle setting history) d) refl is
        where
          go : (b : Bool) → nat_eq z d ≡ b → (o : Option Past) → past_in (chronicle setting history) d ≡ o
              → map_or (if b then option_map (λ past. record { call = call; transition = transition_of past call }) o else None) false hears ≡ true
              → has_emission (chronicle setting (e ∷ history)) ≡ true
          go true same (Some past) there h' = by_call call past (act ∙ ap (λ n. Calls n call) (eqb-true z d same)) there h'
          go true same None there h' = cc
          go false same o there h' = cc
      by_act (Makes z making) act is = cc
      by_act (Asks z counter) act is = cc
      by_act Passes act is = cc

  on_longer : (e : Event) (hs : List Event) (d : ℕ) → heard_since_made (chronicle setting hs) d ≡ true
      → all_started setting (chronicle setting hs) < heard_at (chronicle setting hs) d
      → all_started setting (chronicle setting (e ∷ hs)) < heard_at (chronicle setting hs) d
  on_longer e [] d h less = cc
  on_longer e (x ∷ hs) d h less = less

  -- what a device heard since it was made is later than r0 + Q
  pub heard_after : (d : ℕ) (history : List Event) → IsSteady setting history → heard_since_made (chronicle setting history) d ≡ true
      → all_started setting (chronicle setting history) < heard_at (chronicle setting history) d
  heard_after d [] clean h = cc
  heard_after d (e ∷ history) clean h =
      go (makes d e) (does hears (chronicle setting history) (next_step setting (chronicle setting history) e) d) refl h
      (heard_after d history (clean_before setting e history clean))
    where
      go : (m y : Bool) → does hears (chronicle setting history) (next_step setting (chronicle setting history) e) d ≡ y
          → (if m then false else y || heard_since_made (chronicle setting history) d) ≡ true
          → (heard_since_made (chronicle setting history) d ≡ true → all_started setting (chronicle setting history) < heard_at (chronicle setting history) d)
          → all_started setting (chronicle setting (e ∷ history)) < (if m || y then reference_of e else latest_such hears (chronicle setting history) d)
      go true y is h' rest = cc
      go false true is h' rest = emitted_late setting fair (e ∷ history) (timely_of setting (e ∷ history) fair clean) (heard_emission e history clean d is)
      go false false is h' rest = on_longer e history d h' (rest h')
