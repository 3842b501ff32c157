-- The next emission of a device after a reference, found in the steps: whether there is one, which is the first, and that it is an emission by
-- the words. By induction on the steps.
use Rattle.std.specs.Prelude.{◌≡◌, ℕ, ◌<◌, ◌≤◌, Bool, true, false, ◌&&◌, ◌||◌, List, [], ◌∷◌, nat_eq, nat_lt, Option, Some, None, refl, if◌then◌else◌}
use Rattle.std.proofs.Common.{arith, sym, ◌∙◌, ap, subst}
use Rattle.std.proofs.lemmas.Bool.{and_parts, and_from, or_left, or_right, eqb-true, ltb-true, lt-ltb}
use Rattle.sd_num.specs.Lists.{map_or}
use Rattle.sd_device.specs.declared.msg.Message.{Message}
use Rattle.sd_device.specs.declared.msg.Stamp.{Stamp}
use Rattle.sd_device.specs.declared.Effect.TheVariants.{Send}
use Rattle.sd_device.specs.Calls.{Call, Transition, TookOver, Emitted, Past}
use Rattle.sd_device.specs.Words.{transition_of, effect_of, effect_of_latest, after, stamp_now, stamp_after}
use Rattle.sd_sched.specs.Events.{reference_of}
use Rattle.sd_history.specs.Steps.{Act, Makes, Calls, Asks, Passes, Step}
use Rattle.sd_history.specs.Chronicle.{past_in}
use Rattle.sd_safety.specs.messages.Moments.{Tail, whole, behind, Moment, upto, when, IsIn, Emits, is_emission}
use Rattle.sd_safety.proofs.messages.Sending.{sends_own}
use Rattle.sd_safety.proofs.timers.Transitions.{by_case}

-- the act makes the device emit
abbrev pub emits_here : ℕ → List Step → Act → Bool
emits_here x earlier (Calls e call) = nat_eq e x && map_or (past_in earlier x) false (λ past. is_emission (transition_of past call))
emits_here x earlier (Makes e making) = false
emits_here x earlier (Asks e counter) = false
emits_here x earlier Passes = false

-- it emitted later than the reference
abbrev pub has_later : ℕ → ℕ → List Step → Bool
has_later x s [] = false
has_later x s (st ∷ earlier) = has_later x s earlier || (emits_here x earlier st.act && nat_lt s (reference_of st.seen.event))

-- the first such moment, and another where there is none
abbrev pub next : ℕ → ℕ → Moment → List Step → Moment
next x s other [] = other
next x s other (st ∷ earlier) = if has_later x s earlier then next x s other earlier else record { step = st; earlier = earlier }

pub record IsNext (x s : ℕ) (steps : List Step) (p : Moment) : Type 0 where
  pub is_in : IsIn p steps
  pub here : emits_here x p.earlier p.step.act ≡ true
  pub after : s < when p
  pub none : has_later x s p.earlier ≡ false

pub next_is : (x s : ℕ) (other : Moment) (steps : List Step) → has_later x s steps ≡ true → IsNext x s steps (next x s other steps)
next_is x s other [] h = cc
next_is x s other (st ∷ earlier) h = go (has_later x s earlier) refl h (next_is x s other earlier)
  where
    go : (b : Bool) → has_later x s earlier ≡ b → (b || (emits_here x earlier st.act && nat_lt s (reference_of st.seen.event))) ≡ true
        → (has_later x s earlier ≡ true → IsNext x s earlier (next x s other earlier))
        → IsNext x s (st ∷ earlier) (if b then next x s other earlier else record { step = st; earlier = earlier })
    go true is holds rest = let n = rest is in record { is_in = behind n.is_in; here = n.here; after = n.after; none = n.none }
    go false is holds rest =
        let parts = and_parts (emits_here x earlier st.act) (nat_lt s (reference_of st.seen.event)) holds in
        record { is_in = whole; here = parts.0; after = ltb-true s (reference_of st.seen.event) parts.1; none = is }

-- what was later before is later now, and the next one is the same
pub later_on : (x s : ℕ) (older steps : List Step) → Tail older steps → has_later x s older ≡ true → has_later x s steps ≡ true
later_on x s older _ whole h = h
later_on x s older _ (behind {x = st} {xs = earlier} t) h =
    or_left (has_later x s earlier) (emits_here x earlier st.act && nat_lt s (reference_of st.seen.event)) (later_on x s older earlier t h)

pub next_same : (x s : ℕ) (other : Moment) (older steps : List Step) → Tail older steps → has_later x s older ≡ true
    → next x s other steps ≡ next x s other older
next_same x s other older _ whole h = refl
next_same x s other older _ (behind {x = st} {xs = earlier} t) h =
    ap (λ b. if b then next x s other earlier else record { step = st; earlier = earlier }) (later_on x s older earlier t h)
    ∙ next_same x s other older earlier t h

-- a moment at which it emits
pub later_here : (x s : ℕ) (p : Moment) (steps : List Step) → IsIn p steps → emits_here x p.earlier p.step.act ≡ true → s < when p → has_later x s steps ≡ true
later_here x s p steps t here after =
    later_on x s (upto p) steps t
    (or_right (has_later x s p.earlier) (emits_here x p.earlier p.step.act && nat_lt s (when p))
    (and_from (emits_here x p.earlier p.step.act) (nat_lt s (when p)) here (lt-ltb s (when p) after)))

-- By the words

emission_sends : (past : Past) (call : Call) → is_emission (transition_of past call) ≡ true → (m : Message) × (effect_of past call ≡ Send m)
emission_sends past call is =
    by_case past (λ c transition. (r : Past) → is_emission transition ≡ true
    → (m : Message) × (effect_of_latest r (record { call = c; transition = transition }) ≡ Send m))
    (record {
      emitted = λ c e r h. (_, refl);
      took = λ c e t r h. (_, refl);
      moved = λ c e t m r h. cc;
      still = λ c e t m r h. cc;
      entered = λ link message c duty edge r h. cc;
      accepted = λ link message c edge r h. cc;
      committed = λ c duty a r h. cc;
      recommitted = λ c duty a r h. cc;
      nothing = λ c n r h. cc;
    })
    call (after past call) is

pub record Emission (p : Moment) (x : ℕ) : Type 0 where
  pub message : Message
  pub emits : Emits p x message

pub emission_of : (p : Moment) (x : ℕ) → emits_here x p.earlier p.step.act ≡ true → Emission p x
emission_of p x here = by_act p.step.act refl here
  where
    by_past : (e : ℕ) (call : Call) (o : Option Past) → p.step.act ≡ Calls x call → past_in p.earlier x ≡ o
        → map_or o false (λ past. is_emission (transition_of past call)) ≡ true → Emission p x
    by_past e call None act there is = cc
    by_past e call (Some past) act there is =
        let sent = emission_sends past call is in
        record { message = sent.0; emits = record { sends = record { past = past; call = call; there = there; act = act; effect = sent.1 }; emission = is } }

    by_act : (act : Act) → p.step.act ≡ act → emits_here x p.earlier act ≡ true → Emission p x
    by_act (Calls e call) act is =
        let parts = and_parts (nat_eq e x) (map_or (past_in p.earlier x) false (λ past. is_emission (transition_of past call))) is in
        by_past e call (past_in p.earlier x) (act ∙ ap (λ z. Calls z call) (eqb-true e x parts.0)) refl parts.1
    by_act _ act is = cc

round_counts : (call : Call) (transition : Transition) (before : Stamp) → is_emission transition ≡ true
    → 1 ≤ (stamp_after (record { call = call; transition = transition }) before).round
round_counts call Emitted before is = omega arith
round_counts call TookOver before is = omega arith
round_counts call _ before is = cc

-- an emission has a round of at least 1
pub counts_from_one : (p : Moment) (x : ℕ) (m : Message) → Emits p x m → 1 ≤ m.stamp.round
counts_from_one p x m emits =
    let s = emits.sends in
    let own = sends_own s.past s.call m s.effect in
    subst (λ (t : Stamp). 1 ≤ t.round) (sym own.0) (round_counts s.call (transition_of s.past s.call) (stamp_now s.past) emits.emission)
