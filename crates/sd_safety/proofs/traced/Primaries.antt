-- A backup root that heard over its path, of which no device had moved or acted, heard at most H * D after the root failed.
use Rattle.std.specs.Prelude.{◌≡◌, ℕ, ◌+◌, ◌*◌, ◌<◌, ◌≤◌, Bool, true, false, ◌||◌, List, [], ◌∷◌, length, map, nat_eq, Some, refl, if◌then◌else◌}
use Rattle.std.proofs.Common.{arith, ◌∙◌, ap, sym, subst}
use Rattle.std.proofs.lemmas.Bool.{or_left, or_right, eq-eqb}
use Rattle.sd_num.specs.Lists.{has}
use Rattle.sd_plan.specs.declared.Hop as declared
use Rattle.sd_plan.specs.declared.Plan.{Plan}
use Rattle.sd_plan.specs.Plans.{is_member, is_root}
use Rattle.sd_plan.specs.Walks.{hops, walk, end_of}
use Rattle.sd_device.specs.Calls.{Past}
use Rattle.sd_device.specs.Words.{epoch_now, has_moved, is_acting}
use Rattle.sd_sched.specs.declared.Event.{Event}
use Rattle.sd_history.specs.World.{Setting}
use Rattle.sd_history.specs.Steps.{Step, seen_of}
use Rattle.sd_history.specs.Chronicle.{past_in, chronicle}
use Rattle.sd_safety.proofs.invariant.Parts.{premises_of}
use Rattle.sd_safety.specs.invariant.Bounds.{depth, delay}
use Rattle.sd_safety.specs.invariant.Eras.{era, plan_now, root_failed, heard_at}
use Rattle.sd_safety.specs.invariant.Silences.{root_failed_at}
use Rattle.sd_safety.specs.invariant.Invariant.{Invariant, AtEach}
use Rattle.sd_safety.specs.invariant.Guarded.{AreGuarded, IsSteady}
use Rattle.sd_safety.proofs.invariant.Facts.{IsSound, sound_now}
use Rattle.sd_safety.proofs.invariant.Sides.{implied}
use Rattle.sd_safety.specs.messages.Moments.{whole, Moment, upto, when, IsIn, Emits}
use Rattle.sd_safety.specs.messages.Traces.{Hop, Traced}
use Rattle.sd_safety.proofs.messages.Tails.{tail_trans, tail_chronicle, history_chronicle}
use Rattle.sd_safety.proofs.messages.Tracing.{accepted_traced}
use Rattle.sd_safety.proofs.messages.Latest.{trace_emits, trace_first}
use Rattle.sd_safety.specs.frame.Descents.{TakesFromAbove}
use Rattle.sd_safety.proofs.frame.Descending.{takes_from_above}
use Rattle.sd_safety.proofs.frame.Telling.{links_tell}
use Rattle.sd_safety.proofs.receipts.Hearings.{IsHeard}
use Rattle.sd_safety.proofs.traced.UpTheWalk.{FromRoot, from_root}
use Rattle.sd_safety.proofs.traced.Roots.{root_takes_none}
use Rattle.sd_safety.proofs.traced.BeforeFailure.{emits_before}

module _ (setting : Setting) (x : Event) (h : List Event) (fair : AreGuarded setting) (clean : IsSteady setting (x ∷ h))
    (each : AtEach (Invariant setting) (chronicle setting (x ∷ h))) (b : ℕ) (known : b < length setting.net.devices)
    (member : is_member (plan_now setting (chronicle setting (x ∷ h))) b ≡ true) (other : is_root (plan_now setting (chronicle setting (x ∷ h))) b ≡ false)
    (heard : IsHeard setting (x ∷ h) b (era (chronicle setting (x ∷ h)))) where
  abbrev steps : List Step
  steps = chronicle setting (x ∷ h)

  abbrev plan : Plan
  plan = plan_now setting (chronicle setting (x ∷ h))

  -- it and the devices above it
  abbrev pub on_path : ℕ → Bool
  on_path y = nat_eq y b || has (map (λ (z : declared.Hop). z.parent) (walk setting.net (plan_now setting (chronicle setting (x ∷ h))) b)) y

  -- none of them but the root had moved or acted in the plan, at any moment up to the receipt
  module _ (stood : (y : ℕ) → on_path y ≡ true → is_root (plan_now setting (chronicle setting (x ∷ h))) y ≡ false → (q : Moment) → IsIn q (upto heard.moment)
      → (past : Past) → past_in q.earlier y ≡ Some past → epoch_now past ≡ era (chronicle setting (x ∷ h))
      → (has_moved past ≡ false) × (is_acting past ≡ false)) where
    fine : IsSound setting.net (plan_now setting (chronicle setting (x ∷ h)))
    fine = sound_now setting (x ∷ h) fair clean.is

    traced : Traced setting heard.message.stamp heard.message.epoch heard.moment b
    traced =
        accepted_traced setting steps (history_chronicle setting (x ∷ h) clean.is)
        (premises_of setting (seen_of steps) clean.premises).delay heard.moment heard.inside b heard.link heard.message heard.counter heard.past heard.edge
        heard.there heard.act heard.over

    down : (y : ℕ) → on_path y ≡ true → is_root plan y ≡ false → (q : Moment) → IsIn q (upto heard.moment)
        → TakesFromAbove setting plan heard.message.stamp heard.message.epoch q y
    down y on low q inside =
        let within : IsIn q steps = tail_trans inside heard.inside in
        subst (λ k. TakesFromAbove setting plan heard.message.stamp k q y) (sym heard.epoch)
        (takes_from_above setting (links_tell fair) heard.message.stamp (era steps) q y
        (tail_chronicle setting within (history_chronicle setting (x ∷ h) clean.is)) (λ past there own. stood y on low q inside past there own))

    relays_none : (q : Moment) → IsIn q (upto heard.moment) → (from : Moment) (z : ℕ) → Hop setting heard.message.stamp heard.message.epoch from z q plan.root
        → ⊥
    relays_none q inside from z hop =
        root_takes_none setting (x ∷ h) fair clean each q (tail_trans inside heard.inside) heard.message.stamp from z
        (subst (λ k. Hop setting heard.message.stamp k from z q plan.root) heard.epoch hop)

    walk_is : walk setting.net plan b ≡ hops (is_root plan) plan setting.net.params.depth b
    walk_is = ap (λ r. if r then [] else hops (is_root plan) plan setting.net.params.depth b) other

    reach : is_root plan (end_of b (hops (is_root plan) plan setting.net.params.depth b)) ≡ true
    reach = subst (λ hs. is_root plan (end_of b hs) ≡ true) walk_is (implied (is_member plan b) _ (fine.rules.reaches b known) member)

    pub heard_by_failure : root_failed setting (chronicle setting (x ∷ h)) ≡ true
        → heard_at (chronicle setting (x ∷ h)) b ≤ root_failed_at setting (chronicle setting (x ∷ h)) + depth setting.net * delay setting.net
    heard_by_failure failed =
        let f : FromRoot setting plan heard.message.stamp heard.message.epoch heard.moment on_path down relays_none traced.first traced.source heard.moment
        setting.net.params.depth =
        from_root setting plan heard.message.stamp heard.message.epoch heard.moment on_path down relays_none traced.first traced.source setting.net.params.depth
        heard.moment b traced.hops traced.trace whole
        (or_left (nat_eq b b) _ (eq-eqb b b refl)) other
        (λ z a. or_right (nat_eq z b) (has (map (λ (k : declared.Hop). k.parent) (walk setting.net plan b)) z)
        (subst (λ hs. has (map (λ (k : declared.Hop). k.parent) hs) z ≡ true) (sym walk_is) a)) reach in
        let at = trace_emits setting heard.message.stamp heard.message.epoch traced.first traced.source traced.hops heard.moment b traced.trace in
        let first_in : IsIn traced.first steps =
        tail_trans (trace_first setting heard.message.stamp heard.message.epoch traced.first traced.source traced.hops heard.moment b traced.trace)
        heard.inside in
        let emits : Emits traced.first plan.root at.0 = subst (λ z. Emits traced.first z at.0) f.source_is at.1 in
        let before : when traced.first ≤ root_failed_at setting steps =
        emits_before setting x h fair clean each failed traced.first first_in at.0 emits (at.3 ∙ heard.epoch) in
        sum (heard_at steps b) (when heard.moment) (when traced.first) (root_failed_at setting steps)
        (depth setting.net * delay setting.net) heard.time f.time before
      where
        sum : (a r f g d : ℕ) → a ≡ r → r ≤ f + d → f ≤ g → a ≤ g + d
        sum a r f g d one two three = omega (arith, one, two, three)
