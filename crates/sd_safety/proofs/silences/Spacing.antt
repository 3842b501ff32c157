-- Emissions of one acting life lie at least Low of the period apart, in each history that keeps the drift: what messages only stated.
use Rattle.std.specs.Prelude.{◌≡◌, ℕ, ◌-◌, ◌<◌, ◌≤◌, true, false, List, length, Some, None, refl, if◌then◌else◌}
use Rattle.std.proofs.Common.{arith, sym, ◌∙◌, ap, subst}
use Rattle.std.proofs.lemmas.Bool.{eq-eqb}
use Rattle.sd_num.specs.Numbers.{low}
use Rattle.sd_plan.specs.topo.Network.{rates_of, least_low}
use Rattle.sd_num.proofs.Shared.{same_number-some}
use Rattle.sd_device.specs.Calls.{Call, Tick, Transition, Entered, Committed, Recommitted, Accepted, Moved, TookOver, Emitted, Nothing, Past}
use Rattle.sd_device.specs.Words.{transition_of, after, is_acting, emits}
use Rattle.sd_sched.specs.declared.Event.{Event}
use Rattle.sd_sched.specs.Events.{device_of}
use Rattle.sd_history.specs.World.{Setting}
use Rattle.sd_history.specs.Steps.{Calls}
use Rattle.sd_history.specs.Chronicle.{past_in, chronicle}
use Rattle.sd_history.proofs.Given.{some_is}
use Rattle.sd_safety.specs.messages.Moments.{IsChronicle, upto, when, is_emission}
use Rattle.sd_safety.specs.messages.Stamping.{EntersNot}
use Rattle.sd_safety.specs.messages.Rounds.{AreApart}
use Rattle.sd_safety.proofs.messages.Tails.{tail_chronicle, history_chronicle, before_is_earlier}
use Rattle.sd_safety.proofs.messages.Acting.{acts_on}
use Rattle.sd_safety.proofs.messages.Origins.{Since, past_goes}
use Rattle.sd_safety.proofs.messages.Consecutive.{emission_acts, past_after_call}
use Rattle.sd_safety.specs.timers.Times.{AreTimed, counter_at, did_by}
use Rattle.sd_safety.specs.timers.Since.{IsMarked}
use Rattle.sd_safety.proofs.timers.Transitions.{by_case}
use Rattle.sd_safety.proofs.timers.NotEarly.{IsTick}
use Rattle.sd_safety.proofs.timers.Emissions.{emissions_apart, timed_tail}
use Rattle.sd_safety.proofs.timers.Pasts.{acting_has_duty, takeover_from_backup}
use Rattle.sd_safety.proofs.timers.Turns.{IsEmission, is_emission as emission_is, IsTakeover, is_takeover}
use Rattle.sd_safety.proofs.timers.NetworkBounds.{least_is_low, rate_is_low}
use Rattle.sd_history.proofs.Known.{admitted_named_is_known}
use Rattle.sd_safety.proofs.timers.Histories.{Timely, timed}

-- an emission of a device that acts is none by a takeover
emits_by : (past : Past) (call : Call) → is_acting past ≡ true → is_emission (transition_of past call) ≡ true → transition_of past call ≡ Emitted
emits_by past call acts emission = go (transition_of past call) refl emission
  where
    go : (transition : Transition) → transition_of past call ≡ transition → is_emission transition ≡ true → transition_of past call ≡ Emitted
    go Emitted is h = is
    go TookOver is h =
        let t : IsTakeover past call = is_takeover past call is in
        let clash : true ≡ false = sym acts ∙ (takeover_from_backup past t.counter t.takes).acts_not in
        cc
    go (Entered duty edge) is h = cc
    go (Committed duty) is h = cc
    go (Recommitted duty) is h = cc
    go (Accepted edge) is h = cc
    go Moved is h = cc
    go Nothing is h = cc

-- an emission has a counter, that of its tick
pub emission_counts : (past : Past) (call : Call) → is_emission (transition_of past call) ≡ true
    → (c : ℕ) × (emits (did_by past call) ≡ Some c) × (call ≡ Tick c)
emission_counts past call is =
    by_case past (λ k transition. is_emission transition ≡ true → (c : ℕ) × (emits (record { call = k; transition = transition }) ≡ Some c) × (k ≡ Tick c))
    (record {
      emitted = λ c e h. (c, refl, refl);
      took = λ c e t h. (c, refl, refl);
      moved = λ c e t m h. cc;
      still = λ c e t m h. cc;
      entered = λ link message c duty edge h. cc;
      accepted = λ link message c edge h. cc;
      committed = λ c duty a h. cc;
      recommitted = λ c duty a h. cc;
      nothing = λ k n h. cc;
    })
    call is

pub emissions_are_apart : (setting : Setting) (history : List Event) → Timely setting history → AreApart setting (chronicle setting history)
emissions_are_apart setting history t p q p_in q_in before d m n first second life terms =
    let one = first.sends in
    let two = second.sends in
    let chronicle_ : IsChronicle setting (upto q) = tail_chronicle setting q_in (history_chronicle setting history t.is) in
    let all : AreTimed setting (upto q) = timed_tail setting (upto q) (chronicle setting history) q_in (timed setting history t) in
    let since : Since EntersNot (after one.past one.call) (past_in q.earlier d) =
    past_goes EntersNot (upto p) q.earlier d (after one.past one.call) before (past_after_call p d one.call one.past one.act one.there) life in
    let acts : is_acting two.past ≡ true =
    subst (λ z. is_acting z ≡ true) (some_is (sym since.is ∙ two.there))
    (acts_on (after one.past one.call) since.past (emission_acts one.past one.call first.emission) since.on).acts in
    let e : IsEmission two.past two.call = emission_is two.past two.call (emits_by two.past two.call acts second.emission) in
    let tick : IsTick setting q.step q.earlier d e.counter two.past =
    record { before = all.0; now = all.1; act = two.act ∙ ap (Calls d) e.tick; there = two.there } in
    let reads : counter_at q.step.act d ≡ Some e.counter =
    ap (λ act. counter_at act d) (two.act ∙ ap (Calls d) e.tick) ∙ ap (λ b. if b then Some e.counter else None) (eq-eqb d d refl) in
    let known : d < length setting.net.devices =
    admitted_named_is_known setting q.earlier q.step.seen.event d chronicle_.2 (same_number-some (device_of q.step.seen.event) d (all.1.fits.named d e.counter reads)) in
    let duty = acting_has_duty q.earlier d two.past two.there acts in
    let counts = emission_counts one.past one.call first.emission in
    let marked : IsMarked emits p.step p.earlier d =
    record { call = one.call; past = one.past; counter = counts.0; act = one.act; there = one.there; told = counts.1 } in
    let far : low (rates_of setting.net d) setting.net.params.period ≤ when q - when p =
    emissions_apart setting q.step q.earlier d e.counter two.past (rate_is_low setting.net d t.network) tick duty.0 duty.1 e.emits p.step p.earlier
    before marked in
    let least : least_low setting.net setting.net.params.period ≤ low (rates_of setting.net d) setting.net.params.period =
    least_is_low setting.net d setting.net.params.period known in
    let order : when p ≤ when q = before_is_earlier setting p q chronicle_ before in
    omega (arith, far, least, order)
