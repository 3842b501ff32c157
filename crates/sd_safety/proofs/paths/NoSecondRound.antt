-- The backup root hears no second round between the emission of the round that it heard last and its receipt: rounds do not overlap (10), and it takes each
-- round once.
use Rattle.std.specs.Prelude.{◌≡◌, ℕ, ◌+◌, ◌*◌, ◌<◌, ◌≤◌, true, List, ◌∷◌, Some}
use Rattle.std.proofs.Common.{arith, ◌∙◌, ap, sym, subst}
use Rattle.sd_num.specs.Lists.{map_or}
use Rattle.sd_plan.specs.topo.Network.{least_low}
use Rattle.sd_device.specs.declared.msg.Message.{Message}
use Rattle.sd_device.specs.Calls.{Receive}
use Rattle.sd_device.specs.Words.{after, stamp_now}
use Rattle.sd_sched.specs.declared.Event.{Event}
use Rattle.sd_history.specs.World.{Setting, is_up, plan_numbered}
use Rattle.sd_history.specs.Steps.{Step, seen_of}
use Rattle.sd_history.specs.Chronicle.{past_in, chronicle}
use Rattle.sd_history.proofs.Given.{some_is}
use Rattle.sd_safety.specs.invariant.Bounds.{depth, delay}
use Rattle.sd_safety.specs.invariant.Eras.{era, plan_now, is_old, on_primary}
use Rattle.sd_safety.specs.invariant.Guarded.{IsSteady}
use Rattle.sd_safety.specs.invariant.Coming.{IsNextEvent}
use Rattle.sd_safety.proofs.invariant.Prefix.{clean_before}
use Rattle.sd_safety.specs.messages.Moments.{Tail, IsChronicle, Moment, upto, when, IsIn, Emits}
use Rattle.sd_safety.specs.messages.Stamping.{IsUpTo, EntersNot}
use Rattle.sd_safety.proofs.messages.Tails.{Order, before, same, after as comes_after, ordered, tail_trans, tail_chronicle, history_chronicle, before_is_earlier}
use Rattle.sd_safety.proofs.messages.Latest.{trace_emits, trace_first}
use Rattle.sd_safety.proofs.messages.Sending.{passes_on}
use Rattle.sd_safety.proofs.messages.Rising.{newer_is, up_to_older, older_apart, stamps_rise}
use Rattle.sd_safety.proofs.messages.Origins.{Since, past_goes}
use Rattle.sd_safety.proofs.messages.Consecutive.{past_after_call}
use Rattle.sd_safety.proofs.messages.Terms.{stamp_here, stamp_is}
use Rattle.sd_safety.proofs.messages.Overlap.{IsApart, apart_by_rule}
use Rattle.sd_safety.proofs.waits.Standing.{sound}
use Rattle.sd_safety.proofs.windows.Senders.{IsCalled, called_is_up}
use Rattle.sd_safety.proofs.receipts.Hearings.{IsHeard}
use Rattle.sd_safety.proofs.entering.Stages.{Stage, stage}
use Rattle.sd_safety.proofs.silences.Feeding.{from_start}
use Rattle.sd_safety.proofs.paths.FromRoot.{traced, trace, first_in, by_root, took}
use Rattle.sd_safety.proofs.paths.Unbroken.{unbroken_since}
use Rattle.sd_safety.proofs.paths.Periods.{period_apart}
use Rattle.sd_safety.proofs.paths.Receipts.{StoodBefore}

-- sums: the emission of the earlier receipt s1, of the later s0, the receipts m1 and m0, and the moment g between s0 and m1
module _ (h d q low_ : ℕ) (rule : 2 * (h + 1) * d + q < low_) where
  first_before : (s1 s0 m1 g : ℕ) → s1 + low_ ≤ s0 → m1 ≤ s1 + h * d → s0 ≤ g → g ≤ m1 → ⊥
  first_before s1 s0 m1 g one two three four = omega (arith, rule, one, two, three, four)

  first_after : (s1 s0 m1 m0 : ℕ) → s0 + low_ ≤ s1 → m0 ≤ s0 + h * d → s1 ≤ m1 → m1 ≤ m0 → ⊥
  first_after s1 s0 m1 m0 one two three four = omega (arith, rule, one, two, three, four)

module _ (setting : Setting) (x : Event) (h : List Event) (e : Event) (comes : IsNextEvent setting (x ∷ h) e)
    (old : is_old (chronicle setting (x ∷ h)) (plan_now setting (chronicle setting (x ∷ h))).backup_root ≡ true)
    (on : on_primary (chronicle setting (x ∷ h)) (plan_now setting (chronicle setting (x ∷ h))).backup_root ≡ true)
    (heard : IsHeard setting (x ∷ h) (plan_now setting (chronicle setting (x ∷ h))).backup_root (era (chronicle setting (x ∷ h))))
    (s : StoodBefore setting x h e comes old on heard)
    (earlier_ : IsHeard setting (s.y ∷ s.ys) (plan_now setting (chronicle setting (s.y ∷ s.ys))).backup_root (era (chronicle setting (s.y ∷ s.ys)))) where
  abbrev steps : List Step
  steps = chronicle setting (x ∷ h)

  abbrev older : List Step
  older = chronicle setting (s.y ∷ s.ys)

  abbrev b : ℕ
  b = (plan_now setting (chronicle setting (s.y ∷ s.ys))).backup_root

  -- the emissions of the later round and of the earlier one
  abbrev late_first : Moment
  late_first = (traced setting x h e comes old on heard).first

  abbrev early_first : Moment
  early_first = (traced setting s.y s.ys s.f s.comes_ s.old_ s.on_ earlier_).first

  clean : IsSteady setting (x ∷ h)
  clean = clean_before setting e (x ∷ h) comes.clean

  clean_then : IsSteady setting (s.y ∷ s.ys)
  clean_then = clean_before setting s.f (s.y ∷ s.ys) s.comes_.clean

  all : IsChronicle setting (chronicle setting (x ∷ h))
  all = history_chronicle setting (x ∷ h) clean.is

  rule : IsApart setting.net
  rule = apart_by_rule setting.net (plan_now setting steps) (sound setting x h e comes).guarded.timing

  late_emits : (m : Message) × Emits late_first (traced setting x h e comes old on heard).source m × (m.stamp ≡ heard.message.stamp)
      × (m.epoch ≡ era (chronicle setting (x ∷ h)))
  late_emits =
      trace_emits setting heard.message.stamp (era steps) late_first (traced setting x h e comes old on heard).source
      (traced setting x h e comes old on heard).hops heard.moment (plan_now setting steps).backup_root (trace setting x h e comes old on heard)

  early_emits : (m : Message) × Emits early_first (traced setting s.y s.ys s.f s.comes_ s.old_ s.on_ earlier_).source m × (m.stamp ≡ earlier_.message.stamp)
      × (m.epoch ≡ era (chronicle setting (s.y ∷ s.ys)))
  early_emits =
      trace_emits setting earlier_.message.stamp (era older) early_first (traced setting s.y s.ys s.f s.comes_ s.old_ s.on_ earlier_).source
      (traced setting s.y s.ys s.f s.comes_ s.old_ s.on_ earlier_).hops earlier_.moment b
      (trace setting s.y s.ys s.f s.comes_ s.old_ s.on_ earlier_)

  -- the root emitted both
  same_source : (traced setting s.y s.ys s.f s.comes_ s.old_ s.on_ earlier_).source ≡ (traced setting x h e comes old on heard).source
  same_source = by_root setting s.y s.ys s.f s.comes_ s.old_ s.on_ earlier_ ∙ ap (λ n. (plan_numbered setting n).root) s.same
      ∙ sym (by_root setting x h e comes old on heard)

  emits_early : Emits early_first (traced setting x h e comes old on heard).source early_emits.0
  emits_early = subst (λ z. Emits early_first z early_emits.0) same_source early_emits.1

  late_in : IsIn late_first (chronicle setting (x ∷ h))
  late_in = first_in setting x h e comes old on heard

  early_in : IsIn early_first (chronicle setting (x ∷ h))
  early_in = tail_trans (first_in setting s.y s.ys s.f s.comes_ s.old_ s.on_ earlier_) s.inside

  -- the same round is taken once
  module _ (since : era (chronicle setting (s.y ∷ s.ys)) ≤ era (upto earlier_.moment)) where
    up_after_ : is_up (seen_of (upto earlier_.moment)) b ≡ true
    up_after_ =
        let st : Stage setting earlier_.moment = stage setting comes.fair earlier_.moment s.ys s.y clean_then s.comes_.before.0 earlier_.inside in
        let called : IsCalled (chronicle setting st.h) st.e b =
        called_is_up setting (chronicle setting st.h) b (Receive earlier_.link earlier_.message earlier_.counter) st.e st.comes.clean.is.1
        (sym (ap (λ (q : Moment). q.step.act) st.is) ∙ earlier_.act) in
        subst (λ (q : Moment). is_up (seen_of (upto q)) b ≡ true) (sym st.is)
        (ap (λ o. map_or o (is_up (seen_of (chronicle setting st.h)) b) (λ told. told)) called.stays ∙ called.up)

    there_after : past_in (upto earlier_.moment) b ≡ Some (after earlier_.past (Receive earlier_.link earlier_.message earlier_.counter))
    there_after = past_after_call earlier_.moment b (Receive earlier_.link earlier_.message earlier_.counter) earlier_.past earlier_.act earlier_.there

    goes : Since EntersNot (after earlier_.past (Receive earlier_.link earlier_.message earlier_.counter)) (past_in (chronicle setting (s.y ∷ s.ys)) b)
    goes =
        past_goes EntersNot (upto earlier_.moment) older b (after earlier_.past (Receive earlier_.link earlier_.message earlier_.counter)) earlier_.inside
        there_after
        (unbroken_since setting s.y s.ys s.f s.comes_ b s.old_ earlier_.moment since up_after_)

    there_then : past_in (chronicle setting (s.y ∷ s.ys)) b ≡ Some heard.past
    there_then =
        subst (λ n. past_in older (plan_numbered setting n).backup_root ≡ Some heard.past) (sym s.same)
        (subst (λ (l : List Step). past_in l (plan_now setting steps).backup_root ≡ Some heard.past) (ap (λ (q : Moment). q.earlier) s.is) heard.there)

    seen_it : IsUpTo earlier_.message.stamp (stamp_now heard.past)
    seen_it =
        let rises = stamps_rise (after earlier_.past (Receive earlier_.link earlier_.message earlier_.counter)) goes.past goes.on in
        let now_past : goes.past ≡ heard.past = some_is (sym goes.is ∙ there_then) in
        subst (λ p. IsUpTo earlier_.message.stamp (stamp_now p)) now_past
        (subst (λ z. IsUpTo z (stamp_now goes.past)) (passes_on earlier_.past earlier_.link earlier_.message earlier_.counter earlier_.edge earlier_.over).0
        rises)

    not_same : upto early_first ≡ upto late_first → ⊥
    not_same equal =
        let stamps : earlier_.message.stamp ≡ heard.message.stamp =
        sym early_emits.2 ∙ stamp_is early_first (traced setting s.y s.ys s.f s.comes_ s.old_ s.on_ earlier_).source early_emits.0 early_emits.1
        ∙ ap stamp_here equal
        ∙ sym (stamp_is late_first (traced setting x h e comes old on heard).source late_emits.0 late_emits.1) ∙ late_emits.2 in
        older_apart earlier_.message.stamp heard.message.stamp
        (up_to_older earlier_.message.stamp (stamp_now heard.past) heard.message.stamp seen_it
        (newer_is heard.message.stamp (stamp_now heard.past) s.newer)) stamps

    -- the later round was emitted no later than a time g at which the earlier one had not come yet
    module _ (late_era : era (chronicle setting (x ∷ h)) ≤ era (upto late_first)) (early_era : era (chronicle setting (x ∷ h)) ≤ era (upto early_first)) (g : ℕ)
        (emitted : when late_first ≤ g) (received : g ≤ when earlier_.moment) where
      by_order : Order early_first late_first → ⊥
      by_order (same equal) = not_same equal
      by_order (before t) =
          first_before (depth setting.net) (delay setting.net) setting.net.params.tick (least_low setting.net setting.net.params.period) rule (when early_first)
          (when late_first) (when earlier_.moment) g
          (period_apart setting x h e comes early_first late_first late_in t early_era
          (traced setting x h e comes old on heard).source early_emits.0 late_emits.0 emits_early late_emits.1 late_emits.3)
          (took setting s.y s.ys s.f s.comes_ s.old_ s.on_ earlier_) emitted received
      by_order (comes_after t) =
          first_after (depth setting.net) (delay setting.net) setting.net.params.tick (least_low setting.net setting.net.params.period) rule (when early_first)
          (when late_first) (when earlier_.moment) (when heard.moment)
          (period_apart setting x h e comes late_first early_first early_in t late_era
          (traced setting x h e comes old on heard).source late_emits.0 early_emits.0 late_emits.1 emits_early (early_emits.3 ∙ s.same))
          (took setting x h e comes old on heard)
          (from_start setting early_first earlier_.moment (tail_chronicle setting (tail_trans earlier_.inside s.inside) all)
          (trace_first setting earlier_.message.stamp (era older) early_first (traced setting s.y s.ys s.f s.comes_ s.old_ s.on_ earlier_).source
          (traced setting s.y s.ys s.f s.comes_ s.old_ s.on_ earlier_).hops earlier_.moment b (trace setting s.y s.ys s.f s.comes_ s.old_ s.on_ earlier_)))
          (before_is_earlier setting earlier_.moment heard.moment (tail_chronicle setting heard.inside all)
          (subst (λ (l : List Step). Tail (upto earlier_.moment) l) (sym (ap (λ (q : Moment). q.earlier) s.is)) earlier_.inside))

      pub no_second : ⊥
      no_second = by_order (ordered steps early_first late_first early_in late_in)
