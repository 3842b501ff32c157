-- Where the root failed, a backup root on its backup heard at most (H + 1) * D after that: over its path before it moved, or over its fallback.
use Rattle.std.specs.Prelude.{◌≡◌, ℕ, zero, suc, ◌+◌, ◌*◌, ◌<◌, ◌≤◌, Bool, true, false, ◌&&◌, ◌||◌, not, List, [], ◌∷◌, map, nat_eq, Option, Some, None, option_map, refl, ◌⊎◌, if◌then◌else◌}
use Rattle.std.proofs.Common.{arith, ◌∙◌, ap, sym, subst, inl, inr}
use Rattle.std.proofs.lemmas.Bool.{and_from, or_left, or_right, cases_lt, eqb-true, eq-eqb, false_from_ne_true}
use Rattle.std.proofs.Math.Nat.{le_antisymm}
use Rattle.sd_num.specs.Lists.{map_or, has, same_number}
use Rattle.sd_plan.specs.topo.Network.{greatest_delay}
use Rattle.sd_plan.specs.declared.Hop as declared
use Rattle.sd_plan.specs.declared.Plan.{Plan}
use Rattle.sd_plan.specs.declared.Duty.{Duty}
use Rattle.sd_plan.specs.declared.Edge.{Edge}
use Rattle.sd_plan.specs.Plans.{is_root, backup_of}
use Rattle.sd_plan.specs.Duties.{edge_of}
use Rattle.sd_plan.specs.Walks.{hops, walk, end_of, devices_of}
use Rattle.sd_device.specs.declared.msg.Message.{Message}
use Rattle.sd_device.specs.Calls as calls
use Rattle.sd_device.specs.Calls.{Transition, Past}
use Rattle.sd_device.specs.Words.{transition_of, accepted_over, duty_now, epoch_now, given_now, has_moved, is_acting, parent_edge, primary_now, backup_now}
use Rattle.sd_sched.specs.declared.Event.{Event}
use Rattle.sd_history.specs.World.{Setting, is_up, plan_numbered}
use Rattle.sd_history.specs.Steps.{Step, seen_of, acts_in}
use Rattle.sd_history.specs.Chronicle.{past_in, chronicle}
use Rattle.sd_history.proofs.Given.{some_is, HasDuties}
use Rattle.sd_safety.proofs.invariant.Parts.{premises_of}
use Rattle.sd_safety.specs.invariant.Bounds.{depth, delay}
use Rattle.sd_safety.specs.invariant.Eras.{era, plan_now, heard_at, is_old, on_primary, moved, root_failed, device_failed_now}
use Rattle.sd_safety.specs.invariant.Clauses.{backup_root_stays}
use Rattle.sd_safety.specs.invariant.Silences.{root_failed_at}
use Rattle.sd_safety.specs.invariant.Invariant.{Invariant, HasFallback, AtEach}
use Rattle.sd_safety.specs.invariant.Guarded.{IsSteady}
use Rattle.sd_safety.specs.invariant.Coming.{IsNextEvent, AtNext}
use Rattle.sd_safety.proofs.invariant.Facts.{IsSound, sound_now}
use Rattle.sd_safety.proofs.invariant.Parents.{IsPlanned, duties_planned}
use Rattle.sd_safety.proofs.invariant.Prefix.{clean_before}
use Rattle.sd_safety.proofs.invariant.Sides.{not_both}
use Rattle.sd_safety.specs.messages.Moments.{Tail, whole, behind, Moment, upto, IsIn, when, Emits, Accepts, entering, following, is_emission}
use Rattle.sd_safety.specs.messages.Traces.{Hop, Trace, begins, goes_on, Traced}
use Rattle.sd_safety.proofs.messages.Tails.{tail_trans, tail_chronicle, history_chronicle}
use Rattle.sd_safety.proofs.messages.Tracing.{accepted_traced}
use Rattle.sd_safety.proofs.messages.Latest.{trace_emits, trace_first}
use Rattle.sd_safety.proofs.messages.Receipts.{call_is}
use Rattle.sd_safety.proofs.messages.Parents.{hop_parent}
use Rattle.sd_safety.proofs.messages.Overlap.{hop_time}
use Rattle.sd_safety.proofs.messages.Flowing.{tail_rest}
use Rattle.sd_safety.proofs.waits.Waits.{Stands, old_stands}
use Rattle.sd_safety.proofs.waits.LookingBack.{two_parts}
use Rattle.sd_safety.proofs.silences.FallbackWay.{falls, the_hop}
use Rattle.sd_safety.proofs.silences.Phases.{era_grows}
use Rattle.sd_safety.specs.frame.Descents.{TakesFromAbove}
use Rattle.sd_safety.proofs.frame.Descending.{takes_from_above}
use Rattle.sd_safety.proofs.frame.Telling.{links_tell}
use Rattle.sd_safety.proofs.moves.Ahead.{IsAhead, always_ahead}
use Rattle.sd_safety.proofs.windows.Senders.{called_is_up}
use Rattle.sd_safety.proofs.receipts.Hearings.{IsHeard, LastHeard, last_heard}
use Rattle.sd_safety.proofs.receipts.Stood.{core_of, clean_of, each_of, stood_then, next_stood, history_of, moved_is, acts_is, epoch_is, primary_is}
use Rattle.sd_safety.proofs.receipts.Alive.{WasAlive, was_alive, IsOf, events_of_tail}
use Rattle.sd_safety.proofs.entering.Stages.{Stage, stage}
use Rattle.sd_safety.proofs.spans.PathHears.{spared}
use Rattle.sd_safety.specs.fallbacks.Moved.{MovedHearsNoMore}
use Rattle.sd_safety.proofs.traced.UpTheWalk.{FromRoot, at_root, from_root}
use Rattle.sd_safety.proofs.traced.Roots.{root_takes_none}
use Rattle.sd_safety.proofs.traced.Unmoved.{started_by}
use Rattle.sd_safety.proofs.traced.BeforeFailure.{emits_before}
use Rattle.sd_safety.proofs.traced.Primaries.{on_path, heard_by_failure}
use Rattle.sd_safety.proofs.fallbacks.Fallbacks.{reach, stood_on_fallback}
use Rattle.sd_safety.proofs.behind.Failing.{chronicle_tail}
use Rattle.sd_safety.proofs.messages.Following.{parent_is_idle}

-- what accepts begins no round
accepts_no_round : (transition : Transition) (edge : Edge) → accepted_over transition ≡ Some edge → is_emission transition ≡ true → ⊥
accepts_no_round calls.Emitted edge over is = cc
accepts_no_round _ edge over is = cc

-- the parent edge of one that has moved is that of its backup hop
backup_edge : (past : Past) (edge : Edge) → has_moved past ≡ true → parent_edge past ≡ Some edge → (is_acting past ≡ false) × (backup_now past ≡ Some edge)
backup_edge past edge put is = by (is_acting past) refl
  where
    by : (a : Bool) → is_acting past ≡ a → (is_acting past ≡ false) × (backup_now past ≡ Some edge)
    by true acts = absurd (never (sym (ap (λ b. if b then None else if has_moved past then backup_now past else primary_now past) acts) ∙ is))
      where
        never : ◌≡◌ {A = Option Edge} None (Some edge) → ⊥
        never same = cc
    by false idle = (
      idle,
      sym (ap (λ b. if b then None else if has_moved past then backup_now past else primary_now past) idle
          ∙ ap (λ b. if b then backup_now past else primary_now past) put) ∙ is,
    )

parent_of_edge : (setting : Setting) (y : ℕ) (h : declared.Hop) (o : Option declared.Hop) (edge : Edge) → o ≡ Some h
    → option_map (edge_of setting.net y) o ≡ Some edge → h.parent ≡ edge.parent
parent_of_edge setting y h None edge is same = cc
parent_of_edge setting y h (Some g) edge is same = ap (λ (k : declared.Hop). k.parent) (sym (some_is is)) ∙ ap (λ (k : Edge). k.parent) (some_is same)

longer : (a g k d : ℕ) → a ≤ g + k * d → a ≤ g + (k + 1) * d
longer a g k d le = let more : (k + 1) * d ≡ k * d + d = omega (arith) in omega (arith, le, more)

module _ (setting : Setting) (x : Event) (h : List Event) (e : Event) (comes : IsNextEvent setting (x ∷ h) e)
    (failed : root_failed setting (chronicle setting (x ∷ h)) ≡ true)
    (heard : IsHeard setting (x ∷ h) (plan_now setting (chronicle setting (x ∷ h))).backup_root (era (chronicle setting (x ∷ h)))) where
  abbrev steps : List Step
  steps = chronicle setting (x ∷ h)

  abbrev plan : Plan
  plan = plan_now setting (chronicle setting (x ∷ h))

  abbrev b : ℕ
  b = (plan_now setting (chronicle setting (x ∷ h))).backup_root

  clean : IsSteady setting (x ∷ h)
  clean = clean_before setting e (x ∷ h) comes.clean

  fine : IsSound setting.net (plan_now setting (chronicle setting (x ∷ h)))
  fine = sound_now setting (x ∷ h) comes.fair clean.is

  other : is_root (plan_now setting (chronicle setting (x ∷ h))) b ≡ false
  other = false_from_ne_true (is_root plan b) (λ is. not_both (nat_eq b plan.root) (eq-eqb b plan.root (sym (eqb-true plan.root b is))) fine.apart)

  -- the moment of the receipt, as an event that comes
  st : Stage setting heard.moment
  st = stage setting comes.fair heard.moment h x clean comes.before.0 heard.inside

  earlier_is : heard.moment.earlier ≡ chronicle setting st.h
  earlier_is = ap (λ (p : Moment). p.earlier) st.is

  there : past_in (chronicle setting st.h) b ≡ Some heard.past
  there = subst (λ l. past_in l b ≡ Some heard.past) earlier_is heard.there

  up : is_up (seen_of (chronicle setting st.h)) b ≡ true
  up = (called_is_up setting (chronicle setting st.h) b (calls.Receive heard.link heard.message heard.counter) st.e st.comes.clean.is.1
      (sym (ap (λ (p : Moment). p.step.act) st.is) ∙ heard.act)).up

  inside : Tail (chronicle setting st.h) (chronicle setting (x ∷ h))
  inside = subst (λ (l : List Step). Tail l steps) earlier_is (tail_trans (behind whole) heard.inside)

  clean_at : IsSteady setting st.h
  clean_at = clean_before setting st.e st.h st.comes.clean

  least : era (chronicle setting st.h) ≤ era (chronicle setting (x ∷ h))
  least = era_grows (chronicle setting st.h) steps inside

  traced : Traced setting heard.message.stamp heard.message.epoch heard.moment b
  traced =
      accepted_traced setting steps (history_chronicle setting (x ∷ h) clean.is)
      (premises_of setting (seen_of steps) clean.premises).delay heard.moment heard.inside b heard.link heard.message heard.counter heard.past heard.edge
      heard.there heard.act heard.over

  abbrev Bound : Type 0
  Bound = heard_at (chronicle setting (x ∷ h)) b ≤ root_failed_at setting (chronicle setting (x ∷ h)) + (depth setting.net + 1) * delay setting.net

  abbrev StoodOn : Type 0
  StoodOn =
      (y : ℕ) → on_path setting x h comes.fair clean comes.before b fine.fits.backup_root fine.backup_member other heard y ≡ true → is_root plan y ≡ false
      → (q : Moment) → IsIn q (upto heard.moment) → (past : Past) → past_in q.earlier y ≡ Some past
      → epoch_now past ≡ era (chronicle setting (x ∷ h)) → (has_moved past ≡ false) × (is_acting past ≡ false)

  over_path : StoodOn → Bound
  over_path stood =
      longer (heard_at steps b) (root_failed_at setting steps) (depth setting.net) (delay setting.net)
      (heard_by_failure setting x h comes.fair clean comes.before b fine.fits.backup_root fine.backup_member other heard stood failed)

  -- up to the receipt
  so_far : (q : Moment) → IsIn q (upto heard.moment) → Tail q.earlier (chronicle setting st.h)
  so_far q q_in = subst (λ l. Tail q.earlier l) earlier_is (tail_rest q_in)

  -- before the plan was in force nobody had moved or acted in it but its root
  stood_ahead : era (chronicle setting st.h) < era (chronicle setting (x ∷ h)) → StoodOn
  stood_ahead less y on low q q_in past there_ own =
      let of : IsOf setting st.h q.earlier = events_of_tail setting st.h q.earlier (so_far q q_in) in
      let then_ : past_in (chronicle setting of.events) y ≡ Some past = subst (λ l. past_in l y ≡ Some past) of.is there_ in
      let was : WasAlive setting of.events y past = was_alive setting of.events (history_of setting of.events st.h of.tail clean_at.is) y past then_ in
      let tail : Tail was.then_ st.h = tail_trans was.tail of.tail in
      let le : era (chronicle setting was.then_) ≤ era (chronicle setting st.h) =
      era_grows (chronicle setting was.then_) (chronicle setting st.h) (chronicle_tail setting was.then_ st.h tail) in
      next_stood setting was.then_ comes.fair (clean_of setting was.then_ st.h tail clean_at)
      (core_of setting was.then_ (each_of setting was.then_ st.h tail st.comes.before)) y past was.up was.there (era steps) own
      (omega (arith, le, less)) low

  -- while the backup root stood on its primary nobody of its path had
  stood_now : era (chronicle setting st.h) ≡ era (chronicle setting (x ∷ h)) → epoch_now heard.past ≡ era (chronicle setting (x ∷ h))
      → has_moved heard.past ≡ false → is_acting heard.past ≡ false → StoodOn
  stood_now same own put idle y on low q q_in past there_ own_ =
      let older : List Step = chronicle setting st.h in
      let plans : plan_now setting older ≡ plan = ap (plan_numbered setting) same in
      let old : is_old older b ≡ true = ap (λ o. same_number o (era older)) (epoch_is setting st.h b heard.past up there)
      ∙ eq-eqb (epoch_now heard.past) (era older) (own ∙ sym same) in
      let primary : on_primary older b ≡ true = primary_is setting st.h b heard.past up there
      ∙ neither (has_moved heard.past) (is_acting heard.past) put idle in
      let stays : backup_root_stays setting older ≡ true =
      subst (λ (p : Plan). (is_old older p.backup_root && on_primary older p.backup_root) ≡ true) (sym plans)
      (and_from (is_old older b) (on_primary older b) old primary) in
      stood_then setting st.h comes.fair clean_at st.comes.before stays y
      (subst (λ (p : Plan). (nat_eq y p.backup_root || has (map (λ (z : declared.Hop). z.parent) (walk setting.net p p.backup_root)) y) ≡ true) (sym plans) on)
      (subst (λ p. is_root p y ≡ false) (sym plans) low)
      q.earlier (so_far q q_in) past there_ (own_ ∙ sym same)
    where
      neither : (m a : Bool) → m ≡ false → a ≡ false → (not m && not a) ≡ true
      neither false false one two = refl
      neither true a one two = cc
      neither false true one two = cc

  -- over the fallback
  module _ (same : era (chronicle setting st.h) ≡ era (chronicle setting (x ∷ h))) (own : epoch_now heard.past ≡ era (chronicle setting (x ∷ h)))
      (put : has_moved heard.past ≡ true) (fallback : HasFallback setting (chronicle setting st.h)) where
    abbrev older : List Step
    older = chronicle setting st.h

    abbrev plan_at : Plan
    plan_at = plan_now setting (chronicle setting st.h)

    plans : plan_now setting (chronicle setting st.h) ≡ plan_now setting (chronicle setting (x ∷ h))
    plans = ap (plan_numbered setting) same

    b_same : plan_at.backup_root ≡ b
    b_same = ap (λ (p : Plan). p.backup_root) plans

    fine_at : IsSound setting.net (plan_now setting (chronicle setting st.h))
    fine_at = sound_now setting st.h comes.fair clean_at.is

    old_at : is_old (chronicle setting st.h) b ≡ true
    old_at = ap (λ o. same_number o (era older)) (epoch_is setting st.h b heard.past up there) ∙ eq-eqb (epoch_now heard.past) (era older) (own ∙ sym same)

    the_backup : (hop : declared.Hop) × (backup_of plan_at plan_at.backup_root ≡ Some hop)
    the_backup = the_hop (backup_of plan_at plan_at.backup_root) (falls setting.net plan_at fine_at.guarded.structure fine_at.fits.backup_root)

    abbrev hop : declared.Hop
    hop = the_backup.0

    -- a hop over which it took the message while it did not act
    module _ (m : ℕ) (from : Moment) (z : ℕ) (trace : Trace setting heard.message.stamp heard.message.epoch traced.first traced.source m from z)
        (last : Hop setting heard.message.stamp heard.message.epoch from z heard.moment b)
        (edge : Edge) (edge_is : last.receipt.edge ≡ edge) (idle : is_acting heard.past ≡ false) (backup : backup_now heard.past ≡ Some edge) where
      put_at : moved (chronicle setting st.h) plan_at.backup_root ≡ true
      put_at = subst (λ v. moved older v ≡ true) (sym b_same) (moved_is setting st.h b heard.past up there ∙ put)

      idle_at : acts_in (chronicle setting st.h) plan_at.backup_root ≡ false
      idle_at = subst (λ v. acts_in older v ≡ false) (sym b_same) (acts_is setting st.h b heard.past up there ∙ idle)

      old_b : is_old (chronicle setting st.h) plan_at.backup_root ≡ true
      old_b = subst (λ v. is_old older v ≡ true) (sym b_same) old_at

      self_at : device_failed_now (chronicle setting st.h) plan_at.backup_root ≡ false
      self_at = spared_here st.h st.e st.comes old_b
        where
          spared_here : (hs : List Event) (f : Event) → IsNextEvent setting hs f
              → is_old (chronicle setting hs) (plan_now setting (chronicle setting hs)).backup_root ≡ true
              → device_failed_now (chronicle setting hs) (plan_now setting (chronicle setting hs)).backup_root ≡ false
          spared_here [] f comes' is = refl
          spared_here (y ∷ hs) f comes' is = (spared setting y hs f comes' (plan_now setting (chronicle setting (y ∷ hs))).backup_root is).self

      parent : hop.parent ≡ z
      parent =
          let has_duties : HasDuties (IsPlanned setting b) heard.past = duties_planned setting st.h b heard.past there in
          parent_of_edge setting b hop (backup_of plan_at b) edge (subst (λ v. backup_of plan_at v ≡ Some hop) b_same the_backup.1)
          (by_duty has_duties (duty_now heard.past) refl) ∙ ap (λ (k : Edge). k.parent) (sym edge_is)
          ∙ hop_parent setting heard.message.stamp heard.message.epoch from heard.moment z b
          (tail_chronicle setting heard.inside (history_chronicle setting (x ∷ h) clean.is)) (links_tell comes.fair heard.message.epoch) last
        where
          by_duty : HasDuties (IsPlanned setting b) heard.past → (o : Option Duty) → duty_now heard.past ≡ o
              → option_map (edge_of setting.net b) (backup_of plan_at b) ≡ Some edge
          by_duty duties None none = absurd (never (sym (ap (λ (o : Option Duty). map_or o None (λ u. u.backup)) none) ∙ backup))
            where
              never : ◌≡◌ {A = Option Edge} None (Some edge) → ⊥
              never is = cc
          by_duty duties (Some u) is =
              let number : u.epoch ≡ era older = sym (ap (λ (o : Option Duty). map_or o 0 (λ v. v.epoch)) is) ∙ own ∙ sym same in
              let planned : IsPlanned setting b u = duties.duty u is in
              sym (ap (λ (v : Duty). v.backup) planned.is ∙ ap (λ k. option_map (edge_of setting.net b) (backup_of (plan_numbered setting k) b)) number)
              ∙ sym (ap (λ (o : Option Duty). map_or o None (λ v. v.backup)) is) ∙ backup

      from_in : IsIn from (chronicle setting st.h)
      from_in = subst (λ l. Tail (upto from) l) earlier_is last.before

      epoch_at : heard.message.epoch ≡ era (chronicle setting st.h)
      epoch_at = heard.epoch ∙ sym same

      abbrev on : ℕ → Bool
      on y = has (devices_of hop.parent (walk setting.net plan_at hop.parent)) y

      down : (y : ℕ) → on y ≡ true → is_root plan_at y ≡ false → (q : Moment) → IsIn q (upto from)
          → TakesFromAbove setting plan_at heard.message.stamp heard.message.epoch q y
      down y on_ low q q_in =
          let within_ : IsIn q older = tail_trans q_in from_in in
          subst (λ k. TakesFromAbove setting plan_at heard.message.stamp k q y) (sym epoch_at)
          (takes_from_above setting (links_tell comes.fair) heard.message.stamp (era older) q y
          (tail_chronicle setting within_ (history_chronicle setting st.h clean_at.is))
          (λ past there_ own_. stood_on_fallback setting st.h comes.fair clean_at st.comes.before fallback old_b put_at idle_at self_at hop the_backup.1 y on_
          low q.earlier (tail_trans (behind whole) within_) past there_ own_))

      relays_none : (q : Moment) → IsIn q (upto from) → (from_ : Moment) (v : ℕ) → Hop setting heard.message.stamp heard.message.epoch from_ v q plan_at.root
          → ⊥
      relays_none q q_in from_ v hop_ =
          root_takes_none setting st.h comes.fair clean_at st.comes.before q (tail_trans q_in from_in) heard.message.stamp from_ v
          (subst (λ k. Hop setting heard.message.stamp k from_ v q plan_at.root) epoch_at hop_)

      up_trace : Trace setting heard.message.stamp heard.message.epoch traced.first traced.source m from hop.parent
      up_trace = subst (λ v. Trace setting heard.message.stamp heard.message.epoch traced.first traced.source m from v) (sym parent) trace

      -- the root emitted it, so long before
      emitted : (traced.source ≡ plan_at.root) × (when from ≤ when traced.first + depth setting.net * delay setting.net)
      emitted = by (is_root plan_at hop.parent) refl
        where
          longer_by : (a c k : ℕ) → a ≡ c → c ≤ a + k
          longer_by a c k is = omega (arith, is)

          by : (r : Bool) → is_root plan_at hop.parent ≡ r → (traced.source ≡ plan_at.root)
              × (when from ≤ when traced.first + depth setting.net * delay setting.net)
          by true root =
              let top = at_root setting plan_at heard.message.stamp heard.message.epoch from on down relays_none traced.first traced.source m from hop.parent
              up_trace root whole in
              (top.0, longer_by (when traced.first) (when from) (depth setting.net * delay setting.net) top.1)
          by false low =
              let walk_is : walk setting.net plan_at hop.parent ≡ hops (is_root plan_at) plan_at setting.net.params.depth hop.parent =
              ap (λ c. if c then [] else hops (is_root plan_at) plan_at setting.net.params.depth hop.parent) low in
              let f : FromRoot setting plan_at heard.message.stamp heard.message.epoch from on down relays_none traced.first traced.source from
              setting.net.params.depth =
              from_root setting plan_at heard.message.stamp heard.message.epoch from on down relays_none traced.first traced.source setting.net.params.depth
              from hop.parent m up_trace whole
              (or_left (nat_eq hop.parent hop.parent) _ (eq-eqb hop.parent hop.parent refl)) low
              (λ v a. or_right (nat_eq v hop.parent) (has (map (λ (k : declared.Hop). k.parent) (walk setting.net plan_at hop.parent)) v)
              (subst (λ hs. has (map (λ (k : declared.Hop). k.parent) hs) v ≡ true) (sym walk_is) a))
              (subst (λ hs. is_root plan_at (end_of hop.parent hs) ≡ true) walk_is
              (reach setting st.h comes.fair clean_at st.comes.before fallback old_b put_at idle_at self_at hop the_backup.1)) in
              (f.source_is, f.time)

      over_fallback : Bound
      over_fallback =
          let told = trace_emits setting heard.message.stamp heard.message.epoch traced.first traced.source m from z trace in
          let first_in : IsIn traced.first steps =
          tail_trans (tail_trans (trace_first setting heard.message.stamp heard.message.epoch traced.first traced.source m from z trace) from_in) inside in
          let emits : Emits traced.first plan.root told.0 = subst (λ v. Emits traced.first v told.0) (emitted.0 ∙ ap (λ (p : Plan). p.root) plans) told.1 in
          let before : when traced.first ≤ root_failed_at setting steps =
          emits_before setting x h comes.fair clean comes.before failed traced.first first_in told.0 emits (told.3 ∙ heard.epoch) in
          let hop_time_ : when heard.moment ≤ when from + greatest_delay setting.net =
          hop_time setting heard.message.stamp heard.message.epoch from heard.moment z b last in
          sum (heard_at steps b) (when heard.moment) (when from) (when traced.first) (root_failed_at setting steps) (depth setting.net)
          (delay setting.net) heard.time hop_time_ emitted.1 before
        where
          sum : (a r f t g k d : ℕ) → a ≡ r → r ≤ f + d → f ≤ t + k * d → t ≤ g → a ≤ g + (k + 1) * d
          sum a r f t g k d one two three four = let more : (k + 1) * d ≡ k * d + d = omega (arith) in omega (arith, one, two, three, four, more)

  -- by why it accepted
  by_hop : (m : ℕ) (from : Moment) (z : ℕ) → Trace setting heard.message.stamp heard.message.epoch traced.first traced.source m from z
      → (last : Hop setting heard.message.stamp heard.message.epoch from z heard.moment b) → Bound
  by_hop m from z trace last = go last.receipt.accepts
    where
      past_same : last.receipt.past ≡ heard.past
      past_same = some_is (sym last.receipt.there ∙ heard.there)

      fallback_of : (hs : List Event) (past : Past) → past_in (chronicle setting hs) b ≡ Some past → AtEach (Invariant setting) (chronicle setting hs)
          → HasFallback setting (chronicle setting hs)
      fallback_of [] past there_ each = cc
      fallback_of (y ∷ hs) past there_ each = each.1.fallback

      with_past : epoch_now heard.past ≡ era (chronicle setting (x ∷ h)) → parent_edge heard.past ≡ Some last.receipt.edge → (m_ : Bool)
          → has_moved heard.past ≡ m_ → (era (chronicle setting st.h) < era (chronicle setting (x ∷ h)))
          ⊎ (era (chronicle setting (x ∷ h)) ≤ era (chronicle setting st.h)) → Bound
      with_past own edge false put (inl less) = over_path (stood_ahead less)
      with_past own edge false put (inr more) = over_path (stood_now (le_antisymm least more) own put (parent_is_idle heard.past last.receipt.edge edge))
      with_past own edge true put (inl less) =
          absurd (not_both (has_moved heard.past) put
          (next_stood setting st.h comes.fair clean_at (core_of setting st.h st.comes.before) b heard.past up there (era steps) own less other).0)
      with_past own edge true put (inr more) =
          let same : era (chronicle setting st.h) ≡ era steps = le_antisymm least more in
          let back = backup_edge heard.past last.receipt.edge put edge in
          over_fallback same own put (fallback_of st.h heard.past there st.comes.before) m from z trace last last.receipt.edge refl back.0 back.1

      go : Accepts last.receipt.past last.flight.message last.receipt.edge → Bound
      go (entering duty given number primary) =
          let ahead : IsAhead setting (chronicle setting st.h) b heard.past duty =
          always_ahead setting st.h comes.fair clean_at st.comes.before b heard.past up there duty (subst (λ p. given_now p ≡ Some duty) past_same given) in
          let next : era steps ≡ era (chronicle setting st.h) + 1 = sym heard.epoch ∙ sym last.epoch_is ∙ sym number ∙ ahead.number in
          over_path (stood_ahead (omega (arith, next)))
      go (following epoch parent newer) =
          with_past (sym (ap epoch_now past_same) ∙ epoch ∙ last.epoch_is ∙ heard.epoch) (subst (λ p. parent_edge p ≡ Some last.receipt.edge) past_same parent)
          (has_moved heard.past) refl (cases_lt (era (chronicle setting st.h)) (era steps))

  begins_none : (message : Message) → Emits heard.moment b message → ⊥
  begins_none message emits =
      let s = emits.sends in
      let same_past : s.past ≡ heard.past = some_is (sym s.there ∙ heard.there) in
      let same_call : s.call ≡ calls.Receive heard.link heard.message heard.counter = call_is (sym s.act ∙ heard.act) in
      accepts_no_round (transition_of heard.past (calls.Receive heard.link heard.message heard.counter)) heard.edge heard.over
      (subst (λ c. is_emission (transition_of heard.past c) ≡ true) same_call
      (subst (λ p. is_emission (transition_of p s.call) ≡ true) same_past emits.emission))

  by_trace : (m : ℕ) (q : Moment) (v : ℕ) → Trace setting heard.message.stamp heard.message.epoch traced.first traced.source m q v → q ≡ heard.moment → v ≡ b
      → Bound
  by_trace zero q v (begins message emits carries epoch_is) at_ is =
      absurd (begins_none message (subst (λ w. Emits heard.moment w message) is (subst (λ (p : Moment). Emits p v message) at_ emits)))
  by_trace (suc m) q v (goes_on {from = from} {x = z} trace hop) at_ is =
      by_hop m from z trace
      (subst (λ w. Hop setting heard.message.stamp heard.message.epoch from z heard.moment w) is
      (subst (λ (p : Moment). Hop setting heard.message.stamp heard.message.epoch from z p v) at_ hop))

  pub moved_by_failure : heard_at (chronicle setting (x ∷ h)) (plan_now setting (chronicle setting (x ∷ h))).backup_root ≤ root_failed_at setting
      (chronicle setting (x ∷ h)) + (depth setting.net + 1) * delay setting.net
  moved_by_failure = by_trace traced.hops heard.moment b traced.trace refl refl

pub moved_hears_no_more : (setting : Setting) → AtNext MovedHearsNoMore setting
moved_hears_no_more setting [] e comes failed old on = cc
moved_hears_no_more setting (x ∷ h) e comes failed old on =
    by (last_heard setting (x ∷ h) (clean_before setting e (x ∷ h) comes.clean).is (plan_now setting (chronicle setting (x ∷ h))).backup_root s.past s.there
    (era (chronicle setting (x ∷ h))) (ap (λ (o : Option Duty). map_or o 0 (λ u. u.epoch)) s.duty) (one_at_least (chronicle setting (x ∷ h)))
    (sym s.acts_is
    ∙ (two_parts (moved (chronicle setting (x ∷ h)) (plan_now setting (chronicle setting (x ∷ h))).backup_root)
    (acts_in (chronicle setting (x ∷ h)) (plan_now setting (chronicle setting (x ∷ h))).backup_root) on).1))
  where
    s : Stands setting (chronicle setting (x ∷ h)) (plan_now setting (chronicle setting (x ∷ h))).backup_root
    s = old_stands setting (x ∷ h) (plan_now setting (chronicle setting (x ∷ h))).backup_root old

    one_at_least : (l : List Step) → 1 ≤ era l
    one_at_least l = omega arith

    by : LastHeard setting (x ∷ h) (plan_now setting (chronicle setting (x ∷ h))).backup_root (era (chronicle setting (x ∷ h)))
        → heard_at (chronicle setting (x ∷ h)) (plan_now setting (chronicle setting (x ∷ h))).backup_root ≤ root_failed_at setting
        (chronicle setting (x ∷ h)) + (depth setting.net + 1) * delay setting.net
    by (inl heard) = moved_by_failure setting x h e comes failed heard
    by (inr started) = started_by setting x h e comes started
