-- What a message tells the backup root: at most what the root sends and the halves of one of its two ways. While it is on its primary, or of a plan that is
-- yet to come, nobody of its path has moved; once it has moved, nobody of its fallback has.
use Rattle.std.specs.Prelude.{◌≡◌, ℕ, ◌+◌, ◌<◌, ◌≤◌, Bool, true, false, ◌&&◌, ◌||◌, List, [], ◌∷◌, length, map, nat_eq, Option, Some, None, option_map, refl, ◌⊎◌, if◌then◌else◌}
use Rattle.std.proofs.Common.{arith, ap, sym, ◌∙◌, subst, inl, inr, le_antisymm}
use Rattle.std.proofs.lemmas.Bool.{and_from, eqb-true, eq-eqb, cases_lt, false_from_ne_true}
use Rattle.sd_num.specs.Lists.{map_or, has, same_number}
use Rattle.sd_plan.specs.topo.Network.{bounds_of}
use Rattle.sd_plan.specs.declared.domain.DomainId.{DomainId}
use Rattle.sd_plan.specs.declared.Hop as declared
use Rattle.sd_plan.specs.declared.Plan.{Plan}
use Rattle.sd_plan.specs.declared.Duty.{Duty}
use Rattle.sd_plan.specs.declared.Edge.{Edge}
use Rattle.sd_plan.specs.Duties.{edge_of}
use Rattle.sd_plan.specs.Plans.{is_member, is_root, primary_of, backup_of}
use Rattle.sd_plan.specs.Walks.{walk, on_walk}
use Rattle.sd_plan.proofs.Forest.{IsForest, forest_of, on_itself, on_up, on_within, on_through}
use Rattle.sd_drill.specs.recovery.Walks.{halves}
use Rattle.sd_drill.specs.declared.Budget.{Budget}
use Rattle.sd_drill.specs.Drill.{root_halves}
use Rattle.sd_device.specs.declared.msg.Message.{Message}
use Rattle.sd_device.specs.Calls as calls
use Rattle.sd_device.specs.Calls.{Past}
use Rattle.sd_device.specs.Words.{given_now, duty_now, epoch_now, has_moved, is_acting, parent_edge, primary_now, backup_now, estimate_now}
use Rattle.sd_sched.specs.declared.Event.{Event}
use Rattle.sd_history.specs.World.{Setting, is_up, plan_numbered}
use Rattle.sd_history.specs.Steps.{Step, seen_of, acts_in}
use Rattle.sd_history.specs.Chronicle.{past_in, chronicle}
use Rattle.sd_history.proofs.Given.{some_is, HasDuties}
use Rattle.sd_safety.specs.invariant.Eras.{era, plan_now, is_old, on_primary, moved, device_failed_now}
use Rattle.sd_safety.specs.invariant.Clauses.{backup_root_stays}
use Rattle.sd_safety.specs.invariant.Invariant.{Invariant, HasFallback, AtEach}
use Rattle.sd_safety.specs.invariant.Guarded.{AreGuarded, IsSteady}
use Rattle.sd_safety.specs.invariant.Coming.{IsNextEvent}
use Rattle.sd_safety.proofs.invariant.Parts.{premises_of}
use Rattle.sd_safety.proofs.invariant.Parents.{IsPlanned, duties_planned}
use Rattle.sd_safety.proofs.invariant.Sides.{not_both}
use Rattle.sd_safety.proofs.invariant.Prefix.{clean_before}
use Rattle.sd_safety.proofs.invariant.Facts.{IsSound, sound_now}
use Rattle.sd_safety.specs.messages.Moments.{Tail, whole, IsChronicle, Moment, upto, IsIn, Emits, Accepts, entering, following}
use Rattle.sd_safety.specs.messages.Traces.{Hop, Trace, goes_on}
use Rattle.sd_safety.proofs.messages.Tails.{tail_trans, rest_of, tail_chronicle, history_chronicle}
use Rattle.sd_safety.proofs.messages.Flowing.{tail_rest}
use Rattle.sd_safety.proofs.messages.Parents.{hop_parent}
use Rattle.sd_safety.proofs.silences.Phases.{era_grows}
use Rattle.sd_safety.proofs.silences.FallbackWay.{falls, the_hop}
use Rattle.sd_safety.proofs.frame.Telling.{links_tell}
use Rattle.sd_safety.proofs.moves.Ahead.{IsAhead, always_ahead}
use Rattle.sd_safety.proofs.windows.Senders.{called_is_up}
use Rattle.sd_safety.proofs.receipts.Stood.{core_of, clean_of, each_of, stood_then, next_stood, history_of, moved_is, acts_is, epoch_is, primary_is, put_so}
use Rattle.sd_safety.proofs.receipts.Alive.{WasAlive, was_alive, IsOf, events_of_tail}
use Rattle.sd_safety.proofs.entering.Stages.{Stage, stage}
use Rattle.sd_safety.proofs.spans.PathHears.{spared}
use Rattle.sd_safety.proofs.behind.Failing.{chronicle_tail}
use Rattle.sd_safety.proofs.traced.Roots.{root_takes_none}
use Rattle.sd_safety.proofs.fallbacks.Fallbacks.{stood_on_fallback}
use Rattle.sd_bound.proofs.bases.Planned.{LeadsRight, well_planned, path_halves, fallback_halves}
use Rattle.sd_bound.proofs.bases.Sums.{sent_by_root, hop_direct, within_halves}
use Rattle.sd_bound.proofs.rebased.Sets.{ByMessage}
use Rattle.sd_bound.proofs.rebased.Carried.{carried_by, next_carries, equal_sums, carried_down, LastHop, last_hop, brings_heard}

-- the edge to the parent of who does not act is of the hop that it is on
pub edge_on : (past : Past) (edge : Edge) → parent_edge past ≡ Some edge
    → (is_acting past ≡ false) × ((if has_moved past then backup_now past else primary_now past) ≡ Some edge)
edge_on past edge is = by (is_acting past) refl
  where
    by : (a : Bool) → is_acting past ≡ a → (is_acting past ≡ false) × ((if has_moved past then backup_now past else primary_now past) ≡ Some edge)
    by true acts = absurd (never (sym (ap (λ b. if b then None else if has_moved past then backup_now past else primary_now past) acts) ∙ is))
      where
        never : ◌≡◌ {A = Option Edge} None (Some edge) → ⊥
        never same = cc
    by false idle = (idle, sym (ap (λ b. if b then None else if has_moved past then backup_now past else primary_now past) idle) ∙ is)

module _ (setting : Setting) (x : Event) (h : List Event) (fair : AreGuarded setting) (clean : IsSteady setting (x ∷ h))
    (each : AtEach (Invariant setting) (chronicle setting (x ∷ h))) (budget : Budget) (f : DomainId)
    (root_sends : (q : Moment) → IsIn q (chronicle setting (x ∷ h)) → (m : Message) → Emits q (plan_now setting (chronicle setting (x ∷ h))).root m
    → m.epoch ≡ era (chronicle setting (x ∷ h)) → m.eps ≤ sent_by_root setting.net (plan_now setting (chronicle setting (x ∷ h))) budget)
    (past : Past) (heard : ByMessage (chronicle setting (x ∷ h)) (plan_now setting (chronicle setting (x ∷ h))).backup_root past)
    (own_now : epoch_now past ≡ era (chronicle setting (x ∷ h))) where
  abbrev steps : List Step
  steps = chronicle setting (x ∷ h)

  abbrev plan : Plan
  plan = plan_now setting (chronicle setting (x ∷ h))

  abbrev b : ℕ
  b = (plan_now setting (chronicle setting (x ∷ h))).backup_root

  abbrev n : ℕ
  n = era (chronicle setting (x ∷ h))

  fine : IsSound setting.net (plan_now setting (chronicle setting (x ∷ h)))
  fine = sound_now setting (x ∷ h) fair clean.is

  other : is_root (plan_now setting (chronicle setting (x ∷ h))) b ≡ false
  other = false_from_ne_true (is_root plan b) (λ is. not_both (nat_eq b plan.root) (eq-eqb b plan.root (sym (eqb-true plan.root b is))) fine.apart)

  forest : IsForest setting.net (plan_now setting (chronicle setting (x ∷ h)))
  forest = forest_of setting.net plan fine.fits fine.guarded.structure

  number : heard.message.epoch ≡ era (chronicle setting (x ∷ h))
  number = heard.epoch ∙ own_now

  -- the moment of the receipt, as an event that comes
  st : Stage setting heard.moment
  st = stage setting fair heard.moment h x clean each.0 heard.inside

  earlier_is : heard.moment.earlier ≡ chronicle setting st.h
  earlier_is = ap (λ (p : Moment). p.earlier) st.is

  there : past_in (chronicle setting st.h) b ≡ Some heard.was
  there = subst (λ l. past_in l b ≡ Some heard.was) earlier_is heard.there

  up : is_up (seen_of (chronicle setting st.h)) b ≡ true
  up = (called_is_up setting (chronicle setting st.h) b (calls.Receive heard.link heard.message heard.counter) st.e st.comes.clean.is.1
      (sym (ap (λ (p : Moment). p.step.act) st.is) ∙ heard.act)).up

  inside : Tail (chronicle setting st.h) (chronicle setting (x ∷ h))
  inside = subst (λ (l : List Step). Tail l steps) earlier_is (rest_of heard.inside)

  clean_at : IsSteady setting st.h
  clean_at = clean_before setting st.e st.h st.comes.clean

  least : era (chronicle setting st.h) ≤ era (chronicle setting (x ∷ h))
  least = era_grows (chronicle setting st.h) steps inside

  chronicle_ : IsChronicle setting (chronicle setting (x ∷ h))
  chronicle_ = history_chronicle setting (x ∷ h) clean.is

  came : LastHop setting heard.message.stamp heard.message.epoch heard.moment b
  came =
      last_hop setting steps chronicle_ (premises_of setting (seen_of steps) clean.premises).delay b past heard

  last_of : LastHop setting heard.message.stamp (era (chronicle setting (x ∷ h))) heard.moment b
  last_of = subst (λ k. LastHop setting heard.message.stamp k heard.moment b) number came

  abbrev Bound : Type 0
  Bound = heard.message.eps + heard.edge.bounds.half ≤ sent_by_root setting.net plan budget + root_halves setting.net plan

  -- what the last hop brought is what was heard
  brought : (first : Moment) (source m : ℕ) (from : Moment) (z : ℕ) → Trace setting heard.message.stamp (era (chronicle setting (x ∷ h))) first source m from z
      → (last : Hop setting heard.message.stamp (era (chronicle setting (x ∷ h))) from z heard.moment b)
      → last.flight.message.eps + last.receipt.edge.bounds.half ≤ sent_by_root setting.net plan budget + root_halves setting.net plan → Bound
  brought first source m from z trace last le =
      subst (λ k. k ≤ sent_by_root setting.net plan budget + root_halves setting.net plan)
      (brings_heard setting steps b past heard heard.message.stamp n from z last) le

  -- on a way, at each moment up to the receipt
  takes_none : (q : Moment) → IsIn q (upto heard.moment) → (from : Moment) (v : ℕ) → Hop setting heard.message.stamp (era (chronicle setting (x ∷ h))) from v q plan.root
      → ⊥
  takes_none q q_in from v hop = root_takes_none setting (x ∷ h) fair clean each q (tail_trans q_in heard.inside) heard.message.stamp from v hop

  sends : (q : Moment) → IsIn q (upto heard.moment) → (m : Message) → Emits q plan.root m → m.epoch ≡ era (chronicle setting (x ∷ h))
      → m.eps ≤ sent_by_root setting.net plan budget
  sends q q_in m emits epoch = root_sends q (tail_trans q_in heard.inside) m emits epoch

  climbs : (top : ℕ) → top < length setting.net.devices → (y : ℕ) (hop : declared.Hop) → on_walk setting.net plan top y ≡ true → is_root plan y ≡ false
      → primary_of plan y ≡ Some hop → on_walk setting.net plan top hop.parent ≡ true
  climbs top within y hop on low is =
      on_through setting.net plan forest top y hop.parent within on
      (on_up setting.net plan y hop.parent hop (forest.up y hop (on_within setting.net plan forest y top within on) is).walk
      ∙ ap (λ c. nat_eq hop.parent y || c) (on_itself setting.net plan hop.parent) ∙ or_true (nat_eq hop.parent y))
    where
      or_true : (c : Bool) → (c || true) ≡ true
      or_true true = refl
      or_true false = refl

  abbrev StoodOn : Type 0
  StoodOn =
      (y : ℕ) → on_walk setting.net plan b y ≡ true → is_root plan y ≡ false
      → (q : Moment) → IsIn q (upto heard.moment) → (old : Past) → past_in q.earlier y ≡ Some old
      → epoch_now old ≡ era (chronicle setting (x ∷ h)) → (has_moved old ≡ false) × (is_acting old ≡ false)

  -- up to the receipt
  so_far : (q : Moment) → IsIn q (upto heard.moment) → Tail q.earlier (chronicle setting st.h)
  so_far q q_in = subst (λ l. Tail q.earlier l) earlier_is (tail_rest q_in)

  -- before the plan was in force nobody had moved or acted in it but its root
  stood_ahead : era (chronicle setting st.h) < era (chronicle setting (x ∷ h)) → StoodOn
  stood_ahead less y on low q q_in old there_ own =
      let of : IsOf setting st.h q.earlier = events_of_tail setting st.h q.earlier (so_far q q_in) in
      let then_ : past_in (chronicle setting of.events) y ≡ Some old = subst (λ l. past_in l y ≡ Some old) of.is there_ in
      let was : WasAlive setting of.events y old = was_alive setting of.events (history_of setting of.events st.h of.tail clean_at.is) y old then_ in
      let tail : Tail was.then_ st.h = tail_trans was.tail of.tail in
      let le : era (chronicle setting was.then_) ≤ era (chronicle setting st.h) =
      era_grows (chronicle setting was.then_) (chronicle setting st.h) (chronicle_tail setting was.then_ st.h tail) in
      next_stood setting was.then_ fair (clean_of setting was.then_ st.h tail clean_at)
      (core_of setting was.then_ (each_of setting was.then_ st.h tail st.comes.before)) y old was.up was.there (era steps) own
      (omega (arith, le, less)) low

  -- while the backup root stood on its primary nobody of its path had
  stood_now : era (chronicle setting st.h) ≡ era (chronicle setting (x ∷ h)) → epoch_now heard.was ≡ era (chronicle setting (x ∷ h))
      → has_moved heard.was ≡ false → is_acting heard.was ≡ false → StoodOn
  stood_now same own put idle y on low q q_in old there_ own_ =
      let older : List Step = chronicle setting st.h in
      let plans : plan_now setting older ≡ plan = ap (plan_numbered setting) same in
      let is : is_old older b ≡ true = ap (λ o. same_number o (era older)) (epoch_is setting st.h b heard.was up there)
      ∙ eq-eqb (epoch_now heard.was) (era older) (own ∙ sym same) in
      let primary : on_primary older b ≡ true = primary_is setting st.h b heard.was up there
      ∙ put_so (has_moved heard.was) (is_acting heard.was) put idle in
      let stays : backup_root_stays setting older ≡ true =
      subst (λ (p : Plan). (is_old older p.backup_root && on_primary older p.backup_root) ≡ true) (sym plans)
      (and_from (is_old older b) (on_primary older b) is primary) in
      stood_then setting st.h fair clean_at st.comes.before stays y
      (subst (λ (p : Plan). (nat_eq y p.backup_root || has (map (λ (v : declared.Hop). v.parent) (walk setting.net p p.backup_root)) y) ≡ true) (sym plans) on)
      (subst (λ p. is_root p y ≡ false) (sym plans) low)
      q.earlier (so_far q q_in) old there_ (own_ ∙ sym same)

  over_path : StoodOn → (first : Moment) (source m : ℕ) (from : Moment) (z : ℕ)
      → (trace : Trace setting heard.message.stamp (era (chronicle setting (x ∷ h))) first source m from z)
      → (last : Hop setting heard.message.stamp (era (chronicle setting (x ∷ h))) from z heard.moment b) → Bound
  over_path stood first source m from z trace last =
      brought first source m from z trace last
      (within_halves setting.net plan budget f (last.flight.message.eps + last.receipt.edge.bounds.half) (halves setting.net b (walk setting.net plan b))
      (carried_down setting fair n budget f fine heard.message.stamp heard.moment (tail_chronicle setting heard.inside chronicle_)
      (on_walk setting.net plan b) (climbs b fine.fits.backup_root) stood takes_none sends (goes_on trace last) whole (on_itself setting.net plan b)
      fine.fits.backup_root fine.backup_member)
      (path_halves setting.net plan))

  -- over the fallback
  module _ (same : era (chronicle setting st.h) ≡ era (chronicle setting (x ∷ h))) (own : epoch_now heard.was ≡ era (chronicle setting (x ∷ h)))
      (put : has_moved heard.was ≡ true) (fallback : HasFallback setting (chronicle setting st.h))
      (first : Moment) (source m : ℕ) (from : Moment) (z : ℕ)
      (trace : Trace setting heard.message.stamp (era (chronicle setting (x ∷ h))) first source m from z)
      (last : Hop setting heard.message.stamp (era (chronicle setting (x ∷ h))) from z heard.moment b)
      (idle : is_acting heard.was ≡ false) (backup : backup_now heard.was ≡ Some last.receipt.edge) where
    abbrev older : List Step
    older = chronicle setting st.h

    abbrev plan_at : Plan
    plan_at = plan_now setting (chronicle setting st.h)

    plans : plan_now setting (chronicle setting st.h) ≡ plan_now setting (chronicle setting (x ∷ h))
    plans = ap (plan_numbered setting) same

    -- what is said of the plan is said of the plan then
    to_then : (P : Plan → Type 0) → P (plan_now setting (chronicle setting (x ∷ h))) → P (plan_now setting (chronicle setting st.h))
    to_then P is = subst P (sym plans) is

    the_backup : (hop : declared.Hop) × (backup_of plan b ≡ Some hop)
    the_backup = the_hop (backup_of plan b) (falls setting.net plan fine.guarded.structure fine.fits.backup_root)

    abbrev hop : declared.Hop
    hop = the_backup.0

    old_b : is_old (chronicle setting st.h) plan_at.backup_root ≡ true
    old_b =
        to_then (λ p. is_old older p.backup_root ≡ true)
        (ap (λ o. same_number o (era older)) (epoch_is setting st.h b heard.was up there) ∙ eq-eqb (epoch_now heard.was) (era older) (own ∙ sym same))

    put_at : moved (chronicle setting st.h) plan_at.backup_root ≡ true
    put_at = to_then (λ p. moved older p.backup_root ≡ true) (moved_is setting st.h b heard.was up there ∙ put)

    idle_at : acts_in (chronicle setting st.h) plan_at.backup_root ≡ false
    idle_at = to_then (λ p. acts_in older p.backup_root ≡ false) (acts_is setting st.h b heard.was up there ∙ idle)

    -- it was of the plan in force, so it had not failed
    self_at : device_failed_now (chronicle setting st.h) plan_at.backup_root ≡ false
    self_at = spared_here st.h st.e st.comes old_b
      where
        spared_here : (hs : List Event) (g : Event) → IsNextEvent setting hs g
            → is_old (chronicle setting hs) (plan_now setting (chronicle setting hs)).backup_root ≡ true
            → device_failed_now (chronicle setting hs) (plan_now setting (chronicle setting hs)).backup_root ≡ false
        spared_here [] g next is = refl
        spared_here (y ∷ hs) g next is = (spared setting y hs g next (plan_now setting (chronicle setting (y ∷ hs))).backup_root is).self

    -- its last hop is the backup hop
    edge_is : option_map (edge_of setting.net b) (backup_of plan b) ≡ Some last.receipt.edge
    edge_is = by_duty (duties_planned setting st.h b heard.was there) (duty_now heard.was) refl
      where
        by_duty : HasDuties (IsPlanned setting b) heard.was → (o : Option Duty) → duty_now heard.was ≡ o
            → option_map (edge_of setting.net b) (backup_of plan b) ≡ Some last.receipt.edge
        by_duty duties None none = absurd (never (sym (ap (λ (o : Option Duty). map_or o None (λ u. u.backup)) none) ∙ backup))
          where
            never : ◌≡◌ {A = Option Edge} None (Some last.receipt.edge) → ⊥
            never is = cc
        by_duty duties (Some u) is =
            let numbered : u.epoch ≡ n = sym (ap (λ (o : Option Duty). map_or o 0 (λ v. v.epoch)) is) ∙ own in
            let told : IsPlanned setting b u = duties.duty u is in
            sym (ap (λ (v : Duty). v.backup) told.is ∙ ap (λ k. option_map (edge_of setting.net b) (backup_of (plan_numbered setting k) b)) numbered)
            ∙ sym (ap (λ (o : Option Duty). map_or o None (λ v. v.backup)) is) ∙ backup

    edge_same_ : edge_of setting.net b hop ≡ last.receipt.edge
    edge_same_ = some_is (sym (ap (option_map (edge_of setting.net b)) the_backup.1) ∙ edge_is)

    half : last.receipt.edge.bounds.half ≡ (bounds_of setting.net hop.link b).half
    half = ap (λ (k : Edge). k.bounds.half) (sym edge_same_)

    parent : hop.parent ≡ z
    parent =
        ap (λ (k : Edge). k.parent) edge_same_
        ∙ hop_parent setting heard.message.stamp n from heard.moment z b (tail_chronicle setting heard.inside chronicle_) (links_tell fair n) last

    from_in : IsIn from (chronicle setting st.h)
    from_in = subst (λ l. Tail (upto from) l) earlier_is last.before

    up_to : IsIn from (chronicle setting (x ∷ h))
    up_to = tail_trans from_in inside

    leads : LeadsRight setting.net plan b hop
    leads = (well_planned setting.net plan fine).leads b hop fine.fits.backup_root (inr the_backup.1)

    stood_back : (y : ℕ) → on_walk setting.net plan hop.parent y ≡ true → is_root plan y ≡ false → (q : Moment) → IsIn q (upto from) → (old : Past)
        → past_in q.earlier y ≡ Some old → epoch_now old ≡ era (chronicle setting (x ∷ h)) → (has_moved old ≡ false) × (is_acting old ≡ false)
    stood_back y on low q q_in old there_ own_ =
        stood_on_fallback setting st.h fair clean_at st.comes.before fallback old_b put_at idle_at self_at hop
        (to_then (λ p. backup_of p p.backup_root ≡ Some hop) the_backup.1) y (to_then (λ p. on_walk setting.net p hop.parent y ≡ true) on)
        (to_then (λ p. is_root p y ≡ false) low) q.earlier (rest_of (tail_trans q_in from_in)) old there_ (own_ ∙ sym same)

    over_fallback : Bound
    over_fallback =
        let carried_z : carried_by trace ≤ sent_by_root setting.net plan budget + halves setting.net z (walk setting.net plan z) =
        carried_down setting fair n budget f fine heard.message.stamp from (tail_chronicle setting up_to chronicle_) (on_walk setting.net plan hop.parent)
        (climbs hop.parent leads.within) stood_back
        (λ q q_in from_ v hop_. root_takes_none setting (x ∷ h) fair clean each q (tail_trans q_in up_to) heard.message.stamp from_ v hop_)
        (λ q q_in k emits epoch. root_sends q (tail_trans q_in up_to) k emits epoch) trace whole
        (subst (λ v. on_walk setting.net plan hop.parent v ≡ true) parent (on_itself setting.net plan hop.parent))
        (subst (λ v. v < length setting.net.devices) parent leads.within) (subst (λ v. is_member plan v ≡ true) parent leads.member) in
        brought first source m from z trace last
        (equal_sums last.flight.message.eps last.receipt.edge.bounds.half (carried_by trace) (bounds_of setting.net hop.link b).half
        (sent_by_root setting.net plan budget + root_halves setting.net plan)
        (next_carries trace (tail_chronicle setting up_to chronicle_) heard.moment b last) half
        (within_halves setting.net plan budget f (carried_by trace + (bounds_of setting.net hop.link b).half)
        (halves setting.net b (hop ∷ walk setting.net plan hop.parent))
        (hop_direct setting.net plan budget f b (carried_by trace) hop
        (subst (λ v. carried_by trace ≤ sent_by_root setting.net plan budget + halves setting.net v (walk setting.net plan v)) (sym parent) carried_z))
        (fallback_halves setting.net plan hop the_backup.1)))

  -- by why it accepted
  by_hop : (first : Moment) (source m : ℕ) (from : Moment) (z : ℕ)
      → Trace setting heard.message.stamp (era (chronicle setting (x ∷ h))) first source m from z
      → (last : Hop setting heard.message.stamp (era (chronicle setting (x ∷ h))) from z heard.moment b) → Bound
  by_hop first source m from z trace last = go last.receipt.accepts
    where
      same_past : last.receipt.past ≡ heard.was
      same_past = some_is (sym last.receipt.there ∙ heard.there)

      fallback_of : (hs : List Event) (old : Past) → past_in (chronicle setting hs) b ≡ Some old → AtEach (Invariant setting) (chronicle setting hs)
          → HasFallback setting (chronicle setting hs)
      fallback_of [] old there_ each_ = cc
      fallback_of (y ∷ hs) old there_ each_ = each_.1.fallback

      with_past : epoch_now heard.was ≡ era (chronicle setting (x ∷ h)) → parent_edge heard.was ≡ Some last.receipt.edge → (m_ : Bool)
          → has_moved heard.was ≡ m_ → (era (chronicle setting st.h) < era (chronicle setting (x ∷ h)))
          ⊎ (era (chronicle setting (x ∷ h)) ≤ era (chronicle setting st.h)) → Bound
      with_past own edge false put (inl less) = over_path (stood_ahead less) first source m from z trace last
      with_past own edge false put (inr more) =
          over_path (stood_now (le_antisymm least more) own put (edge_on heard.was last.receipt.edge edge).0) first source m from z trace last
      with_past own edge true put (inl less) =
          absurd (not_both (has_moved heard.was) put
          (next_stood setting st.h fair clean_at (core_of setting st.h st.comes.before) b heard.was up there n own less other).0)
      with_past own edge true put (inr more) =
          let on = edge_on heard.was last.receipt.edge edge in
          over_fallback (le_antisymm least more) own put (fallback_of st.h heard.was there st.comes.before) first source m from z trace
          last on.0 (sym (ap (λ c. if c then backup_now heard.was else primary_now heard.was) put) ∙ on.1)

      go : Accepts last.receipt.past last.flight.message last.receipt.edge → Bound
      go (entering duty given epoch primary) =
          let ahead : IsAhead setting (chronicle setting st.h) b heard.was duty =
          always_ahead setting st.h fair clean_at st.comes.before b heard.was up there duty (subst (λ p. given_now p ≡ Some duty) same_past given) in
          let next : n ≡ era (chronicle setting st.h) + 1 = sym last.epoch_is ∙ sym epoch ∙ ahead.number in
          over_path (stood_ahead (omega (arith, next))) first source m from z trace last
      go (following epoch edge newer) =
          with_past (sym (ap epoch_now same_past) ∙ epoch ∙ last.epoch_is) (subst (λ p. parent_edge p ≡ Some last.receipt.edge) same_past edge)
          (has_moved heard.was) refl (cases_lt (era (chronicle setting st.h)) n)

  pub backup_root_based : (estimate_now past).base ≤ sent_by_root setting.net plan budget + root_halves setting.net plan
  backup_root_based =
      subst (λ k. k ≤ sent_by_root setting.net plan budget + root_halves setting.net plan) (sym heard.base)
      (by_hop last_of.first last_of.source last_of.hops last_of.from last_of.through last_of.trace last_of.last)
