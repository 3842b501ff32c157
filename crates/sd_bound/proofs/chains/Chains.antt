-- Where devices had time to move, each one that comes to hear again is at the end of a chain: the acting end itself; the backup root over the way of the round
-- that
-- it heard last, or over its fallback; a device with a backup on its primary over such a way too; and others over their next hops. By induction on the length
-- of
-- their walks.
use Rattle.std.specs.Prelude.{◌≡◌, ℕ, zero, suc, ◌+◌, ◌<◌, ◌≤◌, Bool, true, false, List, ◌∷◌, Option, Some, None, refl}
use Rattle.std.specs.List.{list_all}
use Rattle.std.proofs.Common.{arith, ap, sym, ◌∙◌, subst}
use Rattle.std.proofs.lemmas.Bool.{eqb-true, false_from_ne_true}
use Rattle.sd_num.specs.Lists.{map_or}
use Rattle.sd_plan.specs.declared.topo.Thing.{Thing}
use Rattle.sd_plan.specs.declared.topo.Thing.TheVariants as thing
use Rattle.sd_plan.specs.domain.Domains.{holds}
use Rattle.sd_plan.specs.declared.domain.DomainId.{DomainId}
use Rattle.sd_plan.specs.declared.Hop.{Hop}
use Rattle.sd_plan.specs.declared.Plan.{Plan}
use Rattle.sd_plan.specs.Plans.{is_root, is_backup_root, has_backup, backup_of}
use Rattle.sd_plan.specs.Walks.{epath, is_hit}
use Rattle.sd_plan.proofs.Forest.{IsForest, forest_of}
use Rattle.sd_checker.specs.check_reach.Reach.{Fed}
use Rattle.sd_sched.specs.declared.Event.{Event}
use Rattle.sd_sched.specs.Events.{reference_of}
use Rattle.sd_history.specs.World.{Setting}
use Rattle.sd_history.specs.Steps.{Step, acts_in}
use Rattle.sd_history.specs.Chronicle.{chronicle}
use Rattle.sd_safety.specs.invariant.Bounds.{depth, tick_gap, first_up, wait_up}
use Rattle.sd_safety.specs.invariant.Eras.{is_among, failed_now, heard_at, moved}
use Rattle.sd_safety.proofs.invariant.Domains.{held, touched_is_hit}
use Rattle.sd_safety.proofs.invariant.Facts.{IsSound}
use Rattle.sd_safety.proofs.invariant.Sides.{not_both}
use Rattle.sd_safety.specs.messages.Moments.{whole, Moment, upto, when, IsIn}
use Rattle.sd_safety.proofs.silences.SoundWays.{top_of}
use Rattle.sd_bound.specs.timeouts.Settled.{the_plan, IsSettled, IsSoundMember, IsOrdinary, Place, Scene, hop_on}
use Rattle.sd_bound.proofs.timeouts.Backed.{moved_backed}
use Rattle.sd_bound.proofs.timeouts.Scenes.{scene_at}
use Rattle.sd_bound.proofs.timeouts.Onward.{onward_at}
use Rattle.sd_bound.proofs.timeouts.Since.{kept_since, FirstPast, first_past, from_first}
use Rattle.sd_bound.specs.traces.Led.{ActsSince, at_source, onward, IsWithin}
use Rattle.sd_bound.proofs.traces.Lengths.{Shorter, shorter, allowed}
use Rattle.sd_bound.proofs.traces.Receipts.{fine_at}
use Rattle.sd_bound.proofs.traces.Sounding.{IsPlanned, planned_hop}
use Rattle.sd_bound.specs.chains.Chains.{Chain, passing, IsTurned}
use Rattle.sd_bound.proofs.chains.Fallbacks.{fallback_chain}
use Rattle.sd_bound.proofs.chains.Hearing.{served}
use Rattle.sd_bound.proofs.chains.Nexts.{IsNextFed, next_fed}

heard_after : (w h a b limit : ℕ) → w ≤ h + b → limit < w → a + b ≤ limit → a < h
heard_after w h a b limit by late le = omega (arith, by, late, le)

module _ (setting : Setting) (epoch : ℕ) (x : Event) (h : List Event) (e : Event) (calm : ℕ) (settled : IsSettled setting epoch (x ∷ h) e calm) (f : DomainId)
    (inside : list_all (holds setting.net f) (failed_now (chronicle setting (x ∷ h))) ≡ true)
    (limit : ℕ) (turned : IsTurned setting.net (the_plan setting epoch) calm limit) (late : limit < reference_of e)
    (soon : (q : Moment) → IsIn q (chronicle setting (e ∷ x ∷ h)) → calm < when q
    → is_among (failed_now (chronicle setting (x ∷ h))) (thing.Device (the_plan setting epoch).root) ≡ true
    → acts_in q.earlier (the_plan setting epoch).backup_root ≡ false → when q ≤ limit) where
  abbrev top : Moment
  top = top_of setting (x ∷ h) e

  abbrev plan : Plan
  plan = the_plan setting epoch

  abbrev Reached : ℕ → ℕ → Type 0
  Reached y k = Chain setting epoch (failed_now (chronicle setting (x ∷ h))) (top_of setting (x ∷ h) e) limit y k

  abbrev Well : ℕ → Type 0
  Well y = IsSoundMember setting epoch (failed_now (chronicle setting (x ∷ h))) y

  from : calm ≤ limit
  from = let le = turned.wait in omega (arith, le)

  -- the first event at which all had time to move
  first : FirstPast limit (chronicle setting (e ∷ x ∷ h))
  first = first_past limit (chronicle setting (e ∷ x ∷ h)) late

  calm_at : (q : Moment) → limit < when q → calm < when q
  calm_at q q_late = omega (arith, from, q_late)

  scene_then : (q : Moment) → IsIn q (chronicle setting (e ∷ x ∷ h)) → limit < when q → Scene setting epoch (failed_now (chronicle setting (x ∷ h))) q
  scene_then q q_in q_late = scene_at setting epoch (x ∷ h) e calm settled q q_in (calm_at q q_late)

  first_scene : Scene setting epoch (failed_now (chronicle setting (x ∷ h))) first.moment
  first_scene = scene_then first.moment first.is_in first.late

  fine : IsSound setting.net (the_plan setting epoch)
  fine = fine_at setting epoch (x ∷ h) e calm settled first.moment first.is_in (calm_at first.moment first.late)

  -- what is kept from event to event holds from then on where it held at first
  onwards : (P : List Step → Type 0) → ((r : Moment) → IsIn r (chronicle setting (x ∷ h)) → calm < when r → P r.earlier → P (upto r)) → P first.moment.earlier
      → (q : Moment) → IsIn q (chronicle setting (e ∷ x ∷ h)) → limit < when q → P q.earlier
  onwards P keeps holds_ q q_in q_late =
      kept_since setting epoch (x ∷ h) e calm settled P keeps first.moment first.is_in (calm_at first.moment first.late) holds_ q q_in
      (from_first setting epoch (x ∷ h) e calm settled limit first.moment first.is_in first.before q q_in q_late)

  moved_onwards : (y : ℕ) → Well y → moved first.moment.earlier y ≡ true → (q : Moment) → IsIn q (chronicle setting (e ∷ x ∷ h)) → limit < when q
      → moved q.earlier y ≡ true
  moved_onwards y well put =
      onwards (λ l. moved l y ≡ true) (λ r r_in r_late is. (onward_at setting epoch (x ∷ h) e calm settled r r_in r_late y well).moved_on is) put

  acts_onwards : (y : ℕ) → Well y → acts_in first.moment.earlier y ≡ true → (q : Moment) → IsIn q (chronicle setting (e ∷ x ∷ h)) → limit < when q
      → acts_in q.earlier y ≡ true
  acts_onwards y well acts =
      onwards (λ l. acts_in l y ≡ true) (λ r r_in r_late is. (onward_at setting epoch (x ∷ h) e calm settled r r_in r_late y well).acts_on is) acts

  unmoved_onwards : (y : ℕ) → Well y → IsOrdinary setting epoch y → has_backup (the_plan setting epoch) y ≡ false → moved first.moment.earlier y ≡ false → (q : Moment)
      → IsIn q (chronicle setting (e ∷ x ∷ h)) → limit < when q → moved q.earlier y ≡ false
  unmoved_onwards y well ordinary none unmoved =
      onwards (λ l. moved l y ≡ false) (λ r r_in r_late is. (onward_at setting epoch (x ∷ h) e calm settled r r_in r_late y well).primary ordinary none ∙ is) unmoved

  -- who acts is a chain of its own
  source_chain : (y k : ℕ) → Well y → ActsSince (top_of setting (x ∷ h) e) limit y → Reached y k
  source_chain y k well acts = record { source = y; well = well; acts = acts; hops = 0; led = at_source; short = omega arith }

  -- what the domain spares did not fail
  spared : (thing_ : Thing) → holds setting.net f thing_ ≡ false → is_among (failed_now (chronicle setting (x ∷ h))) thing_ ≡ false
  spared thing_ none =
      false_from_ne_true (is_among (failed_now (chronicle setting (x ∷ h))) thing_)
      (λ is. not_both (holds setting.net f thing_) (held setting.net f (failed_now (chronicle setting (x ∷ h))) thing_ inside is) none)

  -- the backup root
  backup_root_chain : (y k : ℕ) → y ≡ (the_plan setting epoch).backup_root → Well y → IsWithin setting epoch f y k → k ≤ depth setting.net + 1 → Reached y k
  backup_root_chain y k same well within few = by_acts (acts_in first.moment.earlier y) refl
    where
      well_b : Well plan.backup_root
      well_b = subst Well same well

      by_moved : acts_in first.moment.earlier y ≡ false → is_among (failed_now (chronicle setting (x ∷ h))) (thing.Device plan.root) ≡ false → (m : Bool)
          → moved first.moment.earlier y ≡ m → Reached y k
      by_moved idle kept false unmoved =
          served setting epoch x h e calm settled f inside limit from y k well within few first.moment first.is_in first.before
          (heard_after (when first.moment) (heard_at first.moment.earlier y) (calm + passing setting.net)
          (first_up setting.net plan + tick_gap setting.net) limit
          (subst (λ z. when first.moment ≤ heard_at first.moment.earlier z + (first_up setting.net plan + tick_gap setting.net)) (sym same)
          (first_scene.timeout_first well_b (subst (λ z. moved first.moment.earlier z ≡ false) same unmoved)
          (subst (λ z. acts_in first.moment.earlier z ≡ false) same idle)))
          first.late turned.first)
      by_moved idle kept true put =
          subst (λ z. Reached z k) (sym same)
          (fallback_chain setting epoch (failed_now (chronicle setting (x ∷ h))) (top_of setting (x ∷ h) e) limit fine scene_then late whole kept well_b
          (moved_onwards plan.backup_root well_b (subst (λ z. moved first.moment.earlier z ≡ true) same put)) k)

      by_root : acts_in first.moment.earlier y ≡ false → (b : Bool) → is_among (failed_now (chronicle setting (x ∷ h))) (thing.Device plan.root) ≡ b
          → Reached y k
      by_root idle true lost =
          let by = soon first.moment first.is_in (calm_at first.moment first.late) lost (subst (λ z. acts_in first.moment.earlier z ≡ false) same idle) in
          let after_ = first.late in
          absurd (omega (arith, by, after_))
      by_root idle false kept = by_moved idle kept (moved first.moment.earlier y) refl

      by_acts : (b : Bool) → acts_in first.moment.earlier y ≡ b → Reached y k
      by_acts true acts = source_chain y k well (acts_onwards y well acts)
      by_acts false idle = by_root idle (is_among (failed_now (chronicle setting (x ∷ h))) (thing.Device plan.root)) refl

  -- chains to where hops lead
  abbrev Again : ℕ → Type 0
  Again k = (z j : ℕ) → k ≡ suc j → Fed setting.net (the_plan setting epoch) f z → IsSoundMember setting epoch (failed_now (chronicle setting (x ∷ h))) z → IsWithin setting epoch f z j
      → Chain setting epoch (failed_now (chronicle setting (x ∷ h))) (top_of setting (x ∷ h) e) limit z j

  -- neither root nor backup root
  module _ (y k : ℕ) (fed : Fed setting.net (the_plan setting epoch) f y) (well : IsSoundMember setting epoch (failed_now (chronicle setting (x ∷ h))) y)
      (within : IsWithin setting epoch f y k) (few : k ≤ depth setting.net + 1) (ordinary : IsOrdinary setting epoch y) (again : Again k) where
    -- over its next hop
    turned_chain : (put : Bool) (hop : Hop) → hop_on (the_plan setting epoch) put y ≡ Some hop → (put ≡ true → is_hit setting.net (the_plan setting epoch) f y ≡ true)
        → (put ≡ false → backup_of (the_plan setting epoch) y ≡ None)
        → ((q : Moment) → IsIn q (chronicle setting (e ∷ x ∷ h)) → limit < when q → moved q.earlier y ≡ put) → Reached y k
    turned_chain put hop is hit none stays =
        let n : IsNextFed setting.net plan f hop = next_fed setting.net plan fine f y well.known ordinary.0 ordinary.1 put hop is hit none fed in
        let p : IsPlanned setting.net plan y hop = planned_hop setting.net plan fine y well.known put hop is in
        let s : Shorter setting epoch f hop.parent k =
        shorter setting epoch f y k hop within (allowed setting.net plan f y put hop well.member ordinary.0 ordinary.1 is hit) in
        let c : Reached hop.parent s.rest =
        again hop.parent s.rest s.is n.fed (record { known = p.within.0; member = p.member; self = spared (thing.Device hop.parent) n.parent }) s.within in
        record {
          source = c.source;
          well = c.well;
          acts = c.acts;
          hops = suc c.hops;
          led = onward c.led y put hop well is refl (spared (thing.Link hop.link) n.link)
              (λ q q_in q_late. (stays q q_in q_late, (scene_then q q_in q_late).ordinary y well ordinary));
          short = longer c.hops s.rest s.is c.short;
        }
      where
        longer : (n j : ℕ) → k ≡ suc j → n ≤ j + (depth setting.net + 1) → suc n ≤ k + (depth setting.net + 1)
        longer n j is' le = omega (arith, is', le)

    on_backup_chain : moved first.moment.earlier y ≡ true → (o : Option Hop) → backup_of (the_plan setting epoch) y ≡ o → Reached y k
    on_backup_chain put None is =
        let p : Place setting epoch first.moment y = first_scene.place y well in
        absurd
        (not_both (has_backup plan y)
        (moved_backed first.moment.earlier setting.net plan epoch y p.past p.there p.duty ordinary.0 ordinary.1 (sym p.moved_is ∙ put))
        (ap (λ o. map_or o false (λ (hop : Hop). true)) is))
    on_backup_chain put (Some hop) is =
        turned_chain true hop is
        (λ _. touched_is_hit setting.net f (failed_now (chronicle setting (x ∷ h))) (epath setting.net plan y) inside (first_scene.hit y well ordinary put))
        (λ never. cc) (moved_onwards y well put)

    on_primary_chain : moved first.moment.earlier y ≡ false → (o : Option Hop) → backup_of (the_plan setting epoch) y ≡ o → Reached y k
    on_primary_chain unmoved (Some hop) is =
        served setting epoch x h e calm settled f inside limit from y k well within few first.moment first.is_in first.before
        (heard_after (when first.moment) (heard_at first.moment.earlier y) (calm + passing setting.net) (wait_up setting.net plan + tick_gap setting.net) limit
        (first_scene.timeout y well ordinary (ap (λ o. map_or o false (λ (z : Hop). true)) is) unmoved) first.late turned.wait)
    on_primary_chain unmoved None is =
        let forest : IsForest setting.net plan = forest_of setting.net plan fine.fits fine.guarded.structure in
        let up = forest.hop y well.known well.member ordinary.0 in
        turned_chain false up.0 up.1 (λ never. cc) (λ _. is) (unmoved_onwards y well ordinary (ap (λ o. map_or o false (λ (z : Hop). true)) is) unmoved)

    ordinary_chain : Reached y k
    ordinary_chain = by (moved first.moment.earlier y) refl
      where
        by : (m : Bool) → moved first.moment.earlier y ≡ m → Reached y k
        by true put = on_backup_chain put (backup_of plan y) refl
        by false unmoved = on_primary_chain unmoved (backup_of plan y) refl

  by_role : (y k : ℕ) → Fed setting.net (the_plan setting epoch) f y → Well y → IsWithin setting epoch f y k → k ≤ depth setting.net + 1 → Again k → (r b : Bool)
      → is_root (the_plan setting epoch) y ≡ r → is_backup_root (the_plan setting epoch) y ≡ b → Reached y k
  by_role y k fed well within few again true b root backup =
      let same : plan.root ≡ y = eqb-true plan.root y root in
      let kept : is_among (failed_now (chronicle setting (x ∷ h))) (thing.Device plan.root) ≡ false =
      subst (λ z. is_among (failed_now (chronicle setting (x ∷ h))) (thing.Device z) ≡ false) (sym same) well.self in
      source_chain y k well (λ q q_in q_late. subst (λ z. acts_in q.earlier z ≡ true) same ((scene_then q q_in q_late).root kept))
  by_role y k fed well within few again false true root backup = backup_root_chain y k (sym (eqb-true plan.backup_root y backup)) well within few
  by_role y k fed well within few again false false root backup = ordinary_chain y k fed well within few (root, backup) again

  never : (j : ℕ) → zero ≡ suc j → ⊥
  never j is = omega (arith, is)

  one_less : (k j : ℕ) → suc k ≡ suc j → k ≡ j
  one_less k j is = omega (arith, is)

  less : (k : ℕ) → suc k ≤ depth setting.net + 1 → k ≤ depth setting.net + 1
  less k le = omega (arith, le)

  pub fed_chain : (k y : ℕ) → Fed setting.net (the_plan setting epoch) f y → IsSoundMember setting epoch (failed_now (chronicle setting (x ∷ h))) y → IsWithin setting epoch f y k
      → k ≤ depth setting.net + 1
      → Chain setting epoch (failed_now (chronicle setting (x ∷ h))) (top_of setting (x ∷ h) e) limit y k
  fed_chain zero y fed well within few =
      by_role y zero fed well within few (λ z j is fed_z well_z within_z. absurd (never j is)) (is_root plan y) (is_backup_root plan y) refl refl
  fed_chain (suc k) y fed well within few =
      by_role y (suc k) fed well within few
      (λ z j is fed_z well_z within_z.
      let same : k ≡ j = one_less k j is in
      subst (λ n. Reached z n) same (fed_chain k z fed_z well_z (subst (λ n. IsWithin setting epoch f z n) (sym same) within_z) (less k few)))
      (is_root plan y) (is_backup_root plan y) refl refl
