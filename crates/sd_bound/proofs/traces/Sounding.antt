-- A way whose devices remain in their places is sound, and so its last device hears soon: by the feeding lemma.
use Rattle.std.specs.Prelude.{◌≡◌, ℕ, zero, suc, ◌+◌, ◌*◌, ◌<◌, ◌≤◌, Bool, true, false, ◌&&◌, max, List, [], ◌∷◌, length, Option, Some, None, IfSome, refl, ◌⊎◌}
use Rattle.std.proofs.Common.{arith, ap, sym, ◌∙◌, subst, inl, inr}
use Rattle.std.proofs.lemmas.Bool.{cases_lt, and_parts}
use Rattle.sd_plan.specs.topo.Network.{Network, joins}
use Rattle.sd_plan.specs.declared.topo.Thing.TheVariants as thing
use Rattle.sd_plan.specs.declared.End.{End}
use Rattle.sd_plan.specs.declared.Hop.{Hop}
use Rattle.sd_plan.specs.declared.Plan.{Plan}
use Rattle.sd_plan.specs.Duties.{duty_of, follows_over}
use Rattle.sd_plan.specs.Plans.{IsHop, is_member, is_present, primary_of, backup_of}
use Rattle.sd_plan.specs.Structure.{hop_is_right}
use Rattle.sd_plan.proofs.Rules.{hops_within}
use Rattle.sd_device.specs.Calls.{Past}
use Rattle.sd_device.specs.Words.{duty_now, has_moved, is_acting}
use Rattle.sd_sched.specs.declared.Event.{Event}
use Rattle.sd_sched.specs.Events.{reference_of}
use Rattle.sd_history.specs.Things.{failure_of}
use Rattle.sd_history.specs.World.{Setting, is_thing, plan_numbered}
use Rattle.sd_history.specs.Steps.{Step, acts_in}
use Rattle.sd_history.specs.Chronicle.{chronicle}
use Rattle.sd_history.proofs.Among.{Among, first, later}
use Rattle.sd_history.proofs.Given.{some_is}
use Rattle.sd_safety.specs.invariant.Bounds.{rounds_gap, delay, depth}
use Rattle.sd_safety.specs.invariant.Eras.{is_among, failed_now, heard_at}
use Rattle.sd_safety.proofs.invariant.Facts.{IsSound}
use Rattle.sd_safety.proofs.invariant.Sides.{not_both}
use Rattle.sd_safety.specs.messages.Moments.{whole, behind, Moment, when, IsIn}
use Rattle.sd_safety.specs.messages.Rounds.{IsReady}
use Rattle.sd_safety.proofs.messages.Ends.{primary_follows, backup_follows}
use Rattle.sd_safety.proofs.waits.Standing.{sound}
use Rattle.sd_safety.specs.silences.Feeds.{IsSound as IsSoundHop, AreSound}
use Rattle.sd_safety.proofs.silences.Links.{alone}
use Rattle.sd_safety.proofs.silences.States.{ready_of}
use Rattle.sd_safety.proofs.silences.FallbackWay.{ready_back}
use Rattle.sd_safety.proofs.silences.Hearing.{unfed}
use Rattle.sd_safety.proofs.silences.SoundWays.{top_of}
use Rattle.sd_bound.specs.timeouts.Settled.{the_plan, IsSettled, IsSoundMember, Place, Scene, hop_on}
use Rattle.sd_bound.proofs.timeouts.Settled.{era_is, StageAt, stage_at}
use Rattle.sd_bound.proofs.timeouts.Scenes.{scene_at}
use Rattle.sd_bound.specs.traces.Led.{Remains, ActsSince, Led, at_source, onward}
use Rattle.sd_bound.proofs.traces.Sources.{feeds}

-- the hop of a device is one of the plan
pub record IsPlanned (net : Network) (plan : Plan) (y : ℕ) (hop : Hop) : Type 0 where
  pub within : IsHop net hop
  pub member : is_member plan hop.parent ≡ true
  pub present : is_present plan hop.link ≡ true

right_parts : (net : Network) (plan : Plan) (y : ℕ) (o : Option Hop) (hop : Hop) → hop_is_right net plan y o ≡ true → o ≡ Some hop
    → (is_member plan hop.parent ≡ true) × (is_present plan hop.link ≡ true)
right_parts net plan y o hop right is =
    let one : (is_member plan hop.parent && is_present plan hop.link && joins net hop.link y hop.parent) ≡ true =
    subst (λ k. hop_is_right net plan y k ≡ true) is right in
    and_parts (is_member plan hop.parent) (is_present plan hop.link)
    (and_parts (is_member plan hop.parent && is_present plan hop.link) (joins net hop.link y hop.parent) one).0

pub planned_hop : (net : Network) (plan : Plan) → IsSound net plan → (y : ℕ) → y < length net.devices → (put : Bool) (hop : Hop) → hop_on plan put y ≡ Some hop
    → IsPlanned net plan y hop
planned_hop net plan fine y known put hop is = by put is
  where
    rules : (hop_is_right net plan y (primary_of plan y) ≡ true) × (hop_is_right net plan y (backup_of plan y) ≡ true)
    rules = and_parts (hop_is_right net plan y (primary_of plan y)) (hop_is_right net plan y (backup_of plan y)) (fine.rules.hops y known)

    by : (b : Bool) → hop_on plan b y ≡ Some hop → IsPlanned net plan y hop
    by false is' =
        let parts = right_parts net plan y (primary_of plan y) hop rules.0 is' in
        record { within = subst (λ o. IfSome o (IsHop net)) is' (hops_within net plan y fine.fits).0; member = parts.0; present = parts.1 }
    by true is' =
        let parts = right_parts net plan y (backup_of plan y) hop rules.1 is' in
        record { within = subst (λ o. IfSome o (IsHop net)) is' (hops_within net plan y fine.fits).1; member = parts.0; present = parts.1 }

hop_follows : (plan : Plan) (y : ℕ) (put : Bool) (hop : Hop) → hop_on plan put y ≡ Some hop → follows_over plan hop.parent hop.link y ≡ true
hop_follows plan y false hop is = primary_follows plan y hop.parent hop.link hop is refl refl
hop_follows plan y true hop is = backup_follows plan y hop.parent hop.link hop is refl refl

longer : (n m : ℕ) → n + suc m ≡ suc n + m
longer n m = omega arith

none_more : (n : ℕ) → n ≡ zero + n
none_more n = omega arith

module _ (setting : Setting) (epoch : ℕ) (x : Event) (h : List Event) (e : Event) (calm : ℕ) (settled : IsSettled setting epoch (x ∷ h) e calm) (source : ℕ)
    (well : IsSoundMember setting epoch (failed_now (chronicle setting (x ∷ h))) source) where
  abbrev steps : List Step
  steps = chronicle setting (x ∷ h)

  abbrev plan : Plan
  plan = plan_numbered setting epoch

  fine : IsSound setting.net (plan_numbered setting epoch)
  fine = subst (λ n. IsSound setting.net (plan_numbered setting n)) (era_is setting epoch (x ∷ h) e calm settled) (sound setting x h e settled.comes)

  -- later than a reference before the top
  module _ (s1 : ℕ) (from : calm ≤ s1) (before_top : s1 < reference_of e) (acts : ActsSince (top_of setting (x ∷ h) e) s1 source) where
    scene_then : (q : Moment) → IsIn q (chronicle setting (e ∷ x ∷ h)) → s1 < when q → Scene setting epoch (failed_now (chronicle setting (x ∷ h))) q
    scene_then q here late = scene_at setting epoch (x ∷ h) e calm settled q here (omega (arith, from, late))

    hop_sound : (y : ℕ) (put : Bool) (hop : Hop) → IsSoundMember setting epoch (failed_now (chronicle setting (x ∷ h))) y → hop_on (the_plan setting epoch) put y ≡ Some hop
        → is_among (failed_now (chronicle setting (x ∷ h))) (thing.Link hop.link) ≡ false → Remains (top_of setting (x ∷ h) e) s1 y put
        → IsSoundHop setting (top_of setting (x ∷ h) e) epoch s1 source hop.parent (record { link = hop.link; device = y })
    hop_sound y put hop well_y is link remains =
        let p : IsPlanned setting.net plan y hop = planned_hop setting.net plan fine y well_y.known put hop is in
        let follows : follows_over plan hop.parent hop.link y ≡ true = hop_follows plan y put hop is in
        record {
          follows = follows;
          alone = λ c over. alone setting.net plan fine.fits fine.rules hop.parent hop.link y c follows over;
          known = (p.within.1, well_y.known);
          apart = λ same.
              not_both (acts_in steps source) (acts (top_of setting (x ∷ h) e) whole before_top)
              (subst (λ z. acts_in steps z ≡ false) same (remains (top_of setting (x ∷ h) e) whole before_top).1);
          ready = λ q here late past there.
              let s : Place setting epoch q y = (scene_then q (behind here) late).place y well_y in
              let stays = remains q (behind here) late in
              subst (λ k. IsReady k epoch hop.link) (some_is (sym s.there ∙ there))
              (ready_by put is s.past s.duty (sym s.moved_is ∙ stays.0) (sym s.acts_is ∙ stays.1));
          whole = λ q here late.
              let sc : Scene setting epoch (failed_now (chronicle setting (x ∷ h))) q = scene_then q (behind here) late in
              (sc.link hop.link p.present link, (sc.place y well_y).up);
          lasts = λ q here late.
              let none : failure_of q.step.seen.event ≡ None = settled.unfailed q here (omega (arith, from, late)) in (
                ap (λ o. is_thing o (thing.Device hop.parent)) none,
                ap (λ o. is_thing o (thing.Device y)) none,
                ap (λ o. is_thing o (thing.Link hop.link))
                    none,
              );
        }
      where
        ready_by : (b : Bool) → hop_on plan b y ≡ Some hop → (past : Past) → duty_now past ≡ Some (duty_of setting.net plan epoch y) → has_moved past ≡ b
            → is_acting past ≡ false → IsReady past epoch hop.link
        ready_by false is' past duty unmoved still = ready_of setting.net plan epoch y hop past duty unmoved still is'
        ready_by true is' past duty put_ still = ready_back setting.net plan epoch y hop past duty put_ still is'

    -- a sound way of this many hops, before other hops from its last device
    record HasWay (y n : ℕ) (rest : List End) : Type 0 where
      way : List End
      long : length way ≡ n + length rest
      sound_ : AreSound setting (top_of setting (x ∷ h) e) epoch s1 source source way
      keeps : (z : End) → Among z rest → Among z way

    unroll : (y n : ℕ) → Led setting epoch (failed_now (chronicle setting (x ∷ h))) (top_of setting (x ∷ h) e) s1 source y n → (rest : List End)
        → AreSound setting (top_of setting (x ∷ h) e) epoch s1 source y rest → HasWay y n rest
    unroll _ _ at_source rest fine_rest = record { way = rest; long = none_more (length rest); sound_ = fine_rest; keeps = λ z a. a }
    unroll _ _ (onward {x = z} {n = n} led y put hop well_y is parent link remains) rest fine_rest =
        let e_ : End = record { link = hop.link; device = y } in
        let here : IsSoundHop setting (top_of setting (x ∷ h) e) epoch s1 source z e_ =
        subst (λ k. IsSoundHop setting (top_of setting (x ∷ h) e) epoch s1 source k e_) parent (hop_sound y put hop well_y is link remains) in
        let w : HasWay z n (e_ ∷ rest) = unroll z n led (e_ ∷ rest) (here, fine_rest) in
        record { way = w.way; long = w.long ∙ longer n (length rest); sound_ = w.sound_; keeps = λ k a. w.keeps k (later a) }

    ends_with : (y n : ℕ) → Led setting epoch (failed_now (chronicle setting (x ∷ h))) (top_of setting (x ∷ h) e) s1 source y (suc n)
        → n + 1 ≤ 2 * (depth setting.net + 1) → heard_at (chronicle setting (x ∷ h)) y ≤ s1
        → reference_of e ≤ s1 + rounds_gap setting.net + (n + 1) * delay setting.net
    ends_with _ n (onward {x = z} led y put hop well_y is parent link remains) short heard =
        let e_ : End = record { link = hop.link; device = y } in
        let here : IsSoundHop setting (top_of setting (x ∷ h) e) epoch s1 source z e_ =
        subst (λ k. IsSoundHop setting (top_of setting (x ∷ h) e) epoch s1 source k e_) parent (hop_sound y put hop well_y is link remains) in
        let w : HasWay z n (e_ ∷ []) = unroll z n led (e_ ∷ []) (here, tt) in
        subst (λ k. reference_of e ≤ s1 + rounds_gap setting.net + k * delay setting.net) w.long
        (unfed setting (top_of setting (x ∷ h) e) source s1 epoch (feeds setting epoch x h e calm settled s1 from source well acts) w.way e_ (w.keeps e_ first)
        (subst (λ k. k ≤ 2 * (depth setting.net + 1)) (sym w.long) short) w.sound_ heard)

  -- later than any reference
  led_later : (s0 s1 y n : ℕ) → s0 ≤ s1 → Led setting epoch (failed_now (chronicle setting (x ∷ h))) (top_of setting (x ∷ h) e) s0 source y n
      → Led setting epoch (failed_now (chronicle setting (x ∷ h))) (top_of setting (x ∷ h) e) s1 source y n
  led_later s0 s1 _ _ le at_source = at_source
  led_later s0 s1 _ _ le (onward {x = z} {n = n} led y put hop well_y is parent link remains) =
      onward (led_later s0 s1 z n le led) y put hop well_y is parent link (λ q here late. remains q here (omega (arith, le, late)))

  at_once : (r a b c d : ℕ) → r ≤ max a b → r ≤ max a b + c + d
  at_once r a b c d le = omega (arith, le)

  -- by when the last device of a way has its next event, counted from when it last heard, or from the reference
  pub fed_by : (s0 : ℕ) → calm ≤ s0 → ActsSince (top_of setting (x ∷ h) e) s0 source → (y n : ℕ)
      → Led setting epoch (failed_now (chronicle setting (x ∷ h))) (top_of setting (x ∷ h) e) s0 source y (suc n)
      → n + 1 ≤ 2 * (depth setting.net + 1)
      → reference_of e ≤ max s0 (heard_at (chronicle setting (x ∷ h)) y) + rounds_gap setting.net + (n + 1) * delay setting.net
  fed_by s0 from acts y n led short = go (cases_lt (max s0 (heard_at steps y)) (reference_of e))
    where
      least : (a b : ℕ) → a ≤ max a b
      least a b = omega arith

      other : (a b : ℕ) → b ≤ max a b
      other a b = omega arith

      go : (max s0 (heard_at steps y) < reference_of e) ⊎ (reference_of e ≤ max s0 (heard_at steps y))
          → reference_of e ≤ max s0 (heard_at (chronicle setting (x ∷ h)) y) + rounds_gap setting.net + (n + 1) * delay setting.net
      go (inr le) = at_once (reference_of e) s0 (heard_at steps y) (rounds_gap setting.net) ((n + 1) * delay setting.net) le
      go (inl less) =
          let since : s0 ≤ max s0 (heard_at steps y) = least s0 (heard_at steps y) in
          ends_with (max s0 (heard_at steps y)) (omega (arith, from, since)) less (λ q here late. acts q here (omega (arith, since, late))) y n
          (led_later s0 (max s0 (heard_at steps y)) y (suc n) since led) short (other s0 (heard_at steps y))

-- the same at any event later than the reference
pub fed_at : (setting : Setting) (epoch : ℕ) (history : List Event) (e : Event) (calm : ℕ) → IsSettled setting epoch history e calm → (top : Moment)
    → IsIn top (chronicle setting (e ∷ history)) → calm < when top
    → (source : ℕ) → IsSoundMember setting epoch (failed_now (chronicle setting history)) source → (s0 : ℕ) → calm ≤ s0 → ActsSince top s0 source → (y n : ℕ)
    → Led setting epoch (failed_now (chronicle setting history)) top s0 source y (suc n) → n + 1 ≤ 2 * (depth setting.net + 1)
    → when top ≤ max s0 (heard_at top.earlier y) + rounds_gap setting.net + (n + 1) * delay setting.net
fed_at setting epoch history e calm settled top here late source well s0 from acts y n led short =
    let st : StageAt setting epoch calm (chronicle setting history) top = stage_at setting epoch history e calm settled top here late in
    let top_is : top ≡ top_of setting (st.x ∷ st.h) st.e = st.is in
    subst (λ (t : Moment). when t ≤ max s0 (heard_at t.earlier y) + rounds_gap setting.net + (n + 1) * delay setting.net) (sym top_is)
    (fed_by setting epoch st.x st.h st.e calm st.settled source (subst (λ failed. IsSoundMember setting epoch failed source) (sym st.failed) well) s0 from
    (subst (λ t. ActsSince t s0 source) top_is acts) y n
    (subst (λ t. Led setting epoch (failed_now (chronicle setting (st.x ∷ st.h))) t s0 source y (suc n)) top_is
    (subst (λ failed. Led setting epoch failed top s0 source y (suc n)) (sym st.failed) led)) short)
