-- A primary hop of the era's plan over which each round comes is open to a round of that plan, whoever leads; and while the root leads, one of which nothing
-- failed
-- is such a hop.
use Rattle.std.specs.Prelude.{◌≡◌, ℕ, ◌+◌, ◌*◌, ◌<◌, ◌≤◌, true, false, List, [], ◌∷◌, length, Some, refl, ◌⊎◌}
use Rattle.std.proofs.Common.{arith, sym, ◌∙◌, ap, subst, inl, inr}
use Rattle.std.proofs.lemmas.Bool.{eq-eqb, false_from_ne_true}
use Rattle.sd_plan.specs.declared.topo.Thing.{Thing}
use Rattle.sd_plan.specs.declared.topo.Thing.TheVariants as thing
use Rattle.sd_plan.specs.topo.Network.{greatest_delay}
use Rattle.sd_plan.specs.declared.Hop.{Hop}
use Rattle.sd_plan.specs.declared.Plan.{Plan}
use Rattle.sd_plan.specs.Plans.{IsHop, is_root, primary_of}
use Rattle.sd_plan.specs.Duties.{follows_over}
use Rattle.sd_device.specs.declared.msg.Message.{Message}
use Rattle.sd_device.specs.Calls.{Past}
use Rattle.sd_sched.specs.declared.Event.{Event}
use Rattle.sd_history.specs.World.{Setting, fails, is_up, has_commit, link_has_failed, plan_numbered}
use Rattle.sd_history.specs.Steps.{Step, seen_of}
use Rattle.sd_history.specs.Chronicle.{past_in, chronicle}
use Rattle.sd_safety.specs.invariant.Eras.{era, plan_now, is_among, failed_now, is_new, root_failed}
use Rattle.sd_safety.proofs.invariant.Facts.{IsSound}
use Rattle.sd_safety.proofs.invariant.Sides.{not_both}
use Rattle.sd_safety.specs.messages.Moments.{whole, behind, Moment, upto, when, IsIn, Emits}
use Rattle.sd_safety.specs.messages.Rounds.{IsReady}
use Rattle.sd_safety.proofs.messages.Tails.{tail_chronicle, history_chronicle}
use Rattle.sd_safety.proofs.messages.Ends.{primary_follows}
use Rattle.sd_safety.proofs.waits.Standing.{sound}
use Rattle.sd_safety.proofs.silences.Phases.{era_grows, open_at, fails_among, failed_on, clear_then, clear_more}
use Rattle.sd_safety.proofs.silences.Feeding.{from_start}
use Rattle.sd_safety.proofs.silences.WalkWays.{end_at}
use Rattle.sd_safety.proofs.silences.Paths.{IsClear}
use Rattle.sd_safety.proofs.silences.Links.{alone}
use Rattle.sd_safety.proofs.silences.States.{clear_up, clear_link, ready_unless_new}
use Rattle.sd_safety.proofs.silences.SoundWays.{top_of}
use Rattle.sd_safety.proofs.windows.Committing.{staged_plan}
use Rattle.sd_safety.proofs.entering.States as states
use Rattle.sd_safety.specs.rounds.Rounds.{IsOpenHop}
use Rattle.sd_safety.specs.rounds.Spans.{IsSpan}
use Rattle.sd_safety.proofs.rounds.Places.{InEra, InWindow, place, whole_then, ready_then}
use Rattle.sd_safety.proofs.rounds.Leaders.{IsLeader, rule}
use Rattle.sd_safety.proofs.rounds.Sources.{kept_then, root_leads}
use Rattle.sd_safety.proofs.rounds.Entries.{none_enters}

-- a moment, and a round of the era's plan that a device emits at it
pub record IsOldRoundOf (setting : Setting) (x : Event) (h : List Event) (s0 a : ℕ) (first : Moment) : Type 0 where
  pub here : IsIn first (chronicle setting (x ∷ h))
  pub late : s0 < when first
  pub message : Message
  pub emits : Emits first a message
  pub epoch : message.epoch ≡ era (chronicle setting (x ∷ h))
  pub calm : has_commit (seen_of first.earlier) ≡ true → era first.earlier ≡ era (chronicle setting (x ∷ h)) → ⊥

-- the root's
abbrev pub IsOldRound : Setting → Event → List Event → ℕ → Moment → Type 0
IsOldRound setting x h s0 first = IsOldRoundOf setting x h s0 (plan_now setting (chronicle setting (x ∷ h))).root first

-- a moment from that of a round on
pub since_first : (setting : Setting) (x : Event) (h : List Event) (e : Event) (s0 : ℕ) → IsSpan setting x h e s0 → (first : Moment) → s0 < when first
    → (q : Moment) → IsIn q (chronicle setting (e ∷ x ∷ h)) → IsIn first (upto q) → s0 < when q
since_first setting x h e s0 span first late q q_in started =
    let goes = from_start setting first q (tail_chronicle setting q_in (history_chronicle setting (e ∷ x ∷ h) span.comes.clean.is)) started in
    omega (arith, goes, late)

-- a hop over which each round of the leader comes
pub record IsLasting (setting : Setting) (x : Event) (h : List Event) (e : Event) (s0 a y : ℕ) (hop : Hop) : Type 0 where
  pub primary : primary_of (plan_now setting (chronicle setting (x ∷ h))) y ≡ Some hop
  pub other : y ≡ a → ⊥
  pub known : y < length setting.net.devices
  pub within : IsHop setting.net hop
  pub whole : (q : Moment) → IsIn q (chronicle setting (e ∷ x ∷ h)) → s0 < when q
      → (link_has_failed (seen_of q.earlier) hop.link ≡ false) × (is_up (seen_of q.earlier) y ≡ true)
  pub ready : (q : Moment) → IsIn q (chronicle setting (e ∷ x ∷ h)) → s0 < when q
      → ((k : InEra setting (chronicle setting (x ∷ h)) q) → is_new (chronicle setting (k.x ∷ k.h)) y ≡ false) → (past : Past) → past_in q.earlier y ≡ Some past
      → IsReady past (era (chronicle setting (x ∷ h))) hop.link
  pub lasts : (q : Moment) → IsIn q (chronicle setting (e ∷ x ∷ h)) → s0 < when q
      → (fails (thing.Device hop.parent) q.step.seen.event ≡ false) × (fails (thing.Device y) q.step.seen.event ≡ false)
      × (fails (thing.Link hop.link) q.step.seen.event ≡ false)

-- it is open to each of them
pub lasting_hop : (setting : Setting) (x : Event) (h : List Event) (e : Event) (s0 a : ℕ) → IsLeader setting x h e s0 a → (y : ℕ) (hop : Hop)
    → IsLasting setting x h e s0 a y hop → (first : Moment) → IsOldRoundOf setting x h s0 a first → (limit : ℕ)
    → limit ≤ when first + 2 * (setting.net.params.depth + 1) * greatest_delay setting.net
    → IsOpenHop setting (top_of setting (x ∷ h) e) (era (chronicle setting (x ∷ h))) first limit a hop.parent (end_at y hop)
lasting_hop setting x h e s0 a l y hop lasting first round limit soon =
    let plan : Plan = plan_now setting (chronicle setting (x ∷ h)) in
    let s : IsSound setting.net plan = sound setting x h e l.span.comes in
    let follows : follows_over plan hop.parent hop.link y ≡ true = primary_follows plan y hop.parent hop.link hop lasting.primary refl refl in
    record {
      follows = follows;
      alone = λ c is. alone setting.net plan s.fits s.rules hop.parent hop.link y c follows is;
      known = (lasting.within.1, lasting.known);
      apart = lasting.other;
      whole = λ q q_in started by. lasting.whole q (behind q_in) (late q (behind q_in) started);
      ready = λ q q_in since by. let after = late q (behind q_in) (behind since) in lasting.ready q (behind q_in) after (not_new q q_in after by);
      lasts = λ q q_in since. lasting.lasts q q_in (late q q_in (behind since));
    }
  where
    late : (q : Moment) → IsIn q (chronicle setting (e ∷ x ∷ h)) → IsIn first (upto q) → s0 < when q
    late q q_in started = since_first setting x h e s0 l.span first round.late q q_in started

    not_new : (q : Moment) → IsIn q (chronicle setting (x ∷ h)) → s0 < when q → when q ≤ limit → (k : InEra setting (chronicle setting (x ∷ h)) q)
        → is_new (chronicle setting (k.x ∷ k.h)) y ≡ false
    not_new q q_in after by k =
        let less = rule setting x h e s0 a l in
        none_enters setting x h e s0 a l first round.here round.late round.message round.emits round.epoch round.calm q q_in after
        (omega (arith, by, soon, less)) k y lasting.other

module _ (setting : Setting) (x : Event) (h : List Event) (e : Event) (s0 : ℕ) (span : IsSpan setting x h e s0) where
  abbrev steps : List Step
  steps = chronicle setting (x ∷ h)

  -- of some things, with which all are that failed by now, the event fails none but them
  module _ (failed : List Thing) (more : (y : Thing) → is_among failed y ≡ false
      → is_among (failed_now (chronicle setting (x ∷ h))) y ≡ false) (spares : (y : Thing) → is_among failed y ≡ false → fails y e ≡ false) where
    -- what did not fail by now failed at no event later than the reference
    pub lasts : (y : Thing) → is_among failed y ≡ false → (q : Moment) → IsIn q (chronicle setting (e ∷ x ∷ h)) → s0 < when q
        → fails y q.step.seen.event ≡ false
    lasts y none q whole after = spares y none
    lasts y none q (behind t) after = by (place setting x h e s0 span q (behind t) after)
      where
        by : InEra setting (chronicle setting (x ∷ h)) q ⊎ InWindow setting (chronicle setting (x ∷ h)) q → fails y q.step.seen.event ≡ false
        by (inr k) = subst (λ (p : Moment). fails y p.step.seen.event ≡ false) (sym k.is) (states.fails_not setting k.h k.e k.comes k.commit y)
        by (inl k) =
            let same : era q.earlier ≡ era steps = ap (λ (p : Moment). era p.earlier) k.is ∙ k.same in
            let grows : era (upto q) ≤ era steps = era_grows (upto q) steps t in
            let next : era q.earlier ≤ era (upto q) = era_grows q.earlier (upto q) (behind whole) in
            false_from_ne_true (fails y q.step.seen.event)
            (λ is. not_both (is_among (failed_now steps) y)
            (failed_on y (upto q) steps t (omega (arith, same, grows, next))
            (fails_among q.step q.earlier y (open_at q.step q.earlier (omega (arith, same, grows))) is)) (more y none))

    -- so of a hop of which nothing failed neither end nor the link did
    pub hop_lasts : (y : ℕ) (hop : Hop) → is_among failed (thing.Device hop.parent) ≡ false → is_among failed (thing.Device y) ≡ false
        → is_among failed (thing.Link hop.link) ≡ false → (q : Moment) → IsIn q (chronicle setting (e ∷ x ∷ h)) → s0 < when q
        → (fails (thing.Device hop.parent) q.step.seen.event ≡ false) × (fails (thing.Device y) q.step.seen.event ≡ false)
        × (fails (thing.Link hop.link) q.step.seen.event ≡ false)
    hop_lasts y hop parent self link q here after =
        (lasts (thing.Device hop.parent) parent q here after, lasts (thing.Device y) self q here after, lasts (thing.Link hop.link) link q here after)

  -- while the root leads, each of its rounds comes over a hop of which nothing failed
  module _ (kept : root_failed setting (chronicle setting (x ∷ h)) ≡ false) (failed : List Thing) (more : (y : Thing) → is_among failed y ≡ false
      → is_among (failed_now (chronicle setting (x ∷ h))) y ≡ false)
      (spares : (y : Thing) → is_among failed y ≡ false → fails y e ≡ false) (y : ℕ) (hop : Hop)
      (clear : IsClear setting.net (plan_now setting (chronicle setting (x ∷ h))) failed y hop) where
    in_era : (q : Moment) (k : InEra setting (chronicle setting (x ∷ h)) q)
        → IsClear setting.net (plan_now setting (chronicle setting (k.x ∷ k.h))) (failed_now (chronicle setting (k.x ∷ k.h))) y hop
    in_era q k =
        clear_then setting (chronicle setting (k.x ∷ k.h)) steps y hop k.part k.same
        (clear_more setting.net (plan_now setting steps) failed (failed_now steps) y hop more clear)

    in_window : (q : Moment) (k : InWindow setting (chronicle setting (x ∷ h)) q) → IsClear setting.net (staged_plan setting (chronicle setting k.h)) [] y hop
    in_window q k =
        subst (λ n. IsClear setting.net (plan_numbered setting n) [] y hop) (sym k.same)
        (clear_more setting.net (plan_now setting steps) failed [] y hop (λ z none. refl) clear)

    whole_at : (q : Moment) → IsIn q (chronicle setting (e ∷ x ∷ h)) → s0 < when q
        → (link_has_failed (seen_of q.earlier) hop.link ≡ false) × (is_up (seen_of q.earlier) y ≡ true)
    whole_at q here late = by (place setting x h e s0 span q here late)
      where
        by : InEra setting (chronicle setting (x ∷ h)) q ⊎ InWindow setting (chronicle setting (x ∷ h)) q
            → (link_has_failed (seen_of q.earlier) hop.link ≡ false) × (is_up (seen_of q.earlier) y ≡ true)
        by (inl k) =
            whole_then setting steps q k y hop.link (clear_link setting k.x k.h k.e k.comes k.late y hop (in_era q k))
            (clear_up setting k.x k.h k.e k.comes k.late y hop (in_era q k))
        by (inr k) =
            subst (λ (p : Moment). (link_has_failed (seen_of p.earlier) hop.link ≡ false) × (is_up (seen_of p.earlier) y ≡ true)) (sym k.is)
            (states.hop_link setting k.h k.e k.comes k.commit y hop (in_window q k), states.hop_up setting k.h k.e k.comes k.commit y hop (in_window q k))

    -- unless it is new
    ready_at : (q : Moment) → IsIn q (chronicle setting (e ∷ x ∷ h)) → s0 < when q
        → ((k : InEra setting (chronicle setting (x ∷ h)) q) → is_new (chronicle setting (k.x ∷ k.h)) y ≡ false) → (past : Past)
        → past_in q.earlier y ≡ Some past
        → IsReady past (era (chronicle setting (x ∷ h))) hop.link
    ready_at q here late not_new = by (place setting x h e s0 span q here late)
      where
        by : InEra setting (chronicle setting (x ∷ h)) q ⊎ InWindow setting (chronicle setting (x ∷ h)) q → (past : Past) → past_in q.earlier y ≡ Some past
            → IsReady past (era (chronicle setting (x ∷ h))) hop.link
        by (inl k) =
            ready_then setting steps q k y hop.link
            (ready_unless_new setting k.x k.h k.e k.comes k.late y hop (in_era q k) (kept_then setting x h e s0 span kept q k) (not_new k))
        by (inr k) =
            subst (λ (p : Moment). (past : Past) → past_in p.earlier y ≡ Some past → IsReady past (era steps) hop.link) (sym k.is)
            (λ past there. subst (λ n. IsReady past n hop.link) k.same (states.hop_ready setting k.h k.e k.comes k.commit y hop (in_window q k) past there))

    pub old_hop : (first : Moment) → IsOldRound setting x h s0 first → (limit : ℕ)
        → limit ≤ when first + 2 * (setting.net.params.depth + 1) * greatest_delay setting.net
        → IsOpenHop setting (top_of setting (x ∷ h) e) (era (chronicle setting (x ∷ h))) first limit
        (plan_now setting (chronicle setting (x ∷ h))).root hop.parent (end_at y hop)
    old_hop =
        lasting_hop setting x h e s0 (plan_now setting steps).root (root_leads setting x h e s0 span kept) y hop
        (record {
          primary = clear.primary;
          other = λ same. not_both (is_root (plan_now setting steps) y) (eq-eqb (plan_now setting steps).root y (sym same)) clear.other;
          known = clear.known;
          within = clear.within;
          whole = whole_at;
          ready = ready_at;
          lasts = hop_lasts failed more spares y hop clear.parent clear.self clear.link;
        })
