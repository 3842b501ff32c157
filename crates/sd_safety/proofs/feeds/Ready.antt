-- How a device with a hop on a cut walk of which nothing failed stands before an event of the era: it is up, and where it is not new, ready for what comes over
-- that
-- hop. So each round of a leader comes over it.
use Rattle.std.specs.Prelude.{◌≡◌, ℕ, ◌<◌, ◌≤◌, true, false, ◌&&◌, not, List, ◌∷◌, Some}
use Rattle.std.proofs.Common.{arith, ap, sym, subst}
use Rattle.std.proofs.lemmas.Bool.{and_from}
use Rattle.sd_plan.specs.topo.Network.{Network}
use Rattle.sd_plan.specs.declared.topo.Thing.{Thing}
use Rattle.sd_plan.specs.declared.topo.Thing.TheVariants as thing
use Rattle.sd_plan.specs.declared.Hop.{Hop}
use Rattle.sd_plan.specs.declared.Plan.{Plan}
use Rattle.sd_plan.specs.Plans.{is_member, is_root, is_backup_root}
use Rattle.sd_plan.specs.Walks.{epath}
use Rattle.sd_device.specs.Calls.{Past}
use Rattle.sd_sched.specs.declared.Event.{Event}
use Rattle.sd_history.specs.World.{Setting, fails, is_up, link_has_failed, plan_numbered}
use Rattle.sd_history.specs.Steps.{Step, seen_of}
use Rattle.sd_history.specs.Chronicle.{past_in, chronicle}
use Rattle.sd_safety.specs.invariant.Eras.{era, plan_now, is_among, failed_now, is_old, is_new, is_ordinary}
use Rattle.sd_safety.specs.invariant.Coming.{IsNextEvent}
use Rattle.sd_safety.specs.messages.Moments.{Tail, Moment, when, IsIn}
use Rattle.sd_safety.specs.messages.Rounds.{IsReady}
use Rattle.sd_safety.proofs.waits.Standing.{Early, is_up_then}
use Rattle.sd_safety.proofs.silences.Phases.{touched_less, fewer}
use Rattle.sd_safety.proofs.silences.States.{old_unless_new, link_whole, unmoved_unless_hit, ordinary_still, ready_old}
use Rattle.sd_safety.specs.rounds.Spans.{IsSpan}
use Rattle.sd_safety.proofs.rounds.Places.{InEra, of_era, whole_then, ready_then}
use Rattle.sd_safety.proofs.rounds.Hops.{IsLasting, hop_lasts}
use Rattle.sd_safety.proofs.feeds.Cuts.{IsCutClear}

-- a hop that is clear of some things is so of fewer
pub cut_fewer : (net : Network) (plan : Plan) (failed fewer_ : List Thing) (y : ℕ) (hop : Hop)
    → ((x : Thing) → is_among failed x ≡ false → is_among fewer_ x ≡ false) → IsCutClear net plan failed y hop → IsCutClear net plan fewer_ y hop
cut_fewer net plan failed fewer_ y hop less clear =
    record {
      primary = clear.primary;
      other = clear.other;
      ordinary = clear.ordinary;
      known = clear.known;
      member = clear.member;
      self = less (thing.Device y) clear.self;
      cut_path = touched_less (is_among fewer_) (is_among failed) (epath net plan y) less clear.cut_path;
      link = less (thing.Link hop.link) clear.link;
      parent = less (thing.Device hop.parent) clear.parent;
      within = clear.within;
      present = clear.present;
    }

-- and it was so before in the era
pub cut_then : (setting : Setting) (older steps : List Step) (y : ℕ) (hop : Hop) → Tail older steps → era older ≡ era steps
    → IsCutClear setting.net (plan_now setting steps) (failed_now steps) y hop
    → IsCutClear setting.net (plan_now setting older) (failed_now older) y hop
cut_then setting older steps y hop t same clear =
    subst (λ n. IsCutClear setting.net (plan_numbered setting n) (failed_now older) y hop) (sym same)
    (cut_fewer setting.net (plan_now setting steps) (failed_now steps) (failed_now older) y hop
    (λ x none. fewer x older steps t (least (era older) (era steps) same) none) clear)
  where
    least : (a b : ℕ) → a ≡ b → b ≤ a
    least a b is = omega (arith, is)

module _ (setting : Setting) (x : Event) (h : List Event) (e : Event) (comes : IsNextEvent setting (x ∷ h) e) (late : Early setting x h e comes
    → ⊥) (y : ℕ) (hop : Hop)
    (clear : IsCutClear setting.net (plan_now setting (chronicle setting (x ∷ h))) (failed_now (chronicle setting (x ∷ h))) y hop) where
  abbrev steps : List Step
  steps = chronicle setting (x ∷ h)

  abbrev plan : Plan
  plan = plan_now setting (chronicle setting (x ∷ h))

  pub cut_up : is_up (seen_of (chronicle setting (x ∷ h))) y ≡ true
  cut_up = is_up_then setting x h e comes y clear.known clear.member clear.self late

  pub cut_link : link_has_failed (seen_of (chronicle setting (x ∷ h))) hop.link ≡ false
  cut_link = link_whole setting x h e comes hop.link clear.present clear.link

  module _ (not_new : is_new (chronicle setting (x ∷ h)) y ≡ false) where
    old : is_old (chronicle setting (x ∷ h)) y ≡ true
    old = old_unless_new setting x h e comes y clear.member clear.self cut_up not_new

    ordinary : is_ordinary (plan_now setting (chronicle setting (x ∷ h))) y ≡ true
    ordinary = and_from (is_member plan y && not (is_root plan y)) (not (is_backup_root plan y))
        (and_from (is_member plan y) (not (is_root plan y)) clear.member (ap not clear.other)) (ap not clear.ordinary)

    pub cut_ready : (past : Past) → past_in (chronicle setting (x ∷ h)) y ≡ Some past → IsReady past (era (chronicle setting (x ∷ h))) hop.link
    cut_ready = ready_old setting x h e comes y hop old (unmoved_unless_hit setting x h e comes y old ordinary clear.cut_path)
        (ordinary_still setting x h e comes y old ordinary) clear.primary

-- Over a span of the era each round of a leader comes over such a hop, of which nothing failed. Of some things, with which all are that failed by now, the
-- event fails
-- none but them.
pub cut_lasting : (setting : Setting) (x : Event) (h : List Event) (e : Event) (s0 : ℕ) → IsSpan setting x h e s0
    → ((q : Moment) → IsIn q (chronicle setting (e ∷ x ∷ h)) → s0 < when q → era q.earlier ≡ era (chronicle setting (x ∷ h)))
    → (failed : List Thing) → ((y : Thing) → is_among failed y ≡ false → is_among (failed_now (chronicle setting (x ∷ h))) y ≡ false)
    → ((y : Thing) → is_among failed y ≡ false → fails y e ≡ false) → (a y : ℕ) (hop : Hop)
    → IsCutClear setting.net (plan_now setting (chronicle setting (x ∷ h))) failed y hop → (y ≡ a → ⊥) → IsLasting setting x h e s0 a y hop
cut_lasting setting x h e s0 span same failed more spares a y hop clear other =
    record {
      primary = clear.primary;
      other = other;
      known = clear.known;
      within = clear.within;
      whole = λ q here after. let k : InEra setting (chronicle setting (x ∷ h)) q = of_era setting x h e s0 span q here after (same q here after) in
          whole_then setting (chronicle setting (x ∷ h)) q k y hop.link (cut_link setting k.x k.h k.e k.comes k.late y hop (clear_at q k))
          (cut_up setting k.x k.h k.e k.comes k.late y hop (clear_at q k));
      ready = λ q here after not_new. let k : InEra setting (chronicle setting (x ∷ h)) q = of_era setting x h e s0 span q here after (same q here after) in
          ready_then setting (chronicle setting (x ∷ h)) q k y hop.link (cut_ready setting k.x k.h k.e k.comes k.late y hop (clear_at q k) (not_new k));
      lasts = hop_lasts setting x h e s0 span failed more spares y hop clear.parent clear.self clear.link;
    }
  where
    clear_at : (q : Moment) (k : InEra setting (chronicle setting (x ∷ h)) q)
        → IsCutClear setting.net (plan_now setting (chronicle setting (k.x ∷ k.h))) (failed_now (chronicle setting (k.x ∷ k.h))) y hop
    clear_at q k =
        cut_then setting (chronicle setting (k.x ∷ k.h)) (chronicle setting (x ∷ h)) y hop k.part k.same
        (cut_fewer setting.net (plan_now setting (chronicle setting (x ∷ h))) failed (failed_now (chronicle setting (x ∷ h))) y hop more clear)
