-- The chain to a backup root that is on its backup while the root lives: down the walk of its backup parent, of which nothing failed and nobody moves, and over
-- its backup link.
use Rattle.std.specs.Prelude.{◌≡◌, ℕ, suc, ◌+◌, ◌<◌, ◌≤◌, Bool, true, false, List, [], ◌∷◌, length, nat_eq, Some, refl, if◌then◌else◌}
use Rattle.std.proofs.Common.{arith, ap, sym, ◌∙◌, subst}
use Rattle.std.proofs.lemmas.Bool.{or_left, or_right, eq-eqb, eqb-true}
use Rattle.sd_num.specs.Lists.{has}
use Rattle.sd_plan.specs.topo.Network.{Network}
use Rattle.sd_plan.specs.declared.topo.Thing.{Thing}
use Rattle.sd_plan.specs.declared.topo.Thing.TheVariants as thing
use Rattle.sd_plan.specs.declared.Hop.{Hop}
use Rattle.sd_plan.specs.declared.Plan.{Plan}
use Rattle.sd_plan.specs.Plans.{is_member, is_root, is_backup_root, primary_of, backup_of}
use Rattle.sd_plan.specs.Walks.{hops, walk, devices_of, links_of, end_of}
use Rattle.sd_plan.proofs.Forest.{IsStep, IsForest, forest_of}
use Rattle.sd_checker.specs.check_root.Roots.{fallback_devices}
use Rattle.sd_history.specs.World.{Setting}
use Rattle.sd_history.specs.Steps.{acts_in}
use Rattle.sd_safety.specs.invariant.Bounds.{depth}
use Rattle.sd_safety.specs.invariant.Eras.{is_among, moved}
use Rattle.sd_safety.proofs.invariant.Facts.{IsSound}
use Rattle.sd_safety.proofs.invariant.Sides.{implied, not_both}
use Rattle.sd_safety.specs.messages.Moments.{Moment, upto, when, IsIn}
use Rattle.sd_safety.proofs.silences.FallbackWay.{falls, the_hop, on_fallback, link_of_fallback}
use Rattle.sd_safety.proofs.silences.WalkWays.{walk_length}
use Rattle.sd_safety.proofs.feeds.Cuts.{first_hop}
use Rattle.sd_bound.specs.timeouts.Settled.{the_plan, IsSoundMember, Scene}
use Rattle.sd_bound.specs.traces.Led.{Remains, Led, at_source, onward}
use Rattle.sd_bound.proofs.traces.Sounding.{IsPlanned, planned_hop}
use Rattle.sd_bound.specs.chains.Chains.{Chain}

not_root_by : (net : Network) (plan : Plan) (y : ℕ) (hop : Hop) (hs : List Hop) (b : Bool)
    → (if b then [] else hops (is_root plan) plan net.params.depth y) ≡ hop ∷ hs → b ≡ false
not_root_by net plan y hop hs true is = cc
not_root_by net plan y hop hs false is = refl

module _ (setting : Setting) (epoch : ℕ) (failed : List Thing) (top : Moment) (limit : ℕ) (fine : IsSound setting.net (the_plan setting epoch)) where
  abbrev plan : Plan
  plan = the_plan setting epoch

  -- down a walk of which nothing failed and nobody moves
  walk_led : (hs : List Hop) (z : ℕ) → walk setting.net (the_plan setting epoch) z ≡ hs → z < length setting.net.devices → is_member (the_plan setting epoch) z ≡ true
      → ((d : ℕ) → has (devices_of z hs) d ≡ true → is_among failed (thing.Device d) ≡ false)
      → ((l : ℕ) → has (links_of hs) l ≡ true → is_among failed (thing.Link l) ≡ false)
      → ((d : ℕ) → has (devices_of z hs) d ≡ true → is_root (the_plan setting epoch) d ≡ false → IsSoundMember setting epoch failed d → Remains top limit d false)
      → Led setting epoch failed top limit (the_plan setting epoch).root z (length hs)
  walk_led [] z is known member devices links remains =
      let reach : is_root plan (end_of z (walk setting.net plan z)) ≡ true = implied (is_member plan z) _ (fine.rules.reaches z known) member in
      let root : is_root plan z ≡ true = subst (λ hs. is_root plan (end_of z hs) ≡ true) is reach in
      subst (λ y. Led setting epoch failed top limit (the_plan setting epoch).root y 0) (eqb-true plan.root z root) at_source
  walk_led (hop ∷ hs) z is known member devices links remains =
      let forest : IsForest setting.net plan = forest_of setting.net plan fine.fits fine.guarded.structure in
      let other : is_root plan z ≡ false = not_root_by setting.net plan z hop hs (is_root plan z) is in
      let first = forest.hop z known member other in
      let up : IsStep setting.net plan z first.0 = forest.up z first.0 known first.1 in
      let same = first_hop first.0 hop (walk setting.net plan first.0.parent) hs (sym up.walk ∙ is) in
      let primary : primary_of plan z ≡ Some hop = first.1 ∙ ap Some same.0 in
      let well : IsSoundMember setting epoch failed z = record { known = known; member = member; self = devices z (or_left (nat_eq z z) _ (eq-eqb z z refl)) } in
      onward
      (walk_led hs hop.parent (ap (λ (k : Hop). walk setting.net plan k.parent) (sym same.0) ∙ same.1)
      (subst (λ (k : Hop). k.parent < length setting.net.devices) same.0 up.within) (subst (λ (k : Hop). is_member plan k.parent ≡ true) same.0 up.above)
      (λ d on. devices d (or_right (nat_eq d z) (has (devices_of hop.parent hs) d) on))
      (λ l on. links l (or_right (nat_eq l hop.link) (has (links_of hs) l) on))
      (λ d on. remains d (or_right (nat_eq d z) (has (devices_of hop.parent hs) d) on)))
      z false hop well primary refl (links hop.link (or_left (nat_eq hop.link hop.link) (has (links_of hs) hop.link) (eq-eqb hop.link hop.link refl)))
      (remains z (or_left (nat_eq z z) _ (eq-eqb z z refl)) other well)

  module _ (scenes : (q : Moment) → IsIn q (upto top) → limit < when q
      → Scene setting epoch failed q) (before_top : limit < when top) (here : IsIn top (upto top))
      (kept : is_among failed (thing.Device (the_plan setting epoch).root) ≡ false)
      (well : IsSoundMember setting epoch failed (the_plan setting epoch).backup_root) (put : (q : Moment) → IsIn q (upto top) → limit < when q
      → moved q.earlier (the_plan setting epoch).backup_root ≡ true) where
    -- it does not act, since the root does
    idle : (q : Moment) → IsIn q (upto top) → limit < when q → acts_in q.earlier (the_plan setting epoch).backup_root ≡ false
    idle q q_in late = by (acts_in q.earlier plan.backup_root) refl
      where
        by : (b : Bool) → acts_in q.earlier plan.backup_root ≡ b → acts_in q.earlier plan.backup_root ≡ false
        by false is = is
        by true is = absurd (not_both (is_among failed (thing.Device plan.root)) ((scenes q q_in late).takeover is) kept)

    stays : (hop : Hop) → backup_of (the_plan setting epoch) (the_plan setting epoch).backup_root ≡ Some hop → (d : ℕ)
        → has (devices_of hop.parent (walk setting.net (the_plan setting epoch) hop.parent)) d ≡ true → is_root (the_plan setting epoch) d ≡ false → IsSoundMember setting epoch failed d
        → Remains top limit d false
    stays hop is d on root well_d q q_in late =
        let sc : Scene setting epoch failed q = scenes q q_in late in
        (sc.stays well (put q q_in late) (idle q q_in late) d (on_fallback setting.net plan hop d is on root) well_d, by (is_backup_root plan d) refl)
      where
        by : (b : Bool) → is_backup_root plan d ≡ b → acts_in q.earlier d ≡ false
        by true backup = subst (λ z. acts_in q.earlier z ≡ false) (eqb-true plan.backup_root d backup) (idle q q_in late)
        by false backup = (scenes q q_in late).ordinary d well_d (root, backup)

    pub fallback_chain : (k : ℕ) → Chain setting epoch failed top limit (the_plan setting epoch).backup_root k
    fallback_chain k =
        let b = the_hop (backup_of plan plan.backup_root) (falls setting.net plan fine.guarded.structure fine.fits.backup_root) in
        let hop : Hop = b.0 in
        let p : IsPlanned setting.net plan plan.backup_root hop = planned_hop setting.net plan fine plan.backup_root fine.fits.backup_root true hop b.1 in
        let sc : Scene setting epoch failed top = scenes top here before_top in
        let sound_ = sc.fallback well (put top here before_top) in
        let hs : List Hop = walk setting.net plan hop.parent in
        let led : Led setting epoch failed top limit plan.root hop.parent (length hs) =
        walk_led hs hop.parent refl p.within.0 p.member (λ d on. device_fine hop b.1 sound_.0 d on (is_root plan d) refl)
        (λ l on. sound_.1 l (link_of_fallback setting.net plan hop l b.1 (or_right (nat_eq l hop.link) (has (links_of hs) l) on))) (stays hop b.1) in
        record {
          source = plan.root;
          well = record { known = fine.fits.root; member = fine.rules.root; self = kept };
          acts = λ q q_in late. (scenes q q_in late).root kept;
          hops = suc (length hs);
          led =
              onward led plan.backup_root true hop well b.1 refl
              (sound_.1 hop.link
              (link_of_fallback setting.net plan hop hop.link b.1
              (or_left (nat_eq hop.link hop.link) (has (links_of hs) hop.link) (eq-eqb hop.link hop.link refl))))
              (λ q q_in late. (put q q_in late, idle q q_in late));
          short = few (length hs) (walk_length setting.net plan hop.parent);
        }
      where
        few : (n : ℕ) → n ≤ depth setting.net → suc n ≤ k + (depth setting.net + 1)
        few n le = omega (arith, le)

        device_fine : (hop : Hop) → backup_of plan plan.backup_root ≡ Some hop
            → ((z : ℕ) → has (fallback_devices setting.net plan) z ≡ true → is_among failed (thing.Device z) ≡ false) → (d : ℕ)
            → has (devices_of hop.parent (walk setting.net plan hop.parent)) d ≡ true
            → (r : Bool) → is_root plan d ≡ r → is_among failed (thing.Device d) ≡ false
        device_fine hop is devices d on true root = subst (λ z. is_among failed (thing.Device z) ≡ false) (eqb-true plan.root d root) kept
        device_fine hop is devices d on false other = devices d (on_fallback setting.net plan hop d is on other)
