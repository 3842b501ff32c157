-- What of a guarded plan is used: whom the hops of a device lead to, and what lies on the ways of the backup root.
use Rattle.std.specs.Prelude.{◌≡◌, ℕ, ◌<◌, ◌≤◌, Bool, true, false, ◌&&◌, not, List, [], ◌∷◌, filter, length, map, max, nat_eq, Option, Some, None, IfSome, ◌⊎◌, refl, if◌then◌else◌}
use Rattle.std.proofs.Common.{arith, sym, ◌∙◌, ap, subst, inl, inr}
use Rattle.std.proofs.lemmas.Bool.{and_parts, or_cases, eqb-true, eq-eqb, not-true, not-false}
use Rattle.sd_num.specs.Lists.{has, map_or}
use Rattle.sd_plan.specs.topo.Network.{Network, joins, link_of}
use Rattle.sd_plan.specs.declared.Hop.{Hop}
use Rattle.sd_plan.specs.declared.Plan.{Plan}
use Rattle.sd_plan.specs.Plans.{IsHop, is_member, is_present, is_root, is_backup_root, primary_of, backup_of}
use Rattle.sd_plan.specs.Walks.{walk, short_path, devices_of, ends_walks, on_walk}
use Rattle.sd_plan.specs.Structure.{hop_is_right, is_no_ancestor}
use Rattle.sd_plan.proofs.Rules.{hops_within}
use Rattle.sd_plan.proofs.Forest.{IsForest, forest_of, not_above}
use Rattle.sd_plan.proofs.Numbered.{none_found}
use Rattle.sd_checker.specs.check_root.Roots.{fallback_devices}
use Rattle.sd_drill.specs.recovery.Walks.{halves}
use Rattle.sd_drill.specs.Drill.{root_halves}
use Rattle.sd_num.proofs.Shared.{unequal_swap}
use Rattle.sd_history.proofs.Given.{some_is}
use Rattle.sd_safety.proofs.invariant.Facts.{IsSound}
use Rattle.sd_safety.specs.messages.Hops.{IsPlanHop, Leads}
use Rattle.sd_safety.proofs.silences.FallbackWay.{has_filtered}

-- Links

ends_are : (net : Network) (l d e : ℕ) → joins net l d e ≡ true
    → ((link_of net l).end_a ≡ d) × ((link_of net l).end_b ≡ e) ⊎ ((link_of net l).end_a ≡ e) × ((link_of net l).end_b ≡ d)
ends_are net l d e h =
    elim (or_cases (nat_eq (link_of net l).end_a d && nat_eq (link_of net l).end_b e) (nat_eq (link_of net l).end_a e && nat_eq (link_of net l).end_b d) h) [
      | inl one ↦ (let p = and_parts _ _ one in inl (eqb-true (link_of net l).end_a d p.0, eqb-true (link_of net l).end_b e p.1))
      | inr two ↦ (let p = and_parts _ _ two in inr (eqb-true (link_of net l).end_a e p.0, eqb-true (link_of net l).end_b d p.1))
    ]

-- Hops

-- whom a hop of d leads to
pub record LeadsRight (net : Network) (plan : Plan) (d : ℕ) (hop : Hop) : Type 0 where
  pub within : hop.parent < length net.devices
  pub member : is_member plan hop.parent ≡ true
  pub joined : joins net hop.link d hop.parent ≡ true

right_by : (net : Network) (plan : Plan) (d : ℕ) (o : Option Hop) (hop : Hop) → o ≡ Some hop → hop_is_right net plan d o ≡ true → IfSome o (IsHop net)
    → LeadsRight net plan d hop
right_by net plan d None hop is right within = cc
right_by net plan d (Some h) hop is right within =
    let parts = and_parts (is_member plan h.parent && is_present plan h.link) (joins net h.link d h.parent) right in
    subst (LeadsRight net plan d) (some_is is)
    (record { within = within.0; member = (and_parts (is_member plan h.parent) (is_present plan h.link) parts.0).0; joined = parts.1 })

ancestor_by : (net : Network) (plan : Plan) (o : Option Hop) (hop : Hop) (b : Bool) → o ≡ Some hop → b ≡ true
    → map_or o true
    (λ h. if b then not (on_walk net plan h.parent plan.backup_root) else not
    (has (devices_of h.parent (if ends_walks plan h.parent then [] else short_path net plan h.parent)) plan.backup_root)) ≡ true
    → on_walk net plan hop.parent plan.backup_root ≡ false
ancestor_by net plan None hop b is yes_ clause = cc
ancestor_by net plan (Some h) hop false is yes_ clause = cc
ancestor_by net plan (Some h) hop true is yes_ clause =
    subst (λ (g : Hop). on_walk net plan g.parent plan.backup_root ≡ false) (some_is is) (not-true (on_walk net plan h.parent plan.backup_root) clause)

-- a plan of which all this holds
pub record WellPlanned (net : Network) (plan : Plan) : Type 0 where
  pub forest : IsForest net plan
  pub leads : (d : ℕ) (hop : Hop) → d < length net.devices → IsPlanHop plan d hop → LeadsRight net plan d hop
  pub backup_member : is_member plan plan.backup_root ≡ true
  pub backup_within : plan.backup_root < length net.devices
  pub apart : is_root plan plan.backup_root ≡ false
  -- the backup root is on neither of its ways
  pub not_on_path : (hop : Hop) → primary_of plan plan.backup_root ≡ Some hop → on_walk net plan hop.parent plan.backup_root ≡ false
  pub not_on_fallback : (hop : Hop) → backup_of plan plan.backup_root ≡ Some hop → on_walk net plan hop.parent plan.backup_root ≡ false

pub well_planned : (net : Network) (plan : Plan) → IsSound net plan → WellPlanned net plan
well_planned net plan sound =
    record {
      forest = forest;
      leads = leads_right;
      backup_member = sound.backup_member;
      backup_within = sound.fits.backup_root;
      apart = unequal_swap plan.backup_root plan.root sound.apart;
      not_on_path = λ hop is. not_above net plan forest plan.backup_root hop (forest.up plan.backup_root hop sound.fits.backup_root is);
      not_on_fallback = λ hop is.
          ancestor_by net plan (backup_of plan plan.backup_root) hop (is_backup_root plan plan.backup_root) is (eq-eqb plan.backup_root plan.backup_root refl)
          (not-false (is_no_ancestor net plan plan.backup_root)
          (none_found (λ d. not (is_no_ancestor net plan d)) (length net.devices) plan.backup_root sound.guarded.ancestor sound.fits.backup_root));
    }
  where
    forest : IsForest net plan
    forest = forest_of net plan sound.fits sound.guarded.structure

    leads_right : (d : ℕ) (hop : Hop) → d < length net.devices → IsPlanHop plan d hop → LeadsRight net plan d hop
    leads_right d hop within (inl is) =
        right_by net plan d (primary_of plan d) hop is
        (and_parts (hop_is_right net plan d (primary_of plan d)) (hop_is_right net plan d (backup_of plan d)) (sound.rules.hops d within)).0
        (hops_within net plan d sound.fits).0
    leads_right d hop within (inr is) =
        right_by net plan d (backup_of plan d) hop is
        (and_parts (hop_is_right net plan d (primary_of plan d)) (hop_is_right net plan d (backup_of plan d)) (sound.rules.hops d within)).1
        (hops_within net plan d sound.fits).1

-- a parent over a link is joined by it
pub led_joined : (net : Network) (plan : Plan) → WellPlanned net plan → (d x l : ℕ) → d < length net.devices → Leads plan d x l → joins net l d x ≡ true
led_joined net plan well d x l within led =
    subst (λ y. joins net l d y ≡ true) led.parent_is (subst (λ k. joins net k d led.hop.parent ≡ true) led.link_is (well.leads d led.hop within led.is).joined)

-- The two ways of the backup root

-- its walk, and that over its backup hop, are no longer than what the drill counts
pub path_halves : (net : Network) (plan : Plan) → halves net plan.backup_root (walk net plan plan.backup_root) ≤ root_halves net plan
path_halves net plan = omega arith

pub fallback_halves : (net : Network) (plan : Plan) (hop : Hop) → backup_of plan plan.backup_root ≡ Some hop
    → halves net plan.backup_root (hop ∷ walk net plan hop.parent) ≤ root_halves net plan
fallback_halves net plan hop is =
    subst (λ o. halves net plan.backup_root (hop ∷ walk net plan hop.parent) ≤ max (halves net plan.backup_root (walk net plan plan.backup_root))
    (map_or o 0 (λ h. halves net plan.backup_root (h ∷ walk net plan h.parent))))
    (sym is) (most (halves net plan.backup_root (walk net plan plan.backup_root)) (halves net plan.backup_root (hop ∷ walk net plan hop.parent)))
  where
    most : (a b : ℕ) → b ≤ max a b
    most a b = omega arith

-- what is on the walk of its parent is above it
pub on_path : (net : Network) (plan : Plan) → WellPlanned net plan → (hop : Hop) → primary_of plan plan.backup_root ≡ Some hop → (y : ℕ)
    → on_walk net plan hop.parent y ≡ true
    → has (map (λ (h : Hop). h.parent) (walk net plan plan.backup_root)) y ≡ true
on_path net plan well hop is y on =
    subst (λ (hs : List Hop). has (map (λ (h : Hop). h.parent) hs) y ≡ true) (sym (well.forest.up plan.backup_root hop well.backup_within is).walk) on

-- what is on the walk of its backup parent, but for the root, is a device of its fallback
pub on_fallback : (net : Network) (plan : Plan) (hop : Hop) → backup_of plan plan.backup_root ≡ Some hop → (y : ℕ) → on_walk net plan hop.parent y ≡ true
    → is_root plan y ≡ false → has (fallback_devices net plan) y ≡ true
on_fallback net plan hop is y on other =
    subst (λ o. has (map_or o [] (λ (h : Hop). filter (λ d. not (is_root plan d)) (devices_of h.parent (walk net plan h.parent)))) y ≡ true) (sym is)
    (has_filtered (λ d. not (is_root plan d)) (devices_of hop.parent (walk net plan hop.parent)) y on (ap not other))
