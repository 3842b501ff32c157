-- The devices that what fails cuts off from above, up to the first of backup root and root: a zone.
use Rattle.std.specs.Prelude.{◌≡◌, ℕ, ◌<◌, Bool, true, false, ◌&&◌, ◌||◌, not, List, ◌∷◌, length, find, nat_eq, Option, Some, None, option_map, refl}
use Rattle.std.specs.List.{list_any}
use Rattle.std.proofs.Common.{sym, ◌∙◌, subst, inl, inr}
use Rattle.std.proofs.lemmas.Bool.{and_parts, or_cases, eqb-true, eq-eqb, cases_Bool, both_ways, not-true, not-false}
use Rattle.sd_num.specs.Lists.{map_or}
use Rattle.sd_plan.specs.topo.Network.{Network, device_numbers}
use Rattle.sd_plan.specs.declared.topo.Thing.{Thing}
use Rattle.sd_plan.specs.declared.topo.Thing.TheVariants as thing
use Rattle.sd_plan.specs.declared.Hop.{Hop}
use Rattle.sd_plan.specs.declared.Plan.{Plan}
use Rattle.sd_plan.specs.Plans.{Fits, primary_of, backup_of}
use Rattle.sd_plan.specs.Walks.{ends_walks, epath, things_of, short_walk}
use Rattle.sd_plan.specs.Duties.{leads_to, follows_over}
use Rattle.sd_plan.specs.Structure.{structure_breach, first_failing, roots_breach, row_is_right, hops_are_right, links_differ}
use Rattle.sd_plan.proofs.Numbered.{none_found, both_none}
use Rattle.sd_plan.proofs.Forest.{IsForest, forest_of}
use Rattle.sd_plan.proofs.Rules.{none_mapped}
use Rattle.sd_beside.proofs.needed.Paths.{short_walk_is, short_walk_none, path_step}
use Rattle.sd_beside.proofs.needed.Worlds.{is_live}
use Rattle.sd_beside.proofs.needed.Allowed.{live_parts}
use Rattle.sd_beside.proofs.needed.Hush.{IsZone}

-- rule 4
pub links_rule : (net : Network) (plan : Plan) (d : ℕ) → structure_breach net plan ≡ None → d < length net.devices → links_differ plan d ≡ true
links_rule net plan d structured within =
    let second = (both_none (option_map _ (roots_breach plan)) _ structured).1 in
    let third = (both_none (first_failing net 2 (row_is_right plan)) _ second).1 in
    let fourth = (both_none (first_failing net 3 (hops_are_right net plan)) _ third).1 in
    let here = (both_none (first_failing net 4 (links_differ plan)) _ fourth).0 in
    not-false (links_differ plan d)
    (none_found (λ x. not (links_differ plan x)) (length net.devices) d
    (none_mapped (λ x. (4, x)) (find (λ x. not (links_differ plan x)) (device_numbers net)) here) within)

-- so a hop over the primary link is the primary one
pub by_primary : (net : Network) (plan : Plan) (x l s : ℕ) (hop : Hop) → structure_breach net plan ≡ None → x < length net.devices
    → primary_of plan x ≡ Some hop → hop.link ≡ l → follows_over plan s l x ≡ true → hop.parent ≡ s
by_primary net plan x l s hop structured within primary same follows =
    elim (or_cases (leads_to s l (primary_of plan x)) (leads_to s l (backup_of plan x)) follows) [
      | inl one ↦ (let leads : (nat_eq hop.parent s && nat_eq hop.link l) ≡ true = subst (λ (o : Option Hop). leads_to s l o ≡ true) primary one in
          eqb-true hop.parent s (and_parts (nat_eq hop.parent s) (nat_eq hop.link l) leads).0)
      | inr two ↦ absurd (by (backup_of plan x) refl two)
    ]
  where
    by : (o : Option Hop) → backup_of plan x ≡ o → leads_to s l o ≡ true → ⊥
    by None falls leads = cc
    by (Some b) falls leads =
        let rule : map_or (Some hop) true (λ p. map_or (Some b) true (λ q. not (nat_eq p.link q.link))) ≡ true =
        subst (λ (o : Option Hop). map_or (Some hop) true (λ p. map_or o true (λ q. not (nat_eq p.link q.link))) ≡ true) falls
        (subst (λ (o : Option Hop). map_or o true (λ p. map_or (backup_of plan x) true (λ q. not (nat_eq p.link q.link))) ≡ true) primary
        (links_rule net plan x structured within)) in
        both_ways (nat_eq hop.link b.link) (not-true (nat_eq hop.link b.link) rule)
        (eq-eqb hop.link b.link (same ∙ sym (eqb-true b.link l (and_parts (nat_eq b.parent s) (nat_eq b.link l) leads).1)))

-- and a hop over the backup link is the backup one
pub by_backup : (net : Network) (plan : Plan) (x l s : ℕ) (hop : Hop) → structure_breach net plan ≡ None → x < length net.devices
    → backup_of plan x ≡ Some hop → hop.link ≡ l → follows_over plan s l x ≡ true → hop.parent ≡ s
by_backup net plan x l s hop structured within falls same follows =
    elim (or_cases (leads_to s l (primary_of plan x)) (leads_to s l (backup_of plan x)) follows) [
      | inl one ↦ absurd (by (primary_of plan x) refl one)
      | inr two ↦ (let leads : (nat_eq hop.parent s && nat_eq hop.link l) ≡ true = subst (λ (o : Option Hop). leads_to s l o ≡ true) falls two in
          eqb-true hop.parent s (and_parts (nat_eq hop.parent s) (nat_eq hop.link l) leads).0)
    ]
  where
    by : (o : Option Hop) → primary_of plan x ≡ o → leads_to s l o ≡ true → ⊥
    by None primary leads = cc
    by (Some p) primary leads =
        let rule : map_or (Some p) true (λ v. map_or (Some hop) true (λ q. not (nat_eq v.link q.link))) ≡ true =
        subst (λ (o : Option Hop). map_or (Some p) true (λ v. map_or o true (λ q. not (nat_eq v.link q.link))) ≡ true) falls
        (subst (λ (o : Option Hop). map_or o true (λ v. map_or (backup_of plan x) true (λ q. not (nat_eq v.link q.link))) ≡ true) primary
        (links_rule net plan x structured within)) in
        both_ways (nat_eq p.link hop.link) (not-true (nat_eq p.link hop.link) rule)
        (eq-eqb p.link hop.link (eqb-true p.link l (and_parts (nat_eq p.parent s) (nat_eq p.link l) leads).1 ∙ sym same))

abbrev pub zone_in : Network → Plan → (Thing → Bool) → ℕ → Bool
zone_in net plan down z = is_live net plan down z && not (ends_walks plan z) && list_any down (epath net plan z)

pub record InZone (net : Network) (plan : Plan) (down : Thing → Bool) (z : ℕ) : Type 0 where
  pub live : is_live net plan down z ≡ true
  pub other : ends_walks plan z ≡ false
  pub touched : list_any down (epath net plan z) ≡ true

pub in_zone : (net : Network) (plan : Plan) (down : Thing → Bool) (z : ℕ) → zone_in net plan down z ≡ true → InZone net plan down z
in_zone net plan down z is =
    let (front, touched) = and_parts (is_live net plan down z && not (ends_walks plan z)) (list_any down (epath net plan z)) is in
    let (live, other) = and_parts (is_live net plan down z) (not (ends_walks plan z)) front in
    record { live = live; other = not-true (ends_walks plan z) other; touched = touched }

pub zone_of : (net : Network) (plan : Plan) (down : Thing → Bool) (z : ℕ) → is_live net plan down z ≡ true → ends_walks plan z ≡ false
    → list_any down (epath net plan z) ≡ true → zone_in net plan down z ≡ true
zone_of net plan down z live other touched = rw (live, other, touched) refl

-- the link is the primary one of a device of the zone
pub record IsOnPrimary (net : Network) (plan : Plan) (down : Thing → Bool) (x l : ℕ) : Type 0 where
  pub in_ : zone_in net plan down x ≡ true
  pub hop : Hop
  pub primary : primary_of plan x ≡ Some hop
  pub link : hop.link ≡ l

module _ (net : Network) (plan : Plan) (fits : Fits net plan) (structured : structure_breach net plan ≡ None) (down : Thing → Bool) where
  forest : IsForest net plan
  forest = forest_of net plan fits structured

  -- what a sound primary link leads up to is in the zone too
  pub zone_above : (x l s : ℕ) → IsOnPrimary net plan down x l → follows_over plan s l x ≡ true → down (thing.Link l) ≡ false → is_live net plan down s ≡ true
      → zone_in net plan down s ≡ true
  zone_above x l s on follows sound live =
      let is : InZone net plan down x = in_zone net plan down x on.in_ in
      let within : x < length net.devices = (live_parts net plan down x is.live).within in
      let parent : on.hop.parent ≡ s = by_primary net plan x l s on.hop structured within on.primary on.link follows in
      subst (λ (y : ℕ). zone_in net plan down y ≡ true) parent
      (goes_up x on.hop is within on.primary (subst (λ (m : ℕ). down (thing.Link m) ≡ false) (sym on.link) sound)
      (subst (λ (y : ℕ). is_live net plan down y ≡ true) (sym parent) live))
    where
      goes_up : (z : ℕ) (hop : Hop) → InZone net plan down z → z < length net.devices → primary_of plan z ≡ Some hop → down (thing.Link hop.link) ≡ false
          → is_live net plan down hop.parent ≡ true → zone_in net plan down hop.parent ≡ true
      goes_up z hop is within primary sound' live' =
          let spared : down (thing.Device hop.parent) ≡ false = (live_parts net plan down hop.parent live').spared in
          let whole : list_any down (things_of (hop ∷ short_walk net plan hop.parent)) ≡ true =
          subst (λ (hs : List Hop). list_any down (things_of hs) ≡ true) (path_step net plan z hop forest within primary) is.touched in
          let rest : list_any down (things_of (short_walk net plan hop.parent)) ≡ true = beyond (down (thing.Link hop.link)) (down (thing.Device hop.parent))
          (list_any down (things_of (short_walk net plan hop.parent))) sound' spared whole in
          elim (cases_Bool (ends_walks plan hop.parent)) [
            | inl ends ↦ absurd
                (both_ways false refl (subst (λ (hs : List Hop). list_any down (things_of hs) ≡ true) (short_walk_none net plan hop.parent ends) rest))
            | inr other ↦ zone_of net plan down hop.parent live' other
                (subst (λ (hs : List Hop). list_any down (things_of hs) ≡ true) (short_walk_is net plan hop.parent other) rest)
          ]
        where
          beyond : (a b c : Bool) → a ≡ false → b ≡ false → (a || (b || c)) ≡ true → c ≡ true
          beyond a b c none_a none_b either = sym (rw (none_a, none_b) refl) ∙ either

  pub is_zone : IsZone net plan down (zone_in net plan down) (IsOnPrimary net plan down)
  is_zone =
      record {
        shut = record { live = λ z is. (in_zone net plan down z is).live; above = zone_above };
        ordinary = λ z is. (in_zone net plan down z is).other;
        on_primary = λ z hop is primary. record { in_ = is; hop = hop; primary = primary; link = refl };
      }
