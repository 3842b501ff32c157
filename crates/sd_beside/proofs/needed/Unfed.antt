-- The devices that a domain leaves sound and does not feed: each is hit, and over its next hop only such devices lead up to it.
use Rattle.std.specs.Prelude.{◌≡◌, ℕ, ◌<◌, Bool, true, false, not, List, ◌⊎◌, length, Option, Some, None, refl, if◌then◌else◌}
use Rattle.std.specs.Option.{option_or}
use Rattle.std.proofs.Common.{sym, ap, ◌∙◌, subst, inl, inr}
use Rattle.std.proofs.lemmas.Bool.{and_parts, or_cases, eqb-true, lt-ltb, both_ways, not-true, false_from_ne_true, true_from_ne_false}
use Rattle.sd_plan.specs.topo.Network.{Network}
use Rattle.sd_plan.specs.declared.topo.Thing.{Thing}
use Rattle.sd_plan.specs.declared.topo.Thing.TheVariants as thing
use Rattle.sd_plan.specs.domain.Domains.{holds, holds_device, holds_link, hits}
use Rattle.sd_plan.specs.declared.domain.DomainId.{DomainId}
use Rattle.sd_plan.specs.declared.Hop.{Hop}
use Rattle.sd_plan.specs.declared.Plan.{Plan}
use Rattle.sd_plan.specs.Plans.{Fits, is_member, is_root, is_backup_root, primary_of, backup_of}
use Rattle.sd_plan.specs.Walks.{ends_walks, is_hit, things_of}
use Rattle.sd_plan.specs.Duties.{follows_over}
use Rattle.sd_plan.specs.Structure.{structure_breach}
use Rattle.sd_plan.proofs.Forest.{IsForest, forest_of, by_option}
use Rattle.sd_checker.specs.check_reach.Reach.{Fed, is_sound, next_hop, acting_end}
use Rattle.sd_checker.specs.check_reach.Reach as reach
use Rattle.sd_beside.proofs.needed.Paths.{no_short_walk, short_walk_is}
use Rattle.sd_beside.proofs.needed.Worlds.{is_live}
use Rattle.sd_beside.proofs.needed.Allowed.{Live, live_parts}
use Rattle.sd_beside.proofs.needed.Rings.{has_hop_within}
use Rattle.sd_beside.proofs.needed.Hush.{IsZone}
use Rattle.sd_beside.proofs.needed.Zones.{by_primary, by_backup, zone_in, zone_of, in_zone, IsOnPrimary, zone_above}

-- sound, and not fed
pub record Unfed (net : Network) (plan : Plan) (f : DomainId) (x : ℕ) : Type 0 where
  pub sound : is_sound net plan f x ≡ true
  pub unfed : ¬ Fed net plan f x

-- the link is that of the next hop of such a device
pub record IsOnNext (net : Network) (plan : Plan) (f : DomainId) (x l : ℕ) : Type 0 where
  pub unfed : Unfed net plan f x
  pub hop : Hop
  pub next : next_hop plan x ≡ Some hop
  pub link : hop.link ≡ l

-- nothing may come over it
abbrev pub IsMute : Network → Plan → DomainId → ℕ → ℕ → Type 0
IsMute net plan f x l = IsOnPrimary net plan (holds net f) x l ⊎ IsOnNext net plan f x l

module _ (net : Network) (plan : Plan) (fits : Fits net plan) (structured : structure_breach net plan ≡ None) (f : DomainId) where
  abbrev down : Thing → Bool
  down = holds net f

  forest : IsForest net plan
  forest = forest_of net plan fits structured

  spared_by : (x : ℕ) → Unfed net plan f x → (is_member plan x ≡ true) × (holds_device net f x ≡ false)
  spared_by x u =
      let (member, spared) = and_parts (is_member plan x) (not (holds_device net f x)) u.sound in
      (member, not-true (holds_device net f x) spared)

  hit : (x : ℕ) → Unfed net plan f x → is_hit net plan f x ≡ true
  hit x u = true_from_ne_false (is_hit net plan f x) (λ free. u.unfed (reach.spared u.sound (ap not free)))

  pub unfed_other : (x : ℕ) → Unfed net plan f x → ends_walks plan x ≡ false
  unfed_other x u = false_from_ne_true (ends_walks plan x) (λ ends. elim (or_cases (is_root plan x) (is_backup_root plan x) ends) [
    | inl root ↦
        (let same : x ≡ plan.root = sym (eqb-true plan.root x root) in
        let acts : acting_end net plan f ≡ plan.root =
        ap (λ (b : Bool). if b then plan.backup_root else plan.root)
        (subst (λ (y : ℕ). holds_device net f y ≡ false) same (spared_by x u).1) in
        u.unfed (reach.acts u.sound (same ∙ sym acts)))
    | inr backup ↦ u.unfed (reach.stands_by u.sound (sym (eqb-true plan.backup_root x backup)))
  ])

  pub unfed_within : (x : ℕ) → Unfed net plan f x → x < length net.devices
  unfed_within x u =
      by_option (primary_of plan x) (x < length net.devices)
      (λ none. absurd (both_ways (is_hit net plan f x)
      (subst (λ (hs : List Hop). hits net f (things_of hs) ≡ false)
      (sym (no_short_walk net plan x forest none) ∙ short_walk_is net plan x (unfed_other x u)) refl)
      (hit x u)))
      (λ hop is. has_hop_within net plan x hop fits (inl is))

  pub unfed_live : (x : ℕ) → Unfed net plan f x → is_live net plan down x ≡ true
  unfed_live x u =
      let (member, spared) = spared_by x u in
      rw (lt-ltb x (length net.devices) (unfed_within x u), member, spared) refl

  pub unfed_zone : (x : ℕ) → Unfed net plan f x → zone_in net plan down x ≡ true
  unfed_zone x u = zone_of net plan down x (unfed_live x u) (unfed_other x u) (hit x u)

  -- the next hop is the one over its link
  over_next : (x l s : ℕ) (hop : Hop) → x < length net.devices → (o : Option Hop) → backup_of plan x ≡ o → next_hop plan x ≡ Some hop → hop.link ≡ l
      → follows_over plan s l x ≡ true → hop.parent ≡ s
  over_next x l s hop within None falls next same follows =
      by_primary net plan x l s hop structured within (sym (ap (λ (b : Option Hop). option_or b (primary_of plan x)) falls) ∙ next) same follows
  over_next x l s hop within (Some b) falls next same follows =
      by_backup net plan x l s hop structured within (falls ∙ sym (ap (λ (c : Option Hop). option_or c (primary_of plan x)) falls) ∙ next) same follows

  -- what leads up to one that is not fed is not fed
  pub next_above : (x l s : ℕ) → IsOnNext net plan f x l → follows_over plan s l x ≡ true → down (thing.Link l) ≡ false → is_live net plan down s ≡ true
      → Unfed net plan f s
  next_above x l s on follows sound live =
      let u : Unfed net plan f x = on.unfed in
      let parent : on.hop.parent ≡ s = over_next x l s on.hop (unfed_within x u) (backup_of plan x) refl on.next on.link follows in
      let parts : Live net plan down s = live_parts net plan down s live in
      record {
        sound = rw (parts.member, parts.spared) refl;
        unfed = λ fed. u.unfed
            (reach.turns on.hop u.sound (hit x u) on.next (ap not (subst (λ (m : ℕ). holds_link net f m ≡ false) (sym on.link) sound))
            (ap not (subst (λ (y : ℕ). holds_device net f y ≡ false) (sym parent) parts.spared))
            (subst (λ (y : ℕ). Fed net plan f y) (sym parent) fed));
      }

  pub mute_zone : IsZone net plan down (zone_in net plan down) (IsMute net plan f)
  mute_zone =
      record {
        shut =
            record {
              live = λ z is. (in_zone net plan down z is).live;
              above = λ x l s mutes follows sound live. elim mutes [
                | inl on ↦ zone_above net plan fits structured down x l s on follows sound live
                | inr on ↦ unfed_zone s (next_above x l s on follows sound live)
              ];
            };
        ordinary = λ z is. (in_zone net plan down z is).other;
        on_primary = λ z hop is primary. inl (record { in_ = is; hop = hop; primary = primary; link = refl });
      }
