-- Next hops, and what they make of fed devices.
use Rattle.std.specs.Prelude.{◌≡◌, ℕ, ◌<◌, true, false, ◌&&◌, not, length, Option, Some, None, IfSome}
use Rattle.std.specs.Option.{option_or}
use Rattle.std.proofs.Common.{sym, ap, ◌∙◌, subst}
use Rattle.std.proofs.lemmas.Bool.{and_parts, and_from, not_from_false}
use Rattle.std.proofs.lemmas.Option.{same_Some}
use Rattle.sd_plan.specs.topo.Network.{Network, joins}
use Rattle.sd_plan.specs.domain.Domains.{holds_device, holds_link}
use Rattle.sd_plan.specs.declared.domain.DomainId.{DomainId}
use Rattle.sd_plan.specs.declared.Hop.{Hop}
use Rattle.sd_plan.specs.declared.Plan.{Plan}
use Rattle.sd_plan.specs.Plans.{Fits, IsHop, is_member, is_present, primary_of, backup_of}
use Rattle.sd_plan.specs.Walks.{is_hit}
use Rattle.sd_plan.specs.Structure.{hop_is_right}
use Rattle.sd_plan.proofs.Rules.{KeepsRules, hops_within}
use Rattle.sd_checker.specs.check_reach.Reach.{Fed, turns, is_sound, next_hop}
use Rattle.sd_checker.specs.check_reach.Reached.{is_left}
use Rattle.sd_checker.specs.check_reach.Turns.{IsHeld}
use Rattle.sd_checker.proofs.check_reach.Walked.{hit_device}

-- what holds of a next hop
pub record RightHop (net : Network) (plan : Plan) (d : ℕ) (hop : Hop) : Type 0 where
  pub member : is_member plan hop.parent ≡ true
  pub present : is_present plan hop.link ≡ true
  pub joined : joins net hop.link d hop.parent ≡ true
  pub parent : hop.parent < length net.devices
  pub link : hop.link < length net.links

pub next_right : (net : Network) (plan : Plan) (d : ℕ) (hop : Hop) → Fits net plan → KeepsRules net plan → d < length net.devices → next_hop plan d ≡ Some hop
    → RightHop net plan d hop
next_right net plan d hop fits rules within is =
    let both : (hop_is_right net plan d (primary_of plan d) ≡ true) × (hop_is_right net plan d (backup_of plan d) ≡ true) =
    and_parts (hop_is_right net plan d (primary_of plan d)) (hop_is_right net plan d (backup_of plan d)) (rules.hops d within) in
    let known : IfSome (primary_of plan d) (IsHop net) × IfSome (backup_of plan d) (IsHop net) = hops_within net plan d fits in
    by (backup_of plan d) (primary_of plan d) both.1 both.0 known.1 known.0 is
  where
    of_hop : (o : Option Hop) → hop_is_right net plan d o ≡ true → IfSome o (IsHop net) → o ≡ Some hop → RightHop net plan d hop
    of_hop None right known is = cc
    of_hop (Some h) right known is =
        let parts : ((is_member plan h.parent && is_present plan h.link) ≡ true) × (joins net h.link d h.parent ≡ true) =
        and_parts (is_member plan h.parent && is_present plan h.link) (joins net h.link d h.parent) right in
        let usable : (is_member plan h.parent ≡ true) × (is_present plan h.link ≡ true) =
        and_parts (is_member plan h.parent) (is_present plan h.link) parts.0 in
        let here : RightHop net plan d h = record { member = usable.0; present = usable.1; joined = parts.1; parent = known.0; link = known.1 } in
        subst (λ (x : Hop). RightHop net plan d x) (same_Some h hop is) here

    by : (b p : Option Hop) → hop_is_right net plan d b ≡ true → hop_is_right net plan d p ≡ true → IfSome b (IsHop net) → IfSome p (IsHop net)
        → option_or b p ≡ Some hop → RightHop net plan d hop
    by None p right_b right_p known_b known_p is = of_hop p right_p known_p is
    by (Some h) p right_b right_p known_b known_p is = of_hop (Some h) right_b known_b is

module _ (net : Network) (plan : Plan) (domain : DomainId) (fits : Fits net plan) (rules : KeepsRules net plan) (d : ℕ) where
  -- a hit device that the domain does not have is sound
  pub hit_sound : is_hit net plan domain d ≡ true → holds_device net domain d ≡ false → is_sound net plan domain d ≡ true
  hit_sound hit out =
      and_from (is_member plan d) (not (holds_device net domain d)) (hit_device net plan domain d fits rules hit).member
      (not_from_false (holds_device net domain d) out)

  -- what a hop that the domain leaves leads to is sound
  pub parent_sound : (hop : Hop) → d < length net.devices → next_hop plan d ≡ Some hop → is_left net domain hop.link hop.parent ≡ true
      → is_sound net plan domain hop.parent ≡ true
  parent_sound hop within is left =
      and_from (is_member plan hop.parent) (not (holds_device net domain hop.parent)) (next_right net plan d hop fits rules within is).member
      (and_parts (not (holds_link net domain hop.link)) (not (holds_device net domain hop.parent)) left).1

  -- a hit device is fed if its next hop is left and leads to one that is fed
  pub turns_fed : (hop : Hop) → is_hit net plan domain d ≡ true → holds_device net domain d ≡ false → next_hop plan d ≡ Some hop
      → is_left net domain hop.link hop.parent ≡ true → Fed net plan domain hop.parent → Fed net plan domain d
  turns_fed hop hit out is left fed =
      let parts : (not (holds_link net domain hop.link) ≡ true) × (not (holds_device net domain hop.parent) ≡ true) =
      and_parts (not (holds_link net domain hop.link)) (not (holds_device net domain hop.parent)) left in
      turns hop (hit_sound hit out) hit is parts.0 parts.1 fed

  -- a device whose hop leads to e is held by e
  pub held_by : (hop : Hop) (e : ℕ) → (d ≡ plan.backup_root → ⊥) → next_hop plan d ≡ Some hop → hop.parent ≡ e → IsHeld net plan domain (λ x. x ≡ e) d
  held_by hop e other is leads =
      record { held = λ sound. (other, λ h there left. ap (λ (x : Hop). x.parent) (same_Some h hop (sym there ∙ is)) ∙ leads) }
