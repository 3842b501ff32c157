-- The loop condition is needed: a ring that it forbids comes about in a history that breaks no premise.
use Rattle.std.specs.Prelude.{◌≡◌, ℕ, ◌^◌, ◌<◌, ◌≤◌, Bool, true, false, ◌&&◌, not, List, [], ◌∷◌, ◌++◌, length, nat_eq, Option, Some, None, ◌⊎◌, refl}
use Rattle.std.proofs.Common.{sym, ap, ◌∙◌, subst, inl, inr, append_assoc}
use Rattle.std.proofs.lemmas.Bool.{and_parts, eq-eqb, eqb-true, not-true, not-false, both_ways}
use Rattle.sd_num.specs.Lists.{has, map_or}
use Rattle.sd_plan.specs.topo.Network.{Network}
use Rattle.sd_plan.specs.topo.Limits.{IsNetwork}
use Rattle.sd_plan.specs.declared.topo.Thing.{Thing}
use Rattle.sd_plan.specs.declared.topo.Thing.TheVariants as thing
use Rattle.sd_plan.specs.domain.Domains.{holds, holds_device}
use Rattle.sd_plan.specs.domain.Lone.{IsDomain}
use Rattle.sd_plan.specs.declared.domain.DomainId.{DomainId}
use Rattle.sd_plan.specs.declared.Hop.{Hop}
use Rattle.sd_plan.specs.declared.Plan.{Plan}
use Rattle.sd_plan.specs.Plans.{Fits, primary_of, backup_of}
use Rattle.sd_plan.specs.Structure.{structure_breach}
use Rattle.sd_plan.specs.Walks.{is_hit}
use Rattle.sd_checker.specs.Conditions as condition
use Rattle.sd_checker.specs.check_loop.ShownCycles.{IsChain, AreDifferent, IsNextShown, LeadsTo, IsShownCycle}
use Rattle.sd_checker.proofs.Exclusive.{chain_tail}
use Rattle.sd_plan.proofs.Forest.{IsParent}
use Rattle.sd_history.specs.Chronicle.{chronicle}
use Rattle.sd_history.specs.Lines.{counted_parent}
use Rattle.sd_history.specs.World.{alone}
use Rattle.sd_beside.specs.needed.Alone.{holds_besides}
use Rattle.sd_beside.specs.needed.Loops.{IsRing, ClosesLoop, event_bound, LoopIsNeeded, LoopRefusalIsRight}
use Rattle.sd_beside.proofs.needed.Going.{premises_held}
use Rattle.sd_beside.proofs.needed.Rings as rings
use Rattle.sd_beside.proofs.needed.Rings.{domain_among, domain_is, Led, chain_of, next_in, led_next, ring_zone}
use Rattle.sd_beside.proofs.needed.Zones.{zone_in, IsOnPrimary, is_zone}
use Rattle.sd_beside.proofs.needed.Moving.{HasMoved, has_moved}

module _ (net : Network) (plan : Plan) (law : IsNetwork net) (fits : Fits net plan) (structured : structure_breach net plan ≡ None)
    (bound : event_bound net plan ≤ 2 ^ 26) (f : DomainId) (is_domain : IsDomain net f) (first : ℕ) (others : List ℕ)
    (ring : IsRing net plan f first others) where
  abbrev all : List ℕ
  all = first ∷ others

  abbrev next : ℕ → ℕ
  next x = next_in first all x

  abbrev down : Thing → Bool
  down = holds_besides net f all

  abbrev leads_to : Option Hop → ℕ → Bool
  leads_to o y = map_or o false (λ hop. nat_eq hop.parent y)

  -- a device of the ring moves where its primary hop does not lead to the next
  abbrev mover : ℕ → Bool
  mover x = has all x && not (leads_to (primary_of plan x) (next x))

  of_ring : (x : ℕ) → has all x ≡ true → Led net plan f x (next x)
  of_ring = led_next net plan law fits structured f is_domain first others ring

  -- a mover falls back on the next
  falls_back : (x : ℕ) → mover x ≡ true → IsParent (backup_of plan x) (next x)
  falls_back x is =
      let (there, stays) = and_parts (has all x) (not (leads_to (primary_of plan x) (next x))) is in
      by there (not-true (leads_to (primary_of plan x) (next x)) stays) (of_ring x there).by
    where
      by : has all x ≡ true → leads_to (primary_of plan x) (next x) ≡ false
          → IsParent (primary_of plan x) (next x) ⊎ ((is_hit net plan f x ≡ true) × IsParent (backup_of plan x) (next x)) → IsParent (backup_of plan x) (next x)
      by there other (inr both) = both.1
      by there other (inl parent) =
          absurd (both_ways (leads_to (primary_of plan x) (next x)) other
          (ap (λ (o : Option Hop). leads_to o (next x)) parent.1 ∙ eq-eqb parent.0.parent (next x) parent.2))

  -- another one follows the next
  leads_up : (x : ℕ) → has all x ≡ true → mover x ≡ false → IsParent (primary_of plan x) (next x)
  leads_up x there is = by (primary_of plan x) refl
      (not-false (leads_to (primary_of plan x) (next x)) (sym (ap (λ b. b && not (leads_to (primary_of plan x) (next x))) there) ∙ is))
    where
      by : (o : Option Hop) → primary_of plan x ≡ o → leads_to o (next x) ≡ true → IsParent (primary_of plan x) (next x)
      by None primary leads = cc
      by (Some hop) primary leads = (hop, primary, eqb-true hop.parent (next x) leads)

  held : (x : Thing) → down x ≡ true → holds net f x ≡ true
  held (thing.Device d) is = (and_parts (holds_device net f d) (not (has all d)) is).0
  held (thing.Link l) is = is

  known_device : (d : ℕ) → down (thing.Device d) ≡ true → d < length net.devices
  known_device d is = rings.known_device net f d law is_domain (held (thing.Device d) is)

  known_link : (l : ℕ) → down (thing.Link l) ≡ true → l < length net.links
  known_link l is = rings.known_link net f l law is_domain is

  moves_zone : (z : ℕ) → mover z ≡ true → zone_in net plan down z ≡ true
  moves_zone z is = ring_zone net plan law fits structured f is_domain first others ring z
      (and_parts (has all z) (not (leads_to (primary_of plan z) (next z))) is).0

  moves_back : (z : ℕ) → mover z ≡ true → (hop : Hop) × (backup_of plan z ≡ Some hop)
  moves_back z is = let parent = falls_back z is in (parent.0, parent.1)

  -- the history at the end of the wait
  abbrev Ended : Type 0
  Ended =
      HasMoved net plan f down (zone_in net plan down) (IsOnPrimary net plan down) law (domain_among net f is_domain) known_device known_link held
      (is_zone net plan fits structured down) bound mover moves_zone moves_back

  pub closes : ClosesLoop net plan f first others
  closes = by
      (has_moved net plan f down (zone_in net plan down) (IsOnPrimary net plan down) law (domain_among net f is_domain) known_device known_link held
      (is_zone net plan fits structured down) bound mover moves_zone moves_back)
    where
      follows_next : (end_ : Ended) (x : ℕ) → has all x ≡ true → (b : Bool) → mover x ≡ b
          → counted_parent (alone net plan) (chronicle (alone net plan) end_.history) x ≡ Some (next x)
      follows_next end_ x there true is = let parent = falls_back x is in end_.moved x parent.0 is parent.1 ∙ ap Some parent.2
      follows_next end_ x there false is =
          let parent = leads_up x there is in
          end_.unmoved x parent.0 (ring_zone net plan law fits structured f is_domain first others ring x there) is parent.1 ∙ ap Some parent.2

      by : Ended → ClosesLoop net plan f first others
      by end_ =
          record {
            history = end_.history;
            clean =
                record {
                  is = end_.good.is;
                  premises = premises_held net plan f down end_.history end_.reference end_.good;
                  failures = end_.good.failures;
                };
            follows = chain_of (λ d e. counted_parent (alone net plan) (chronicle (alone net plan) end_.history) d ≡ Some e) first first others ring.different
                (λ x there. follows_next end_ x there (mover x) refl);
          }

pub loop_is_needed : (net : Network) (plan : Plan) → LoopIsNeeded net plan
loop_is_needed net plan law fits structured bound f is_domain first others ring = closes net plan law fits structured bound f is_domain first others ring

-- What the checker shows

chain_map : (R S : ℕ → ℕ → Type 0) (xs : List ℕ) → ((x y : ℕ) → R x y → S x y) → IsChain R xs → IsChain S xs
chain_map R S [] each chain = tt
chain_map R S (x ∷ []) each chain = tt
chain_map R S (x ∷ y ∷ ys) each chain = (each x y chain.0, chain_map R S (y ∷ ys) each chain.1)

different_drop : (xs ys : List ℕ) → AreDifferent (xs ++ ys) → AreDifferent ys
different_drop [] ys different = different
different_drop (x ∷ xs) ys different = different_drop xs ys different.1

-- the cycle that the checker shows is a ring
shown_ring : (net : Network) (plan : Plan) (f : DomainId) (first : ℕ) (others : List ℕ) → IsShownCycle net plan f first others → IsRing net plan f first others
shown_ring net plan f first others shown =
    record {
      different = different_drop shown.lead (first ∷ others) shown.once;
      leads = chain_map (IsNextShown net plan f) (LeadsTo net plan f) (first ∷ (others ++ first ∷ [])) (λ x y next_. next_.0.0)
          (chain_tail (IsNextShown net plan f) shown.lead (first ∷ (others ++ first ∷ []))
          (subst (IsChain (IsNextShown net plan f)) (append_assoc shown.lead (first ∷ others) (first ∷ [])) shown.goes_on));
    }

pub loop_refusal_is_right : (net : Network) (plan : Plan) → LoopRefusalIsRight net plan
loop_refusal_is_right net plan law fits bound f first others broken =
    loop_is_needed net plan law fits (broken.before condition.structure refl) bound f (domain_is net (broken.shows.0.0) f broken.shows.0.1) first others
    (shown_ring net plan f first others broken.shows.1)
