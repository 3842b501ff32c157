-- Chains of next hops, as they grow and as they are shown.
use Rattle.std.specs.Prelude.{◌≡◌, ℕ, Bool, true, false, ◌&&◌, not, List, [], ◌∷◌, ◌++◌, nat_eq, Option, Some, None, if◌then◌else◌}
use Rattle.std.proofs.Common.{refl, sym, ap, ◌∙◌, subst, inl, inr}
use Rattle.std.proofs.lemmas.Bool.{and_parts, and_from, or_parts, or_left, both_ways, not-true, not_from_true, not_from_false, and_right, false_from_ne_true, eqb-true, eq-eqb}
use Rattle.std.proofs.lemmas.Option.{same_Some}
use Rattle.sd_num.specs.Lists.{has, map_or}
use Rattle.sd_plan.specs.topo.Network.{Network}
use Rattle.sd_plan.specs.domain.Domains.{holds_device, holds_link}
use Rattle.sd_plan.specs.declared.domain.DomainId.{DomainId}
use Rattle.sd_plan.specs.declared.Hop.{Hop}
use Rattle.sd_plan.specs.declared.Plan.{Plan}
use Rattle.sd_checker.specs.check_reach.Reach.{next_hop}
use Rattle.sd_checker.specs.check_reach.ShownChains.{turns_to, begins_with, follows_turns}
use Rattle.sd_checker.specs.check_reach.Reached.{is_left}
use Rattle.sd_checker.specs.check_reach.Chains.{onward, turns_along, ends_with, IsChainTo, IsChainOf}
use Rattle.sd_num.proofs.Places.{has_cases}

module _ (net : Network) (plan : Plan) (domain : DomainId) where
  -- the hop that is gone on
  pub onward_hop : (o : Option Hop) (next : ℕ) → map_or o None (λ hop. if is_left net domain hop.link hop.parent then Some hop.parent else None) ≡ Some next
      → (hop : Hop) × (o ≡ Some hop) × (is_left net domain hop.link hop.parent ≡ true) × (hop.parent ≡ next)
  onward_hop None next is = cc
  onward_hop (Some hop) next is = by (is_left net domain hop.link hop.parent) refl is
    where
      by : (b : Bool) → is_left net domain hop.link hop.parent ≡ b → (if b then Some hop.parent else None) ≡ Some next
          → (h : Hop) × (Some hop ≡ Some h) × (is_left net domain h.link h.parent ≡ true) × (h.parent ≡ next)
      by true left is = (hop, refl, left, same_Some hop.parent next is)
      by false taken is = cc

  -- it turns there
  pub onward_turns : (d next : ℕ) → onward net plan domain d ≡ Some next → turns_to net plan domain d next ≡ true
  onward_turns d next is =
      let found : (hop : Hop) × (next_hop plan d ≡ Some hop) × (is_left net domain hop.link hop.parent ≡ true) × (hop.parent ≡ next) =
      onward_hop (next_hop plan d) next is in
      let hop : Hop = found.0 in
      let parts : (not (holds_link net domain hop.link) ≡ true) × (not (holds_device net domain hop.parent) ≡ true) =
      and_parts (not (holds_link net domain hop.link)) (not (holds_device net domain hop.parent)) found.2 in
      subst (λ (o : Option Hop). map_or o false (λ h. nat_eq h.parent next && not (holds_link net domain h.link) && not (holds_device net domain h.parent))
      ≡ true) (sym found.1)
      (and_from (nat_eq hop.parent next && not (holds_link net domain hop.link)) (not (holds_device net domain hop.parent))
      (and_from (nat_eq hop.parent next) (not (holds_link net domain hop.link)) (eq-eqb hop.parent next found.3) parts.0) parts.1)

  -- whether a next hop goes on to a device that the chain has not
  pub goes_on_new : Option Hop → List ℕ → Bool
  goes_on_new o chain =
      map_or o false (λ hop. map_or o false (λ h. nat_eq h.parent hop.parent && not (holds_link net domain h.link) && not (holds_device net domain h.parent))
      && not (has chain hop.parent))

  -- no hop is left to go on
  pub stops : (o : Option Hop) (chain : List ℕ) → map_or o None (λ hop. if is_left net domain hop.link hop.parent then Some hop.parent else None) ≡ None
      → goes_on_new o chain ≡ false
  unfolding goes_on_new
  stops None chain none = refl
  stops (Some hop) chain none = by (is_left net domain hop.link hop.parent) refl none
    where
      taken : (a l d : Bool) → (not l && not d) ≡ false → ((a && not l) && not d) ≡ false
      taken true l d t = t
      taken false l d t = refl

      by : (b : Bool) → is_left net domain hop.link hop.parent ≡ b → (if b then Some hop.parent else None) ≡ None
          → ((nat_eq hop.parent hop.parent && not (holds_link net domain hop.link) && not (holds_device net domain hop.parent)) && not (has chain hop.parent))
          ≡ false
      by true left none = cc
      by false out none =
          ap (λ (b : Bool). b && not (has chain hop.parent))
          (taken (nat_eq hop.parent hop.parent) (holds_link net domain hop.link) (holds_device net domain hop.parent) out)

  -- the hop that is left leads back
  pub comes_round : (o : Option Hop) (chain : List ℕ) (next : ℕ)
      → map_or o None (λ hop. if is_left net domain hop.link hop.parent then Some hop.parent else None) ≡ Some next → has chain next ≡ true
      → goes_on_new o chain ≡ false
  unfolding goes_on_new
  comes_round None chain next is there = refl
  comes_round (Some hop) chain next is there =
      let found : (h : Hop) × (Some hop ≡ Some h) × (is_left net domain h.link h.parent ≡ true) × (h.parent ≡ next) = onward_hop (Some hop) next is in
      let same : hop.parent ≡ next = ap (λ (h : Hop). h.parent) (same_Some hop found.0 found.1) ∙ found.3 in
      and_right (nat_eq hop.parent hop.parent && not (holds_link net domain hop.link) && not (holds_device net domain hop.parent)) (not (has chain hop.parent))
      (not_from_true (has chain hop.parent) (subst (λ x. has chain x ≡ true) (sym same) there))

  -- one element more
  along_more : (chain : List ℕ) (here next : ℕ) → turns_along net plan domain chain ≡ true → ends_with chain here → turns_to net plan domain here next ≡ true
      → has chain next ≡ false → turns_along net plan domain (chain ++ next ∷ []) ≡ true
  along_more [] here next along ends turns new = absurd ends
  along_more (d ∷ []) here next along ends turns new =
      and_from (turns_to net plan domain d next && not (has [] next)) true
      (and_from (turns_to net plan domain d next) (not (has [] next)) (subst (λ x. turns_to net plan domain x next ≡ true) (sym ends) turns) refl) refl
  along_more (d ∷ e ∷ es) here next along ends turns new =
      let parts : ((turns_to net plan domain d e && not (has es e)) ≡ true) × (turns_along net plan domain (e ∷ es) ≡ true) =
      and_parts (turns_to net plan domain d e && not (has es e)) (turns_along net plan domain (e ∷ es)) along in
      let first : (turns_to net plan domain d e ≡ true) × (not (has es e) ≡ true) = and_parts (turns_to net plan domain d e) (not (has es e)) parts.0 in
      let out : (nat_eq next d ≡ false) × (has (e ∷ es) next ≡ false) = or_parts (nat_eq next d) (has (e ∷ es) next) new in
      and_from (turns_to net plan domain d e && not (has (es ++ next ∷ []) e)) (turns_along net plan domain (e ∷ (es ++ next ∷ [])))
      (and_from (turns_to net plan domain d e) (not (has (es ++ next ∷ []) e)) first.0
      (not_from_false (has (es ++ next ∷ []) e) (still es next e (not-true (has es e) first.1) out.1)))
      (along_more (e ∷ es) here next parts.1 ends turns out.1)
    where
      still : (es : List ℕ) (next e : ℕ) → has es e ≡ false → has (e ∷ es) next ≡ false → has (es ++ next ∷ []) e ≡ false
      still es next e out new = false_from_ne_true (has (es ++ next ∷ []) e) (λ there. elim (has_cases es next e there) [
        | inl before ↦ both_ways (has es e) out before
        | inr same ↦ both_ways (has (e ∷ es) next) new (or_left (nat_eq next e) (has es next) (eq-eqb next e (sym same)))
      ])

  ends_more : (chain : List ℕ) (next : ℕ) → ends_with (chain ++ next ∷ []) next
  ends_more [] next = refl
  ends_more (d ∷ []) next = refl
  ends_more (d ∷ e ∷ es) next = ends_more (e ∷ es) next

  begins_more : (chain : List ℕ) (first next here : ℕ) → begins_with chain first ≡ true → ends_with chain here → has chain next ≡ false
      → begins_with (chain ++ next ∷ []) first ≡ true
  begins_more [] first next here begins ends new = absurd ends
  begins_more (e ∷ es) first next here begins ends new =
      let parts : (nat_eq e first ≡ true) × (not (has es first) ≡ true) = and_parts (nat_eq e first) (not (has es first)) begins in
      and_from (nat_eq e first) (not (has (es ++ next ∷ []) first)) parts.0
      (not_from_false (has (es ++ next ∷ []) first) (false_from_ne_true (has (es ++ next ∷ []) first) (λ there. elim (has_cases es next first there) [
        | inl before ↦ both_ways (has es first) (not-true (has es first) parts.1) before
        | inr same ↦ both_ways (has (e ∷ es) next) new (or_left (nat_eq next e) (has es next) (eq-eqb next e (sym same ∙ sym (eqb-true e first parts.0))))
      ])))

  pub chain_more : (first here next : ℕ) (chain : List ℕ) → IsChainTo net plan domain first here chain → onward net plan domain here ≡ Some next
      → has chain next ≡ false → IsChainTo net plan domain first next (chain ++ next ∷ [])
  chain_more first here next chain known is new =
      record {
        begins = begins_more chain first next here known.begins known.ends new;
        along = along_more chain here next known.along known.ends (onward_turns here next is) new;
        ends = ends_more chain next;
      }

  -- a chain that goes no further is the one to be shown
  follows : (chain xs : List ℕ) (here : ℕ) → turns_along net plan domain xs ≡ true → ends_with xs here → goes_on_new (next_hop plan here) chain ≡ false
      → follows_turns net plan domain chain xs ≡ true
  unfolding goes_on_new
  follows chain [] here along ends stopped = refl
  follows chain (d ∷ []) here along ends stopped =
      subst (λ x. follows_turns net plan domain chain (x ∷ []) ≡ true) (sym ends)
      (not_from_false (map_or (next_hop plan here) false (λ hop. turns_to net plan domain here hop.parent && not (has chain hop.parent))) stopped)
  follows chain (d ∷ e ∷ es) here along ends stopped =
      let parts : ((turns_to net plan domain d e && not (has es e)) ≡ true) × (turns_along net plan domain (e ∷ es) ≡ true) =
      and_parts (turns_to net plan domain d e && not (has es e)) (turns_along net plan domain (e ∷ es)) along in
      and_from (turns_to net plan domain d e && not (has es e)) (follows_turns net plan domain chain (e ∷ es)) parts.0
      (follows chain (e ∷ es) here parts.1 ends stopped)

  pub chain_stopped : (first here : ℕ) (chain : List ℕ) → IsChainTo net plan domain first here chain → goes_on_new (next_hop plan here) chain ≡ false
      → IsChainOf net plan domain first chain
  chain_stopped first here chain known stopped = record { begins = known.begins; goes_on = follows chain chain here known.along known.ends stopped }
