-- A plan that is accepted has no breach: no condition both holds and is broken.
use Rattle.std.proofs.Common.{◌≡◌, ℕ, Bool, true, false, ◌&&◌, ◌||◌, List, [], ◌∷◌, ◌++◌, append_assoc, nat_eq, refl, sym, ap, ◌∙◌, subst, inl, inr}
use Rattle.std.specs.List.{list_any}
use Rattle.std.proofs.lemmas.Bool.{eq-eqb, eqb-true, or_right}
use Rattle.sd_plan.specs.topo.Network.{Network}
use Rattle.sd_plan.specs.declared.domain.DomainId.{DomainId}
use Rattle.sd_plan.specs.Walks.{end_of}
use Rattle.sd_plan.specs.declared.Hop.{Hop}
use Rattle.sd_plan.specs.declared.Plan.{Plan}
use Rattle.sd_checker.specs.check_loop.Loops.{hops_of, same_hop, is_walk, HasNoCycle}
use Rattle.sd_checker.specs.check_loop.ShownCycles.{IsNextShown, IsChain, ShowsCycle}
use Rattle.sd_checker.specs.check_reach.Reach.{ReachHolds}
use Rattle.sd_checker.specs.check_reach.ShownChains.{IsShownChain}
use Rattle.sd_checker.specs.Conditions.{Condition, Holds, IsAccepted}
use Rattle.sd_checker.specs.Conditions as condition
use Rattle.sd_checker.specs.Verdicts.{IsBreach, Shows, condition_of}
use Rattle.sd_checker.specs.declared.Breach.{Breach}
use Rattle.sd_checker.specs.declared.Breach.TheVariants as breach

-- the end of a chain is a chain
pub chain_tail : (R : ℕ → ℕ → Type 0) (lead xs : List ℕ) → IsChain R (lead ++ xs) → IsChain R xs
chain_tail R [] xs chain = chain
chain_tail R (l ∷ []) [] chain = tt
chain_tail R (l ∷ []) (x ∷ xs) chain = chain.1
chain_tail R (l ∷ m ∷ ms) xs chain = chain_tail R (m ∷ ms) xs chain.1

pub same_self : (hop : Hop) → same_hop hop hop ≡ true
same_self hop = ap (λ b. b && nat_eq hop.link hop.link) (eq-eqb hop.parent hop.parent refl) ∙ eq-eqb hop.link hop.link refl

-- the hop that leads to a device
pick : (hs : List Hop) (e : ℕ) → list_any (λ (hop : Hop). nat_eq hop.parent e) hs ≡ true → (hop : Hop) × (hop.parent ≡ e) × (list_any (same_hop hop) hs ≡ true)
pick [] e leads = cc
pick (h ∷ hs) e leads = by_first (nat_eq h.parent e) refl (pick hs e)
  where
    by_first : (b : Bool) → nat_eq h.parent e ≡ b
        → (list_any (λ (hop : Hop). nat_eq hop.parent e) hs ≡ true → (hop : Hop) × (hop.parent ≡ e) × (list_any (same_hop hop) hs ≡ true))
        → (hop : Hop) × (hop.parent ≡ e) × (list_any (same_hop hop) (h ∷ hs) ≡ true)
    by_first true is further = (h, eqb-true h.parent e is, ap (λ b. b || list_any (same_hop h) hs) (same_self h))
    by_first false is further =
        let rest : list_any (λ (hop : Hop). nat_eq hop.parent e) hs ≡ true = ap (λ b. b || list_any (λ (hop : Hop). nat_eq hop.parent e) hs) (sym is) ∙ leads in
        let (hop, to, found) = further rest in
        (hop, to, or_right (same_hop hop h) (list_any (same_hop hop) hs) found)

module _ (net : Network) (plan : Plan) (f : DomainId) where
  -- a walk along a chain
  abbrev WalksTo : ℕ → ℕ → Type 0
  WalksTo d last = (hop : Hop) × (hs : List Hop) × (is_walk net plan f d (hop ∷ hs) ≡ true) × (end_of hop.parent hs ≡ last)

  both : (a b : Bool) → a ≡ true → b ≡ true → (a && b) ≡ true
  both a b is of = ap (λ c. c && b) is ∙ of

  walk_of : (d : ℕ) (xs : List ℕ) (last : ℕ) → IsChain (IsNextShown net plan f) (d ∷ (xs ++ last ∷ [])) → WalksTo d last
  walk_of d [] last chain =
      let (hop, to, found) = pick (hops_of net plan f d) last chain.0.0.0 in
      (hop, [], both (list_any (same_hop hop) (hops_of net plan f d)) true found refl, to)
  walk_of d (e ∷ es) last chain =
      let (hop, to, found) = pick (hops_of net plan f d) e chain.0.0.0 in
      let (next, hs, walked, ends) = walk_of e es last chain.1 in
      let on : is_walk net plan f hop.parent (next ∷ hs) ≡ true = subst (λ (x : ℕ). is_walk net plan f x (next ∷ hs) ≡ true) (sym to) walked in
      (hop, next ∷ hs, both (list_any (same_hop hop) (hops_of net plan f d)) (is_walk net plan f hop.parent (next ∷ hs)) found on, ends)

  pub no_shown : (cycle : List ℕ) → HasNoCycle net plan f → ShowsCycle net plan f cycle → ⊥
  no_shown [] none shown = shown
  no_shown (first ∷ others) none shown =
      let whole = subst (λ (xs : List ℕ). IsChain (IsNextShown net plan f) xs) (append_assoc shown.lead (first ∷ others) (first ∷ [])) shown.goes_on in
      let (hop, hs, walked, ends) = walk_of first others first (chain_tail (IsNextShown net plan f) shown.lead (first ∷ (others ++ first ∷ [])) whole) in
      none first hop hs walked ends

pub fed_or_cut : (net : Network) (plan : Plan) (f : DomainId) (chain : List ℕ) → ReachHolds net plan f → IsShownChain net plan f chain → ⊥
fed_or_cut net plan f chain holds shown =
    elim (holds shown.first shown.starved.0) [
      | inl fed ↦ shown.starved.1 fed
      | inr is_cut ↦ is_cut shown.starved.2
    ]

-- a plan that meets the condition has no breach of it
pub unbroken : (net : Network) (plan : Plan) (b : Breach) → Holds net plan (condition_of b) → Shows net plan b → ⊥
unbroken net plan (breach.Structure rule device) holds shown = cc (holds, shown)
unbroken net plan (breach.Ancestor device) holds shown = cc (holds, shown)
unbroken net plan (breach.Timing t) holds shown = cc (holds, shown)
unbroken net plan (breach.Root f at) holds ((k, there, before), shown) = let none = holds k f there in cc (none, shown)
unbroken net plan (breach.Loop f cycle) holds ((k, there, before), shown) = no_shown net plan f cycle (holds k f there) shown
unbroken net plan (breach.Domain f device) holds ((k, there, before), shown) = holds k f there device shown.0
unbroken net plan (breach.Reach f chain) holds ((k, there, before), shown) = fed_or_cut net plan f chain (holds k f there) shown

-- a plan that is accepted meets each condition
holds_each : (net : Network) (plan : Plan) → IsAccepted net plan → (c : Condition) → Holds net plan c
holds_each net plan accepted condition.structure = accepted.structure
holds_each net plan accepted condition.ancestor = accepted.ancestor
holds_each net plan accepted condition.timing = accepted.timing
holds_each net plan accepted condition.root = accepted.root
holds_each net plan accepted condition.loop = accepted.loop
holds_each net plan accepted condition.domain = accepted.domain
holds_each net plan accepted condition.reach = accepted.reach

-- so it has no breach
pub accepted_unbroken : (net : Network) (plan : Plan) (b : Breach) → IsAccepted net plan → IsBreach net plan b → ⊥
accepted_unbroken net plan b accepted is = unbroken net plan b (holds_each net plan accepted (condition_of b)) is.shows
