-- At most one device and at most one chain are shown.
-- A chain is a run along next hops, and runs that begin alike are the same.
use Rattle.std.proofs.Common.{◌≡◌, ℕ, ◌<◌, Bool, true, false, ◌&&◌, ◌||◌, not, ◌⊎◌, List, [], ◌∷◌, Option, Some, None, nat_eq, refl, sym, ap, ◌∙◌, subst, inl, inr, arith}
use Rattle.std.proofs.lemmas.Bool.{eq-eqb, eqb-true, and_parts, or_cases, or_left, or_right, not-true, cases_lt}
use Rattle.sd_num.specs.Lists.{has, map_or}
use Rattle.sd_num.proofs.Runs.{IsRun, SeenWith, same_run}
use Rattle.sd_plan.specs.topo.Network.{Network}
use Rattle.sd_plan.specs.domain.Domains.{holds_device, holds_link}
use Rattle.sd_plan.specs.declared.domain.DomainId.{DomainId}
use Rattle.sd_plan.specs.declared.Hop.{Hop}
use Rattle.sd_plan.specs.declared.Plan.{Plan}
use Rattle.sd_checker.specs.check_reach.Reach.{next_hop}
use Rattle.sd_checker.specs.check_reach.ShownChains.{turns_to, follows_turns, begins_with, IsStarved, IsShownChain, ShowsDevice}

-- two least numbers with a property are the same
one_least : (P : ℕ → Type 0) (x y : ℕ) → P x → ((e : ℕ) → e < x → P e → ⊥) → P y → ((e : ℕ) → e < y → P e → ⊥) → x ≡ y
one_least P x y has_x least_x has_y least_y =
    elim (cases_lt x y) [
      | inl before ↦ absurd (least_y x before has_x)
      | inr after ↦ elim (cases_lt y x) [ inl behind ↦ absurd (least_x y behind has_y) | inr within ↦ omega arith ]
    ]

-- there is at most one device to be shown
pub one_device : (net : Network) (plan : Plan) (domain : DomainId) (d e : ℕ) → ShowsDevice net plan domain d → ShowsDevice net plan domain e → d ≡ e
one_device net plan domain d e shown other = one_least _ d e shown.0 shown.1 other.0 other.1

-- the device turns to the parent of its next hop
turned : (net : Network) (plan : Plan) (domain : DomainId) (d e : ℕ) → turns_to net plan domain d e ≡ true
    → (hop : Hop) × (next_hop plan d ≡ Some hop) × (hop.parent ≡ e)
turned net plan domain d e turns = by (next_hop plan d) refl turns
  where
    by : (o : Option Hop) → next_hop plan d ≡ o
        → map_or o false (λ hop. nat_eq hop.parent e && not (holds_link net domain hop.link) && not (holds_device net domain hop.parent)) ≡ true
        → (hop : Hop) × (next_hop plan d ≡ Some hop) × (hop.parent ≡ e)
    by None is turns = cc
    by (Some hop) is turns =
        let front = (and_parts (nat_eq hop.parent e && not (holds_link net domain hop.link)) (not (holds_device net domain hop.parent)) turns).0 in
        (hop, is, eqb-true hop.parent e (and_parts (nat_eq hop.parent e) (not (holds_link net domain hop.link)) front).0)

-- it turns to one device at most
one_turn : (net : Network) (plan : Plan) (domain : DomainId) (d e g : ℕ) → turns_to net plan domain d e ≡ true → turns_to net plan domain d g ≡ true → e ≡ g
one_turn net plan domain d e g to also =
    let (hop, is, here) = turned net plan domain d e to in
    let (hop', is', here') = turned net plan domain d g also in
    let same : hop ≡ hop' = (let both : Some hop ≡ Some hop' = sym is ∙ is' in cc) in
    sym here ∙ ap (λ (h : Hop). h.parent) same ∙ here'

-- where the last device of a chain turns to another, this is in the chain
ends : (net : Network) (plan : Plan) (domain : DomainId) (chain : List ℕ) (d e : ℕ)
    → not (map_or (next_hop plan d) false (λ hop. turns_to net plan domain d hop.parent && not (has chain hop.parent))) ≡ true
    → turns_to net plan domain d e ≡ true → has chain e ≡ true
ends net plan domain chain d e stops turns =
    let (hop, is, here) = turned net plan domain d e turns in
    let at : not (turns_to net plan domain d hop.parent && not (has chain hop.parent)) ≡ true =
    subst (λ (o : Option Hop). not (map_or o false (λ hop. turns_to net plan domain d hop.parent && not (has chain hop.parent))) ≡ true) is stops
    in
    let to_e : not (turns_to net plan domain d e && not (has chain e)) ≡ true =
    subst (λ (x : ℕ). not (turns_to net plan domain d x && not (has chain x)) ≡ true) here at in
    by (turns_to net plan domain d e) (has chain e) to_e turns
  where
    by : (a b : Bool) → not (a && not b) ≡ true → a ≡ true → b ≡ true
    by true true is turns = refl
    by true false is turns = cc
    by false b is turns = cc

-- what follows in a chain is a run
run_of : (net : Network) (plan : Plan) (domain : DomainId) (chain : List ℕ) (Seen : ℕ → Type 0) (x : ℕ) (xs : List ℕ)
    → follows_turns net plan domain chain (x ∷ xs) ≡ true
    → has xs x ≡ false → ((z : ℕ) → Seen z → has (x ∷ xs) z ≡ false) → ((z : ℕ) → has chain z ≡ true → Seen z ⊎ (has (x ∷ xs) z ≡ true))
    → IsRun (λ d e. turns_to net plan domain d e ≡ true) Seen (x ∷ xs)
run_of net plan domain chain Seen x [] follows new apart whole = λ e turns. elim (whole e (ends net plan domain chain x e follows turns)) [
  | inl seen ↦ inl seen
  | inr here ↦ (elim (or_cases (nat_eq e x) false here) [ inl is ↦ inr (sym (eqb-true e x is)) | inr never ↦ cc ])
]
run_of net plan domain chain Seen x (e ∷ es) follows new apart whole =
    let (front, rest) = and_parts (turns_to net plan domain x e && not (has es e)) (follows_turns net plan domain chain (e ∷ es)) follows in
    let (turns, once) = and_parts (turns_to net plan domain x e) (not (has es e)) front in
    let here : has (e ∷ es) e ≡ true = or_left (nat_eq e e) (has es e) (eq-eqb e e refl) in
    let there : has (x ∷ e ∷ es) e ≡ true = or_right (nat_eq e x) (has (e ∷ es) e) here in (
      turns,
      λ seen. elim seen [
        | inl before ↦ (let not_there = apart e before in
            cc)
        | inr same ↦ (let gone : has (e ∷ es) e ≡ false = ap (has (e ∷ es)) (sym same) ∙ new in cc)
      ],
      run_of net plan domain chain (SeenWith Seen x) e es rest (not-true (has es e) once)
          (λ z seen. elim seen [ inl before ↦ later (nat_eq z x) (has (e ∷ es) z) (apart z before) | inr same ↦ ap (has (e ∷ es)) (sym same) ∙ new ])
          (λ z found. elim (whole z found) [
            | inl before ↦ inl (inl before)
            | inr more ↦ (elim (or_cases (nat_eq z x) (has (e ∷ es) z) more) [ inl is ↦ inl (inr (sym (eqb-true z x is))) | inr rest ↦ inr rest ])
          ]),
    )
  where
    later : (a b : Bool) → (a || b) ≡ false → b ≡ false
    later true b none = cc
    later false b none = none

-- a chain from a device, as a run
chain_run : (net : Network) (plan : Plan) (domain : DomainId) (first : ℕ) (chain : List ℕ) → begins_with chain first ≡ true
    → follows_turns net plan domain chain chain ≡ true
    → (xs : List ℕ) × (chain ≡ first ∷ xs) × IsRun (λ d e. turns_to net plan domain d e ≡ true) (λ z. ⊥) (first ∷ xs)
chain_run net plan domain first [] begins follows = cc
chain_run net plan domain first (x ∷ xs) begins follows =
    let (is, new) = and_parts (nat_eq x first) (not (has xs first)) begins in
    let same : x ≡ first = eqb-true x first is in
    let once : has xs x ≡ false = ap (has xs) same ∙ not-true (has xs first) new in
    let run = run_of net plan domain (x ∷ xs) (λ z. ⊥) x xs follows once (λ z seen. absurd seen) (λ z found. inr found) in
    (xs, ap (λ (y : ℕ). y ∷ xs) same, subst (λ (y : ℕ). IsRun (λ d e. turns_to net plan domain d e ≡ true) (λ z. ⊥) (y ∷ xs)) same run)

-- there is at most one chain to be shown
pub one_chain : (net : Network) (plan : Plan) (domain : DomainId) (a b : List ℕ) → IsShownChain net plan domain a → IsShownChain net plan domain b → a ≡ b
one_chain net plan domain a b shown other =
    let first : other.first ≡ shown.first = one_least (IsStarved net plan domain) other.first shown.first other.starved other.least shown.starved shown.least in
    let (xs, is, run) = chain_run net plan domain shown.first a shown.begins shown.goes_on in
    let (ys, is', run') = chain_run net plan domain shown.first b (subst (λ (d : ℕ). begins_with b d ≡ true) first other.begins) other.goes_on in
    let rest = same_run (λ d e. turns_to net plan domain d e ≡ true) (one_turn net plan domain) (λ z. ⊥) shown.first xs ys run run' in
    is ∙ ap (λ (zs : List ℕ). shown.first ∷ zs) rest ∙ sym is'
