-- At most one verdict on a plan is right.
-- Of two breaches the later condition would hold and be broken, so both are of one condition; each condition shows one thing of
-- the first domain that breaks it.
use Rattle.std.proofs.Common.{◌≡◌, ℕ, Some, refl, sym, ap, ◌∙◌, subst, inl, inr, arith}
use Rattle.std.specs.Prelude.{slice_get}
use Rattle.std.proofs.lemmas.Bool.{cases_lt, lt-ltb}
use Rattle.sd_plan.specs.topo.Network.{Network}
use Rattle.sd_plan.specs.domain.Domains.{domains}
use Rattle.sd_plan.specs.declared.domain.DomainId.{DomainId}
use Rattle.sd_plan.specs.declared.Plan.{Plan}
use Rattle.sd_checker.specs.check_root.Roots.{root_breach}
use Rattle.sd_checker.specs.check_loop.Loops.{HasNoCycle}
use Rattle.sd_checker.specs.check_loop.ShownCycles.{ShowsCycle}
use Rattle.sd_checker.proofs.check_loop.Unique.{one_cycle}
use Rattle.sd_checker.specs.check_reach.Reach.{DomainHolds, ReachHolds}
use Rattle.sd_checker.specs.check_reach.ShownChains.{ShowsDevice, IsShownChain}
use Rattle.sd_checker.proofs.check_reach.Unique.{one_device, one_chain}
use Rattle.sd_checker.specs.Conditions.{RootHolds}
use Rattle.sd_checker.specs.Verdicts.{IsBreach, IsVerdict, Shows, IsFirstSuspect, place_of, condition_of}
use Rattle.sd_checker.specs.Laws.{HasOneVerdict}
use Rattle.sd_checker.specs.declared.Breach.{Breach}
use Rattle.sd_checker.specs.declared.Breach.TheVariants as breach
use Rattle.sd_checker.specs.declared.Verdict.{Verdict}
use Rattle.sd_checker.specs.declared.Verdict.TheVariants as verdict
use Rattle.sd_checker.proofs.Exclusive.{unbroken, no_shown, fed_or_cut, accepted_unbroken}

-- just one domain is the first that breaks a condition
one_first : (net : Network) (P : DomainId → Type 0) (f g : DomainId) → IsFirstSuspect net P f → IsFirstSuspect net P g → (P f → ⊥) → (P g → ⊥) → f ≡ g
one_first net P f g (j, at_j, before_j) (k, at_k, before_k) breaks also =
    elim (cases_lt j k) [
      | inl earlier ↦ absurd (breaks (before_k j f earlier at_j))
      | inr after ↦
          (elim (cases_lt k j) [
            | inl later ↦ absurd (also (before_j k g later at_k))
            | inr within ↦
                (let same : k ≡ j = omega arith in
                let both : Some f ≡ Some g = sym at_j ∙ subst (λ (i : ℕ). slice_get (domains net) i ≡ Some g) same at_k in
                cc)
          ])
    ]

-- two breaches of one condition are the same
same_shown : (net : Network) (plan : Plan) (a b : Breach) → place_of (condition_of a) ≡ place_of (condition_of b) → Shows net plan a → Shows net plan b → a ≡ b
same_shown net plan (breach.Structure rule device) (breach.Structure rule' device') same shown also =
    let both : Some (rule, device) ≡ Some (rule', device') = sym shown ∙ also in
    let pair : (rule, device) ≡ (rule', device') = cc in
    ap (λ (p : ℕ × ℕ). breach.Structure p.0 p.1) pair
same_shown net plan (breach.Ancestor device) (breach.Ancestor device') same shown also =
    let both : Some device ≡ Some device' = sym shown ∙ also in
    cc
same_shown net plan (breach.Timing t) (breach.Timing t') same shown also =
    let both : Some t ≡ Some t' = sym shown ∙ also in
    cc
same_shown net plan (breach.Root f at) (breach.Root g at') same (first, shown) (first', also) =
    let domain : g ≡ f = one_first net (RootHolds net plan) g f first' first (λ none. cc (none, also)) (λ none. cc (none, shown)) in
    let both : Some at ≡ Some at' = sym shown ∙ subst (λ (h : DomainId). root_breach net plan h ≡ Some at') domain also in
    let things : at ≡ at' = cc in
    cc
same_shown net plan (breach.Loop f cycle) (breach.Loop g cycle') same (first, shown) (first', also) =
    let domain : g ≡ f =
    one_first net (HasNoCycle net plan) g f first' first (λ holds. no_shown net plan g cycle' holds also)
    (λ holds. no_shown net plan f cycle holds shown) in
    let cycles = one_cycle net plan f cycle cycle' shown (subst (λ (h : DomainId). ShowsCycle net plan h cycle') domain also) in
    cc
same_shown net plan (breach.Domain f device) (breach.Domain g device') same (first, shown) (first', also) =
    let domain : g ≡ f = one_first net (DomainHolds net plan) g f first' first (λ holds. holds device' also.0) (λ holds. holds device shown.0) in
    let devices = one_device net plan f device device' shown (subst (λ (h : DomainId). ShowsDevice net plan h device') domain also) in
    cc
same_shown net plan (breach.Reach f chain) (breach.Reach g chain') same (first, shown) (first', also) =
    let domain : g ≡ f =
    one_first net (ReachHolds net plan) g f first' first (λ holds. fed_or_cut net plan g chain' holds also)
    (λ holds. fed_or_cut net plan f chain holds shown) in
    let chains = one_chain net plan f chain chain' shown (subst (λ (h : DomainId). IsShownChain net plan h chain') domain also) in
    cc
same_shown net plan a b same shown also = absurd (omega arith)

-- a plan has one breach at most
pub one_breach : (net : Network) (plan : Plan) (a b : Breach) → IsBreach net plan a → IsBreach net plan b → a ≡ b
one_breach net plan a b is also =
    elim (cases_lt (place_of (condition_of a)) (place_of (condition_of b))) [
      | inl earlier ↦ absurd
          (unbroken net plan a (also.before (condition_of a) (lt-ltb (place_of (condition_of a)) (place_of (condition_of b)) earlier)) is.shows)
      | inr after ↦
          (elim (cases_lt (place_of (condition_of b)) (place_of (condition_of a))) [
            | inl later ↦ absurd
                (unbroken net plan b (is.before (condition_of b) (lt-ltb (place_of (condition_of b)) (place_of (condition_of a)) later)) also.shows)
            | inr within ↦ same_shown net plan a b (omega arith) is.shows also.shows
          ])
    ]

accepted_alike : (net : Network) (plan : Plan) → (a b : Verdict) → IsVerdict net plan a → IsVerdict net plan b → a ≡ b
accepted_alike net plan verdict.Accepted verdict.Accepted is also = refl
accepted_alike net plan verdict.Accepted (verdict.Refused b) is also = absurd (accepted_unbroken net plan b is also)
accepted_alike net plan (verdict.Refused a) verdict.Accepted is also = absurd (accepted_unbroken net plan a also is)
accepted_alike net plan (verdict.Refused a) (verdict.Refused b) is also = ap (λ (x : Breach). verdict.Refused x) (one_breach net plan a b is also)

-- at most one verdict is right
pub one_verdict : (net : Network) (plan : Plan) → HasOneVerdict net plan
one_verdict net plan a b is also = accepted_alike net plan a b is also
