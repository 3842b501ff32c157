-- Walks along primary parents that a domain does not hit: each step leaves fewer hops, and is not hit either.
use Rattle.std.specs.Prelude.{◌≡◌, ℕ, zero, suc, ◌<◌, ◌≤◌, Bool, true, false, ◌||◌, not, List, [], ◌∷◌, length, Option, Some, None}
use Rattle.std.proofs.Common.{refl, sym, ap, ◌∙◌, subst, arith, inl, inr}
use Rattle.std.proofs.lemmas.Bool.{or_parts, cases_Bool, cond-true, cond-false, both_ways}
use Rattle.sd_plan.specs.topo.Network.{Network}
use Rattle.sd_plan.specs.domain.Domains.{holds_device, holds_link, hits}
use Rattle.sd_plan.specs.declared.domain.DomainId.{DomainId}
use Rattle.sd_plan.specs.declared.Hop.{Hop}
use Rattle.sd_plan.specs.declared.Plan.{Plan}
use Rattle.sd_plan.specs.Plans.{is_member, is_root, is_backup_root, primary_of}
use Rattle.sd_plan.specs.Walks.{hops, walk, ends_walks, things_of, end_of, is_hit, short_path, short_walk}
use Rattle.sd_plan.specs.Structure.{structure_breach}
use Rattle.sd_plan.proofs.Rules.{keeps_rules}
use Rattle.sd_plan.proofs.Forest.{until, most_hops, Comes}
use Rattle.sd_checker.proofs.check_loop.Shared.{not_root}

-- what follows a first hop
abbrev after : (ℕ → Bool) → (ℕ → List Hop) → ℕ → List Hop
after ends more e = until (ends e) (more e)

-- the hops from a first one on
abbrev onward : (ℕ → Bool) → (ℕ → List Hop) → Option Hop → List Hop
onward ends more found = elim found [ None ↦ [] | Some hop ↦ hop ∷ after ends more hop.parent ]

-- a walk that comes to the root in time is not until by the count
stable : (plan : Plan) (n e : ℕ) → is_root plan e ≡ false → Comes plan n e → hops (ends_walks plan) plan (suc n) e ≡ hops (ends_walks plan) plan n e
stable plan zero e other comes = absurd (both_ways (is_root plan e) other comes)
stable plan (suc n) e other comes = by (primary_of plan e) comes (λ x. stable plan n x)
  where
    over : (x : ℕ) (root backup : Bool) → is_root plan x ≡ root
        → is_root plan (end_of x (until root (hops (is_root plan) plan n x))) ≡ true
        → (is_root plan x ≡ false → Comes plan n x → hops (ends_walks plan) plan (suc n) x ≡ hops (ends_walks plan) plan n x)
        → until (root || backup) (hops (ends_walks plan) plan (suc n) x) ≡ until (root || backup) (hops (ends_walks plan) plan n x)
    over x true backup is ends rest = refl
    over x false true is ends rest = refl
    over x false false is ends rest = rest is ends

    by : (found : Option Hop) → is_root plan (end_of e (onward (is_root plan) (hops (is_root plan) plan n) found)) ≡ true
        → ((x : ℕ) → is_root plan x ≡ false → Comes plan n x → hops (ends_walks plan) plan (suc n) x ≡ hops (ends_walks plan) plan n x)
        → onward (ends_walks plan) (hops (ends_walks plan) plan (suc n)) found ≡ onward (ends_walks plan) (hops (ends_walks plan) plan n) found
    by None ends rest = refl
    by (Some hop) ends rest =
        ap (λ (hs : List Hop). hop ∷ hs) (over hop.parent (is_root plan hop.parent) (is_backup_root plan hop.parent) refl ends (rest hop.parent))

-- where a device that ends no walk is until
pub short_walk-is : (net : Network) (plan : Plan) (d : ℕ) → ends_walks plan d ≡ false → short_walk net plan d ≡ hops (ends_walks plan) plan net.params.depth d
short_walk-is net plan d other =
    cond-false (ends_walks plan d) [] (short_path net plan d) other
    ∙ cond-false (is_root plan d) [] (hops (ends_walks plan) plan net.params.depth d) (not_root plan d other)

-- a short walk has no more hops than the depth
pub short_count : (net : Network) (plan : Plan) (d : ℕ) → length (short_walk net plan d) ≤ net.params.depth
short_count net plan d =
    elim (cases_Bool (ends_walks plan d)) [
      | inl ends ↦ rw (cond-true (ends_walks plan d) [] (short_path net plan d) ends) (omega arith)
      | inr other ↦ rw (short_walk-is net plan d other) (most_hops (ends_walks plan) plan net.params.depth d)
    ]

-- what the step of a walk that is not hit leads to
pub record GoesUnhit (net : Network) (plan : Plan) (domain : DomainId) (d e : ℕ) : Type 0 where
  pub fewer : length (short_walk net plan e) < length (short_walk net plan d)
  pub unhit : ends_walks plan e ≡ false → is_hit net plan domain e ≡ false

-- the step where the count is n + 1
step_at : (net : Network) (plan : Plan) (domain : DomainId) (d n : ℕ) (hop : Hop) → net.params.depth ≡ suc n → ends_walks plan d ≡ false
    → primary_of plan d ≡ Some hop
    → Comes plan net.params.depth d → is_hit net plan domain d ≡ false → GoesUnhit net plan domain d hop.parent
step_at net plan domain d n hop depth other primary comes none =
    let e = hop.parent in
    let whole : short_walk net plan d ≡ hop ∷ after (ends_walks plan) (hops (ends_walks plan) plan n) e =
    short_walk-is net plan d other ∙ ap (λ (m : ℕ). hops (ends_walks plan) plan m d) depth
    ∙ ap (λ (found : Option Hop). onward (ends_walks plan) (hops (ends_walks plan) plan n) found) primary in
    let path_is : short_path net plan d ≡ hop ∷ after (ends_walks plan) (hops (ends_walks plan) plan n) e =
    sym (cond-false (ends_walks plan d) [] (short_path net plan d) other) ∙ whole in
    let free : hits net domain (things_of (hop ∷ after (ends_walks plan) (hops (ends_walks plan) plan n) e)) ≡ false =
    subst (λ (hs : List Hop). hits net domain (things_of hs) ≡ false) path_is none in
    let rest_free : hits net domain (things_of (after (ends_walks plan) (hops (ends_walks plan) plan n) e)) ≡ false =
    (or_parts (holds_device net domain e) (hits net domain (things_of (after (ends_walks plan) (hops (ends_walks plan) plan n) e)))
    (or_parts (holds_link net domain hop.link) (holds_device net domain e
    || hits net domain (things_of (after (ends_walks plan) (hops (ends_walks plan) plan n) e))) free).1).1 in
    let arrives : is_root plan (end_of e (after (is_root plan) (hops (is_root plan) plan n) e)) ≡ true =
    subst (λ (found : Option Hop). is_root plan (end_of d (onward (is_root plan) (hops (is_root plan) plan n) found)) ≡ true) primary
    (subst (λ (m : ℕ). Comes plan m d) depth comes) in
    elim (cases_Bool (ends_walks plan e)) [
      | inl ends ↦ record {
        fewer = rw (whole, cond-true (ends_walks plan e) [] (short_path net plan e) ends) (omega arith);
        unhit = λ open_end. absurd (both_ways (ends_walks plan e) open_end ends);
      }
      | inr on ↦ goes e on whole rest_free arrives
    ]
  where
    goes : (e : ℕ) → ends_walks plan e ≡ false → short_walk net plan d ≡ hop ∷ after (ends_walks plan) (hops (ends_walks plan) plan n) e
        → hits net domain (things_of (after (ends_walks plan) (hops (ends_walks plan) plan n) e)) ≡ false
        → is_root plan (end_of e (after (is_root plan) (hops (is_root plan) plan n) e)) ≡ true
        → GoesUnhit net plan domain d e
    goes e on whole free arrives =
        let here : is_root plan e ≡ false = not_root plan e on in
        let comes_on : Comes plan n e = subst (λ (b : Bool). is_root plan (end_of e (until b (hops (is_root plan) plan n e))) ≡ true) here arrives in
        let rest_is : after (ends_walks plan) (hops (ends_walks plan) plan n) e ≡ hops (ends_walks plan) plan n e =
        ap (λ (b : Bool). until b (hops (ends_walks plan) plan n e)) on in
        let same : hops (ends_walks plan) plan net.params.depth e ≡ hops (ends_walks plan) plan n e =
        ap (λ (m : ℕ). hops (ends_walks plan) plan m e) depth ∙ stable plan n e here comes_on in
        let short_is : short_walk net plan e ≡ hops (ends_walks plan) plan n e = short_walk-is net plan e on ∙ same in
        let path_is : short_path net plan e ≡ hops (ends_walks plan) plan n e = sym (cond-false (ends_walks plan e) [] (short_path net plan e) on) ∙ short_is in
        record {
          fewer = rw (whole, rest_is, short_is) (omega arith);
          unhit = λ _. subst (λ (hs : List Hop). hits net domain (things_of hs) ≡ false) (rest_is ∙ sym path_is) free;
        }

-- the primary hop of a member that is not hit leads to a device that is not hit, with a shorter walk
pub goes_unhit : (net : Network) (plan : Plan) (domain : DomainId) (d : ℕ) (hop : Hop) → structure_breach net plan ≡ None → d < length net.devices
    → is_member plan d ≡ true → ends_walks plan d ≡ false
    → primary_of plan d ≡ Some hop → is_hit net plan domain d ≡ false → GoesUnhit net plan domain d hop.parent
goes_unhit net plan domain d hop structured within member other primary none =
    by net.params.depth refl
    (subst (λ (hs : List Hop). is_root plan (end_of d hs) ≡ true)
    (cond-false (is_root plan d) [] (hops (is_root plan) plan net.params.depth d) (not_root plan d other))
    (right (is_member plan d) (is_root plan (end_of d (walk net plan d))) member ((keeps_rules net plan structured).reaches d within)))
  where
    right : (a b : Bool) → a ≡ true → (not a || b) ≡ true → b ≡ true
    right true b is h = h
    right false b is h = cc

    by : (depth : ℕ) → net.params.depth ≡ depth → Comes plan net.params.depth d → GoesUnhit net plan domain d hop.parent
    by zero depth comes = absurd (both_ways (is_root plan d) (not_root plan d other) (subst (λ (m : ℕ). Comes plan m d) depth comes))
    by (suc n) depth comes = step_at net plan domain d n hop depth other primary comes none
