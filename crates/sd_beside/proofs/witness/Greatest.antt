-- The greatest sum over walks of one hop at most, and the greatest advance of a counter.
use Rattle.std.specs.Prelude.{◌≡◌, ℕ, ◌+◌, ◌-◌, ◌*◌, ◌≤◌, ◌<◌, true, List, [], ◌∷◌, nat_le}
use Rattle.std.specs.List.{list_all}
use Rattle.std.proofs.Common.{subst, sym, arith}
use Rattle.std.proofs.lemmas.Bool.{leb-true}
use Rattle.sd_num.specs.declared.Rates.{Rates}
use Rattle.sd_plan.specs.topo.Network.{Network, rates_of}
use Rattle.sd_plan.specs.declared.domain.DomainId.{DomainId}
use Rattle.sd_plan.specs.declared.Hop.{Hop}
use Rattle.sd_plan.specs.declared.Plan.{Plan}
use Rattle.sd_plan.specs.Plans.{Fits}
use Rattle.sd_checker.specs.check_loop.Loops.{hops_of}
use Rattle.sd_drill.specs.ages.Ages.{IsOldest}
use Rattle.sd_drill.specs.recovery.Walks.{IsWalk, IsGreatestOfWalks}
use Rattle.sd_beside.proofs.witness.Accepting.{all_pass, leads_to_ends, among, one_hop}

-- walks of a device have one hop at most, where each hop leads to an end
pub one_greatest : (net : Network) (plan : Plan) (fits : Fits net plan) (f : DomainId) → all_pass net (leads_to_ends net plan f) ≡ true → (d : ℕ)
    (measure : List Hop → ℕ) (most : ℕ) (hop : Hop) → IsWalk net plan f d (hop ∷ []) → measure (hop ∷ []) ≡ most → measure [] ≤ most
    → list_all (λ (x : Hop). nat_le (measure (x ∷ [])) most) (hops_of net plan f d) ≡ true → IsGreatestOfWalks net plan f d measure most
one_greatest net plan fits f ends_all d measure most hop walked reached least all =
    record { hops = hop ∷ []; has = walked; reached = reached; greatest = by }
  where
    by : (others : List Hop) → IsWalk net plan f d others → measure others ≤ most
    by [] walked = least
    by (x ∷ hs) walked =
        let (none, here, ends) = one_hop net plan fits f ends_all d x hs walked in
        let first : measure (x ∷ []) ≤ most =
        leb-true (measure (x ∷ [])) most (among (λ (y : Hop). nat_le (measure (y ∷ [])) most) x (hops_of net plan f d) all here) in
        subst (λ (rest : List Hop). measure (x ∷ rest) ≤ most) (sym none) first

-- the greatest advance of a counter at 200 parts per million and 1 ns while so much of the reference passes
pub oldest_at : (net : Network) (d s x : ℕ) → rates_of net d ≡ record { ppm = 200; grain = 1000 } → x * 999800 ≤ 1000000 * (s + 1001) - 1
    → 1000000 * (s + 1001) - 1 < (x + 1) * 999800 → IsOldest (rates_of net d) s x
oldest_at net d s x is most least = subst (λ (rates : Rates). IsOldest rates s x) (sym is) made
  where
    made : IsOldest (record { ppm = 200; grain = 1000 }) s x
    made = record { within = omega (arith, most); greatest = λ y small. omega (arith, least, small) }
