-- Where each hop leads to a lower rank, no walk leads back to where it began.
use Rattle.std.specs.Prelude.{◌≡◌, ℕ, ◌<◌, ◌≤◌, Bool, true, false, ◌&&◌, List, [], ◌∷◌, IsTrue, refl}
use Rattle.std.specs.List.{list_any}
use Rattle.std.proofs.Common.{arith, ap}
use Rattle.sd_plan.specs.topo.Network.{Network}
use Rattle.sd_plan.specs.declared.domain.DomainId.{DomainId}
use Rattle.sd_plan.specs.declared.Hop.{Hop}
use Rattle.sd_plan.specs.declared.Plan.{Plan}
use Rattle.sd_plan.specs.Walks.{end_of}
use Rattle.sd_checker.specs.check_loop.Loops.{hops_of, same_hop, is_walk, HasNoCycle}

and_first : (a b : Bool) → IsTrue (a && b) → IsTrue a
and_first true b h = refl
and_first false b h = h

and_second : (a b : Bool) → IsTrue (a && b) → IsTrue b
and_second true b h = h
and_second false b h = cc

-- each hop that a device may be on leads to a lower rank
abbrev pub Falls : Network → Plan → DomainId → (ℕ → ℕ) → Type 0
Falls net plan domain rank = (d : ℕ) (hop : Hop) → IsTrue (list_any (same_hop hop) (hops_of net plan domain d)) → rank hop.parent < rank d

module _ (net : Network) (plan : Plan) (domain : DomainId) (rank : ℕ → ℕ) (falls : Falls net plan domain rank) where
  -- a walk leads to no higher rank
  no_higher : (d : ℕ) (hs : List Hop) → IsTrue (is_walk net plan domain d hs) → rank (end_of d hs) ≤ rank d
  no_higher d [] walked = omega arith
  no_higher d (hop ∷ hs) walked =
      let step : rank hop.parent < rank d =
      falls d hop (and_first (list_any (same_hop hop) (hops_of net plan domain d)) (is_walk net plan domain hop.parent hs) walked) in
      let rest : rank (end_of hop.parent hs) ≤ rank hop.parent =
      no_higher hop.parent hs (and_second (list_any (same_hop hop) (hops_of net plan domain d)) (is_walk net plan domain hop.parent hs) walked) in
      omega (arith, step, rest)

  pub no_cycle : HasNoCycle net plan domain
  no_cycle d hop hs walked same =
      let step : rank hop.parent < rank d =
      falls d hop (and_first (list_any (same_hop hop) (hops_of net plan domain d)) (is_walk net plan domain hop.parent hs) walked) in
      let rest : rank (end_of hop.parent hs) ≤ rank hop.parent =
      no_higher hop.parent hs (and_second (list_any (same_hop hop) (hops_of net plan domain d)) (is_walk net plan domain hop.parent hs) walked) in
      let back : rank (end_of hop.parent hs) ≡ rank d = ap rank same in
      omega (arith, step, rest, back)
