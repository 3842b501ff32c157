-- Where the devices stand that a domain hits, and that hops lead to devices.
use Rattle.std.proofs.Common.{◌≡◌, ℕ, ◌<◌, true, false, List, length, get_or, Option, Some, None, sym, subst}
use Rattle.std.specs.Prelude.{slice_get, IfSome, MatchOption}
use Rattle.std.proofs.lemmas.Bool.{both_ways}
use Rattle.std.proofs.lemmas.Option.{IfSome_then, slice_get_within, slice_get-get_or, get_or_from_slice_get}
use Rattle.sd_num.specs.Lists.{ascends}
use Rattle.sd_plan.specs.topo.Network.{Network}
use Rattle.sd_plan.specs.declared.domain.DomainId.{DomainId}
use Rattle.sd_plan.specs.declared.Hop.{Hop}
use Rattle.sd_plan.specs.declared.Plan.{Plan}
use Rattle.sd_plan.specs.Plans.{Fits, IsHop, primary_of, backup_of}
use Rattle.sd_plan.specs.Walks.{is_hit}
use Rattle.sd_plan.proofs.Rules.{hops_within}
use Rattle.sd_checker.specs.check_hit.Hit.{hit_by}
use Rattle.sd_checker.proofs.check_hit.HitList.{hit_at}
use Rattle.sd_checker.specs.check_loop.Graphs.{place_in}
use Rattle.sd_checker.proofs.check_loop.Places.{place_in-none, place_in-at, passing_ascend}

module _ (net : Network) (plan : Plan) (domain : DomainId) (hit : List ℕ) (is : hit ≡ hit_by net plan domain) where
  pub hit_ascends : ascends hit ≡ true
  hit_ascends = subst (λ (xs : List ℕ). ascends xs ≡ true) (sym is) (passing_ascend (is_hit net plan domain) (length net.devices))

  -- a place where a device stands, or that it is not hit, tells its first place
  pub hit_place : (place : Option ℕ) (d : ℕ) → MatchOption place (is_hit net plan domain d ≡ false) (λ i. slice_get hit i ≡ Some d) → place ≡ place_in hit d
  hit_place None d unhit =
      sym (place_in-none hit d (λ k within same.
      both_ways (is_hit net plan domain d) unhit
      (subst (λ (x : ℕ). is_hit net plan domain x ≡ true) same (hit_at net plan domain hit k (get_or hit k 0) is (slice_get-get_or hit k 0 within)).0)))
  hit_place (Some i) d at =
      sym (subst (λ (x : ℕ). place_in hit x ≡ Some i) (get_or_from_slice_get hit i d 0 at) (place_in-at hit i hit_ascends (slice_get_within hit i d at)))

-- the hop, if it is there, leads to a device
abbrev LeadsWithin : Network → Option Hop → Type 0
LeadsWithin net o = IfSome o (λ hop. hop.parent < length net.devices)

-- both hops of a device lead to devices
pub parents_within : (net : Network) (plan : Plan) (d : ℕ) → Fits net plan → LeadsWithin net (primary_of plan d) × LeadsWithin net (backup_of plan d)
parents_within net plan d fits =
    let both : IfSome (primary_of plan d) (IsHop net) × IfSome (backup_of plan d) (IsHop net) = hops_within net plan d fits in
    (IfSome_then (primary_of plan d) both.0 (λ hop within. within.0), IfSome_then (backup_of plan d) both.1 (λ hop within. within.0))
