-- The cut path of a device is its walk, cut off at the first hop that leads to an end of walks.
use Rattle.std.specs.Prelude.{◌≡◌, ℕ, zero, suc, Bool, true, false, ◌||◌, List, [], ◌∷◌, Option, None, Some, refl, if◌then◌else◌}
use Rattle.std.proofs.Common.{ap}
use Rattle.sd_plan.specs.topo.Network.{Network}
use Rattle.sd_plan.specs.declared.Hop.{Hop}
use Rattle.sd_plan.specs.declared.Plan.{Plan}
use Rattle.sd_plan.specs.Plans.{is_root, is_backup_root, primary_of}
use Rattle.sd_plan.specs.Walks.{hops, walk, epath, things_of, ends_walks}

-- hops up to the first that leads to an end
abbrev pub cut_off : Plan → List Hop → List Hop
cut_off plan [] = []
cut_off plan (h ∷ hs) = h ∷ (elim (ends_walks plan h.parent) [ true ↦ [] | false ↦ cut_off plan hs ])

module _ (plan : Plan) where
  by_ends : (n : ℕ) (hop : Hop) (r b : Bool) → hops (ends_walks plan) plan n hop.parent ≡ cut_off plan (hops (is_root plan) plan n hop.parent)
      → ◌≡◌ {A = List Hop} (elim (r || b) [ true ↦ [] | false ↦ hops (ends_walks plan) plan n hop.parent ])
      (elim (r || b) [ true ↦ [] | false ↦ cut_off plan (elim r [ true ↦ [] | false ↦ hops (is_root plan) plan n hop.parent ]) ])
  by_ends n hop true b more = refl
  by_ends n hop false true more = refl
  by_ends n hop false false more = more

  by_hop : (n : ℕ) (o : Option Hop) → ((z : ℕ) → hops (ends_walks plan) plan n z ≡ cut_off plan (hops (is_root plan) plan n z))
      → (elim o as
      (λ (k : Option Hop). List Hop)
      [ None ↦ [] | Some hop ↦ hop ∷ (elim (ends_walks plan hop.parent) [ true ↦ [] | false ↦ hops (ends_walks plan) plan n hop.parent ]) ])
      ≡ cut_off plan
      (elim o as (λ (k : Option Hop). List Hop)
      [ None ↦ [] | Some hop ↦ hop ∷ (elim (is_root plan hop.parent) [ true ↦ [] | false ↦ hops (is_root plan) plan n hop.parent ]) ])
  by_hop n None more = refl
  by_hop n (Some hop) more = ap (λ (hs : List Hop). hop ∷ hs) (by_ends n hop (is_root plan hop.parent) (is_backup_root plan hop.parent) (more hop.parent))

  pub cut_hops : (n y : ℕ) → hops (ends_walks plan) plan n y ≡ cut_off plan (hops (is_root plan) plan n y)
  cut_hops zero y = refl
  cut_hops (suc n) y = by_hop n (primary_of plan y) (cut_hops n)

  -- the cut path is that of the walk, cut off
  pub epath_is : (net : Network) (y : ℕ) → epath net plan y ≡ things_of (cut_off plan (walk net plan y))
  epath_is net y = go (is_root plan y)
    where
      go : (b : Bool)
          → things_of (if b then [] else hops (ends_walks plan) plan net.params.depth y)
          ≡ things_of (cut_off plan (if b then [] else hops (is_root plan) plan net.params.depth y))
      go true = refl
      go false = ap things_of (cut_hops net.params.depth y)
