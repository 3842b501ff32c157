-- The cut path of a device, one hop after another.
use Rattle.std.specs.Prelude.{◌≡◌, ℕ, ◌<◌, Bool, true, false, [], ◌∷◌, length, Some, None, refl, if◌then◌else◌}
use Rattle.std.proofs.Common.{sym, ap, ◌∙◌, inl, inr}
use Rattle.std.proofs.lemmas.Bool.{cases_Bool}
use Rattle.sd_plan.specs.topo.Network.{Network}
use Rattle.sd_plan.specs.declared.Hop.{Hop}
use Rattle.sd_plan.specs.declared.Plan.{Plan}
use Rattle.sd_plan.specs.Plans.{is_root, primary_of}
use Rattle.sd_plan.specs.Walks.{hops, walk, ends_walks, short_path, short_walk}
use Rattle.sd_plan.proofs.CutOff.{cut_off, cut_hops}
use Rattle.sd_plan.proofs.Forest.{IsForest, IsStep, other_walk, until}
use Rattle.sd_checker.proofs.check_loop.Shared.{not_root}

-- the path cut is the walk, cut
pub path_cut : (net : Network) (plan : Plan) (d : ℕ) → is_root plan d ≡ false → short_path net plan d ≡ cut_off plan (walk net plan d)
path_cut net plan d other =
    ap (λ (root : Bool). if root then [] else hops (ends_walks plan) plan net.params.depth d) other
    ∙ cut_hops plan net.params.depth d
    ∙ ap (cut_off plan) (sym (other_walk net plan d other))

-- the short walk of a device that ends no walk is its cut path
pub short_walk_is : (net : Network) (plan : Plan) (d : ℕ) → ends_walks plan d ≡ false → short_walk net plan d ≡ short_path net plan d
short_walk_is net plan d other = ap (λ (b : Bool). if b then [] else short_path net plan d) other

-- that of one that ends walks is empty
pub short_walk_none : (net : Network) (plan : Plan) (d : ℕ) → ends_walks plan d ≡ true → short_walk net plan d ≡ []
short_walk_none net plan d is = ap (λ (b : Bool). if b then [] else short_path net plan d) is

-- the cut path is the first hop and then the short walk of its parent
pub path_step : (net : Network) (plan : Plan) (d : ℕ) (hop : Hop) → IsForest net plan → d < length net.devices → primary_of plan d ≡ Some hop
    → short_path net plan d ≡ hop ∷ short_walk net plan hop.parent
path_step net plan d hop forest within is =
    let step : IsStep net plan d hop = forest.up d hop within is in
    path_cut net plan d step.other ∙ ap (cut_off plan) step.walk ∙ ap (λ hs. hop ∷ hs) (rest hop.parent (ends_walks plan hop.parent) refl)
  where
    rest : (p : ℕ) (b : Bool) → ends_walks plan p ≡ b → until b (cut_off plan (walk net plan p)) ≡ (if b then [] else short_path net plan p)
    rest p true ends = refl
    rest p false ends = sym (path_cut net plan p (not_root plan p ends))

-- a device without a primary parent has no short walk
pub no_short_walk : (net : Network) (plan : Plan) (d : ℕ) → IsForest net plan → primary_of plan d ≡ None → short_walk net plan d ≡ []
no_short_walk net plan d forest none =
    elim (cases_Bool (ends_walks plan d)) [
      | inl ends ↦ short_walk_none net plan d ends
      | inr other ↦ (short_walk_is net plan d other ∙ path_cut net plan d (not_root plan d other) ∙ ap (cut_off plan) (forest.top d none))
    ]
