-- Lemmas that several crates above share.
use Rattle.std.specs.Prelude.{◌≡◌, ℕ, ◌<◌, List, length, Option, None, true, nat_eq}
use Rattle.std.proofs.Common.{get_or, ap, ◌∙◌}
use Rattle.std.proofs.lemmas.Bool.{and_parts, eqb-true}
use Rattle.sd_plan.proofs.topo.Laws.{found_at}
use Rattle.sd_plan.specs.declared.Hop.{Hop}
use Rattle.sd_checker.specs.check_loop.Loops.{same_hop}
use Rattle.sd_drill.specs.Bounds.{bound_at}

-- a bound at a place
pub bound_is : (bounds : List (Option ℕ)) (d : ℕ) → d < length bounds → bound_at bounds d ≡ get_or bounds d None
bound_is bounds d within = found_at bounds d None None (λ bound. bound) within

pub same_hop_same : (x y : Hop) → same_hop x y ≡ true → x ≡ y
same_hop_same x y same =
    let parts = and_parts (nat_eq x.parent y.parent) (nat_eq x.link y.link) same in
    let parent : x.parent ≡ y.parent = eqb-true x.parent y.parent parts.0 in
    let link : x.link ≡ y.link = eqb-true x.link y.link parts.1 in
    ap (λ (n : ℕ). hop_of n x.link) parent ∙ ap (hop_of y.parent) link
  where
    hop_of : ℕ → ℕ → Hop
    hop_of parent link = record { parent = parent; link = link }
