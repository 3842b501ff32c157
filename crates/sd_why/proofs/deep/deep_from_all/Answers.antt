use Rattle.std.proofs.Common.{◌≡◌, ◌<◌, ◌≤◌, ◌∙◌, ℕ, List, Option, Some, None, inl, inr, length, get_or, refl, sym, subst, arith, slice_get}
use Rattle.std.proofs.lemmas.Bool.{cases_lt}
use Rattle.std.proofs.lemmas.Option.{same_Some, slice_get-get_or, slice_get_within}
use Rattle.sd_plan.specs.topo.Network.{Each}
use Rattle.sd_planner.specs.Views.{net_of}
use Rattle.sd_why.specs.Kinds.{IsTooDeep}
use Rattle.sd_why.specs.Reasons.{FindsBeyond}
use Rattle.sd_why.specs.declared.Far.{Far}
use Rattle.sd_why.proofs.Judging.{not_deep, too_deep}
use Rattle.sd_why.proofs.Laws.{deep_law}
use Rattle.sd_why.proofs.deep.deep_from_all.Goals as goal

pub returns-in_default-clause-judges : goal.returns-in_default-clause-judges
returns-in_default-clause-judges c =
    let net = net_of c.args.present.now in
    let roots = c.roots-roots.result.now in
    let first : ℕ = get_or roots 0 0 in
    let some : 0 < length roots = subst (λ (xs : List ℕ). 1 ≤ length xs) (sym c.roots-roots.ensures) c.args.present.now.topo.now.is_network.each_root.0 in
    let at : slice_get net.roots 0 ≡ Some first =
    subst (λ (xs : List ℕ). slice_get xs 0 ≡ Some first) c.roots-roots.ensures (slice_get-get_or roots 0 0 some) in
    let all : FindsBeyond net first None = subst (λ (found : Option Far). FindsBeyond net first found) c.in_default.is c.in_ok-far.ensures in
    λ each. not_deep net first all (each 0 first at)

pub beyond-requires-in-loop-root-clause-device : goal.beyond-requires-in-loop-root-clause-device
beyond-requires-in-loop-root-clause-device c =
    let net = net_of c.args.present.now in
    let roots = c.roots-roots.result.now in
    let i = c.loop-root.root-index in
    c.args.present.now.topo.now.is_network.each_root.1.0 i (get_or roots i 0)
    (subst (λ (xs : List ℕ). slice_get xs i ≡ Some (get_or roots i 0)) c.roots-roots.ensures (slice_get-get_or roots i 0 c.loop-root-test.true))

pub returns-in-None-clause-judges : goal.returns-in-None-clause-judges
returns-in-None-clause-judges c =
    let net = net_of c.args.present.now in
    let roots = c.roots-roots.result.now in
    let i = c.loop-root.root-index in
    let this : ℕ = get_or roots i 0 in
    let at : slice_get net.roots i ≡ Some this =
    subst (λ (xs : List ℕ). slice_get xs i ≡ Some this) c.roots-roots.ensures (slice_get-get_or roots i 0 c.loop-root-test.true) in
    let all : FindsBeyond net this None = subst (λ (found : Option Far). FindsBeyond net this found) c.in-None.is c.in_ok-beyond.ensures in
    λ each. not_deep net this all (each i this at)

pub loop-root-preserved : goal.loop-root-preserved
loop-root-preserved c =
    let net = net_of c.args.present.now in
    let roots = c.roots-roots.result.now in
    let i = c.loop-root.root-index in
    let this : ℕ = get_or roots i 0 in
    let at : slice_get roots i ≡ Some this = slice_get-get_or roots i 0 c.loop-root-test.true in
    let found : FindsBeyond net this (Some c.in-Some-2.field-0) =
    subst (λ (found : Option Far). FindsBeyond net this found) c.in-Some-2.is c.in_ok-beyond.ensures in
    λ k root less is. elim (cases_lt k i) [
      | inl early ↦ c.loop-root.invariant k root early is
      | inr late ↦
          (let same : k ≡ i = omega (arith, less, late) in
          let one : this ≡ root = same_Some this root (sym at ∙ subst (λ (n : ℕ). slice_get roots n ≡ Some root) same is) in
          subst (λ (r : ℕ). IsTooDeep net r) one (too_deep net this c.in-Some-2.field-0 found))
    ]

pub returns-clause-judges : goal.returns-clause-judges
returns-clause-judges c =
    let net = net_of c.args.present.now in
    let roots = c.roots-roots.result.now in
    let first : ℕ = get_or roots 0 0 in
    let some : 0 < length roots = subst (λ (xs : List ℕ). 1 ≤ length xs) (sym c.roots-roots.ensures) c.args.present.now.topo.now.is_network.each_root.0 in
    let at : slice_get net.roots 0 ≡ Some first =
    subst (λ (xs : List ℕ). slice_get xs 0 ≡ Some first) c.roots-roots.ensures (slice_get-get_or roots 0 0 some) in
    let found : FindsBeyond net first (Some c.in-Some.far) =
    subst (λ (found : Option Far). FindsBeyond net first found) c.in-Some.is c.in_ok-far.ensures in
    record {
      kind = refl;
      holds = λ k root is.
          let here : slice_get roots k ≡ Some root = subst (λ (xs : List ℕ). slice_get xs k ≡ Some root) (sym c.roots-roots.ensures) is in
          c.loop-root.invariant k root (omega (arith, slice_get_within roots k root here, c.loop-root-test.false)) here;
      shows = (subst (λ (r : ℕ). slice_get net.roots 0 ≡ Some r) (sym found.0) at, found.1);
    }

pub returns-clause-law : goal.returns-clause-law
returns-clause-law c =
    let net = net_of c.args.present.now in
    let roots = c.roots-roots.result.now in
    let all : Each (IsTooDeep net) net.roots =
    λ k root is.
    let here : slice_get roots k ≡ Some root = subst (λ (xs : List ℕ). slice_get xs k ≡ Some root) (sym c.roots-roots.ensures) is in
    c.loop-root.invariant k root (omega (arith, slice_get_within roots k root here, c.loop-root-test.false)) here
    in
    deep_law net all
