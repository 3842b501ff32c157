use Rattle.std.proofs.Common.{◌≡◌, ◌∙◌, ℕ, Option, Some, None, sym, subst, arith}
use Rattle.std.proofs.lemmas.List.{get_or_default}
use Rattle.sd_plan.specs.topo.Topologies.{network}
use Rattle.sd_drill.specs.Times.{IsGrowth, IsKnown, known_at}
use Rattle.sd_drill.specs.declared.growths.Growth.{Growth}
use Rattle.sd_drill.proofs.growths.GrowthCache.of.Goals as goal

pub returns-in-Some-clause-growth : goal.returns-in-Some-clause-growth
returns-in-Some-clause-growth c =
    let net = network c.args.planned.topo.now in
    let plan = c.args.planned.plan.now in
    let known = c.in-Some.known in
    let at : known_at c.args.self.now.known.items c.args.d ≡ Some known =
    sym (c.index.ensures
    ∙ get_or_default c.args.self.now.known.items c.args.d c.index.result.now None (omega (arith, c.requires.growths.size, c.requires.device)))
    ∙ c.in-Some.is in
    subst (λ (n : ℕ). IsGrowth net plan c.args.d n known.growth) c.if-known-long.true
    (subst (λ (entry : Option Growth). IsKnown net plan c.args.d entry) at (c.requires.growths.each c.args.d))
