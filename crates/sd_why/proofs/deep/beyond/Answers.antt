use Rattle.std.proofs.Common.{List, ℕ, Option, sym, subst, ap, arith}
use Rattle.sd_planner.specs.Views.{net_of}
use Rattle.sd_why.specs.Ways.{AreDistances}
use Rattle.sd_why.proofs.Judging.{none_beyond, one_beyond}
use Rattle.sd_why.proofs.deep.beyond.Goals as goal

pub returns-then-params-far : goal.returns-then-params-far
returns-then-params-far c =
    let net = net_of c.args.present.now in
    let known = c.deref.result.now in
    let are = subst (λ (known : List (Option ℕ)). AreDistances net c.args.candidate known) (sym c.deref.ensures.value) c.in_ok-known.ensures in
    let depth = ap (λ p. p.depth) c.params.ensures in
    one_beyond net c.requires.connected known c.args.candidate are c.requires.device c.farthest-far.result c.farthest-far.ensures.is
    c.farthest-far.ensures.from
    (omega (arith, c.if-params-far.true, depth))

pub returns : goal.returns
returns c =
    let net = net_of c.args.present.now in
    let known = c.deref.result.now in
    let are = subst (λ (known : List (Option ℕ)). AreDistances net c.args.candidate known) (sym c.deref.ensures.value) c.in_ok-known.ensures in
    let depth = ap (λ p. p.depth) c.params.ensures in
    none_beyond net c.requires.connected known c.args.candidate are c.requires.device c.farthest-far.result c.farthest-far.ensures.is
    (omega (arith, c.if-params-far.false, depth))
