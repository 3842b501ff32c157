use Rattle.std.proofs.Common.{◌≡◌, ◌∙◌, ℕ, Some, inl, inr, get_or, sym, subst, arith, slice_get}
use Rattle.std.proofs.lemmas.Bool.{cases_lt}
use Rattle.std.proofs.lemmas.Option.{same_Some, slice_get-get_or, slice_get_within}
use Rattle.sd_num.proofs.Places.{at_has, has_at}
use Rattle.sd_planner.specs.Views.{net_of}
use Rattle.sd_why.specs.Ways.{NextTo}
use Rattle.sd_why.proofs.ways.next_ring.Goals as goal

pub loop-d-preserved : goal.loop-d-preserved
loop-d-preserved c =
    let net = net_of c.args.present.now in
    let ring = c.args.ring.now in
    let i = c.loop-d.d-index in
    let this : ℕ = get_or ring i 0 in
    let at : slice_get ring i ≡ Some this = slice_get-get_or ring i 0 c.loop-d-test.true in
    let met = c.in_ok-meet_neighbours.ensures in
    record {
      spreads = met.spreads c.args.known.now ring (has_at ring i this at) c.loop-d.invariant.spreads;
      met = λ k d e less is within next. elim (cases_lt k i) [
        | inl early ↦ met.kept e (c.loop-d.invariant.met k d e early is within next)
        | inr late ↦
            (let same : k ≡ i = omega (arith, less, late) in
            let one : d ≡ this = same_Some d this (sym (subst (λ (n : ℕ). slice_get ring n ≡ Some d) same is) ∙ at) in
            met.met e within (subst (λ (x : ℕ). NextTo net x e) one next))
      ];
      size = met.size ∙ c.loop-d.invariant.size;
    }

pub returns-clause-met : goal.returns-clause-met
returns-clause-met c =
    λ d e there within next.
    let (k, at) = at_has c.args.ring.now d there in
    c.loop-d.invariant.met k d e (omega (arith, slice_get_within c.args.ring.now k d at, c.loop-d-test.false)) at within next
