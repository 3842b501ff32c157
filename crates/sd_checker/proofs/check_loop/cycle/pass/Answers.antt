use Rattle.std.proofs.Common.{◌≡◌, ◌∙◌, ℕ, List, Some, length, set as put, sym, ap, subst}
use Rattle.sd_checker.specs.check_loop.Trails.{IsTrail}
use Rattle.sd_checker.proofs.check_loop.Least.{next_there}
use Rattle.sd_checker.proofs.check_loop.Trailing.{trail_more}
use Rattle.sd_checker.proofs.check_loop.cycle.pass.Goals as goal

pub unreachable-requires : goal.unreachable-requires
unreachable-requires c =
    let next = next_there c.args.graph.now c.args.marks.now c.args.here c.requires.marked c.requires.endless in
    c.in_default.not-Some next.0 (c.next_endless.ensures ∙ next.1)

pub returns-clause-trail : goal.returns-clause-trail
returns-clause-trail c = λ begin trail.
    let size : length c.as_slice.result.now ≡ length c.args.path.now = ap (λ (xs : List ℕ). length xs) c.as_slice.ensures in
    let more = trail_more c.args.hit.now c.args.graph.now c.args.marks.now c.requires.ascending c.requires.size begin c.args.path.now c.args.passed.now.items
    c.args.here c.in-Some.next trail c.requires.graph c.requires.new (sym c.next_endless.ensures ∙ c.in-Some.is) in
    subst (λ (n : ℕ). IsTrail c.args.hit.now c.args.graph.now c.args.marks.now begin c.push.new.self
    (put c.args.passed.now.items c.args.here (Some n)) c.in-Some.next) (sym size)
    (subst (λ (path : List ℕ). IsTrail c.args.hit.now c.args.graph.now c.args.marks.now begin path
    (put c.args.passed.now.items c.args.here (Some (length c.args.path.now))) c.in-Some.next) (sym c.in_ok-push.ensures.added) more)
