use Rattle.std.proofs.Common.{◌≡◌, ◌∙◌, ℕ, List, None, Some, length, drop, sym, ap, subst, arith}
use Rattle.std.proofs.lemmas.List.{get_or_read}
use Rattle.std.proofs.lemmas.Result.{IfOk-weaker}
use Rattle.sd_checker.specs.check_loop.Shown.{CycleIs}
use Rattle.sd_checker.specs.check_loop.Trails.{device_at, passed_at}
use Rattle.sd_checker.proofs.check_loop.Trailing.{trail_ends}
use Rattle.sd_checker.proofs.check_loop.cycle.cycle_from.Goals as goal

pub copy_from-requires : goal.copy_from-requires
copy_from-requires c =
    let t = c.loop-from.invariant in
    let again : passed_at c.loop-from.passed.items c.loop-from.here ≡ Some c.in-Some.from =
    sym (get_or_read c.loop-from.passed.items c.loop-from.here c.index.result.now (omega (arith, t.size, t.within)) c.index.ensures None) ∙ c.in-Some.is in
    omega (arith, (t.places c.loop-from.here c.in-Some.from again).0, ap (λ (xs : List ℕ). length xs) c.as_slice.ensures)

pub returns-in-Some : goal.returns-in-Some
returns-in-Some c =
    let t = c.loop-from.invariant in
    let again : passed_at c.loop-from.passed.items c.loop-from.here ≡ Some c.in-Some.from =
    sym (get_or_read c.loop-from.passed.items c.loop-from.here c.index.result.now (omega (arith, t.size, t.within)) c.index.ensures None) ∙ c.in-Some.is in
    let ends = trail_ends c.args.hit.now c.args.graph.now c.args.marks.now c.requires.ascending c.requires.size c.args.begin c.loop-from.path
    c.loop-from.passed.items c.loop-from.here c.in-Some.from t again in
    IfOk-weaker c.copy_from.result (λ copy. copy ≡ drop c.in-Some.from c.as_slice.result.now)
    (CycleIs c.args.hit.now c.args.graph.now c.args.marks.now (device_at c.args.hit.now c.args.begin))
    (λ copy is. subst (λ (xs : List ℕ). CycleIs c.args.hit.now c.args.graph.now c.args.marks.now (device_at c.args.hit.now c.args.begin) xs)
    (sym (is ∙ ap (λ (xs : List ℕ). drop c.in-Some.from xs) c.as_slice.ensures)) ends)
    c.copy_from.ensures

pub loop-from-preserved : goal.loop-from-preserved
loop-from-preserved c = c.in_ok-here.ensures.trail c.args.begin c.loop-from.invariant
