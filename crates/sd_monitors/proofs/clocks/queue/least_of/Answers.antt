use Rattle.std.proofs.Common.{◌≡◌, ℕ, ◌≤◌, false, inl, inr, sym, subst, arith}
use Rattle.std.proofs.lemmas.Bool.{cases_lt, both_ways}
use Rattle.sd_monitors.specs.clocks.Queues.{mark_at, number_at}
use Rattle.sd_monitors.proofs.clocks.Queueing.{each_reaches}
use Rattle.sd_monitors.proofs.clocks.queue.least_of.Goals as goal
use Rattle.sd_monitors.proofs.clocks.queue.least_of.Goals.{then-not-mark, else-not-mark}

pub loop-mark-preserved : goal.loop-mark-preserved
loop-mark-preserved c =
    let marks = c.args.marks.now in
    let here = c.loop-mark.mark-index in
    elim c.if-not-mark.branch [
      | then-not-mark w ↦ record {
        low = λ k within unqueued. elim (cases_lt k here) [
          | inl less ↦ (let low : c.loop-mark.least ≤ number_at marks k = c.loop-mark.invariant.low k less unqueued in
              omega (arith, low, w.min-least.ensures, w.least-is))
          | inr most ↦ (let same : k ≡ here = omega (arith, within, most) in
              subst (λ (n : ℕ). c.if-not-mark.least ≤ number_at marks n) (sym same) (omega (arith, w.min-least.ensures, w.least-is)))
        ];
        reached = λ bound small all.
            (let before : bound ≤ c.loop-mark.least = c.loop-mark.invariant.reached bound small all in
            let at : bound ≤ number_at marks here = each_reaches bound marks here all c.loop-mark-test.true in
            omega (arith, before, at, w.min-least.ensures, w.least-is));
      }
      | else-not-mark w ↦ record {
        low = λ k within unqueued. elim (cases_lt k here) [
          | inl less ↦ (let low : c.loop-mark.least ≤ number_at marks k = c.loop-mark.invariant.low k less unqueued in omega (arith, low, w.least-is))
          | inr most ↦ (let same : k ≡ here = omega (arith, within, most) in
              absurd (both_ways (mark_at marks here).queued (subst (λ (n : ℕ). (mark_at marks n).queued ≡ false) same unqueued) w.if-not-mark.false))
        ];
        reached = λ bound small all.
            (let before : bound ≤ c.loop-mark.least = c.loop-mark.invariant.reached bound small all in omega (arith, before, w.least-is));
      }
    ]
