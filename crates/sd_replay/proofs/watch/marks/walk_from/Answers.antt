-- A walk leaves settled what it has passed.
use Rattle.std.proofs.Common.{◌≡◌, ◌+◌, true, refl, sym, ◌∙◌, arith}
use Rattle.std.proofs.lemmas.Bool.{both_ways}
use Rattle.sd_replay.specs.watch.Watch.{parent_in}
use Rattle.sd_replay.specs.watch.Settled.{has_mark}
use Rattle.sd_replay.proofs.watch.Settling.{only_within}
use Rattle.sd_replay.proofs.watch.Marking.{fewer_new, walk_goes_on, settled_at_end, settled_when_met, on_loop_when_met, not_begun, begun}
use Rattle.sd_replay.proofs.watch.marks.walk_from.Goals as goal

pub returns-in_default-clause-settled : goal.returns-in_default-clause-settled
returns-in_default-clause-settled c = λ first old found.
    settled_at_end (parent_in c.args.parents.now) c.args.marks.now c.loop-marks.marks (c.args.start + 1) c.loop-marks.here c.loop-marks.invariant.is_walk first
    (sym c.in_default.ensures) old

pub loop-marks-smaller : goal.loop-marks-smaller
loop-marks-smaller c = fewer_new c.loop-marks.marks c.loop-marks.here (c.args.start + 1) (sym c.has_mark.ensures ∙ c.loop-marks-test.true) (omega arith)

pub loop-marks-preserved : goal.loop-marks-preserved
loop-marks-preserved c =
    let new : has_mark c.loop-marks.marks c.loop-marks.here 0 ≡ true = sym c.has_mark.ensures ∙ c.loop-marks-test.true in
    record {
      is_walk = walk_goes_on (parent_in c.args.parents.now) c.args.marks.now c.loop-marks.marks
          (c.args.start + 1) c.loop-marks.here c.loop-marks.invariant.is_walk c.in-Some.parent new (sym c.in-Some.ensures);
      begins = λ unmarked. absurd
          (not_begun c.loop-marks.marks c.args.start c.loop-marks.here (c.args.start + 1) (omega arith) new c.loop-marks.invariant.begins unmarked);
    }

pub returns-then-has_mark-clause-started : goal.returns-then-has_mark-clause-started
returns-then-has_mark-clause-started c =
    begun c.args.marks.now c.loop-marks.marks c.args.start c.loop-marks.here c.requires.new c.loop-marks.auto.marks c.loop-marks.invariant.begins
    (sym c.has_mark.ensures ∙ c.loop-marks-test.false)

pub returns-then-has_mark-clause-on_loop : goal.returns-then-has_mark-clause-on_loop
returns-then-has_mark-clause-on_loop c =
    on_loop_when_met (parent_in c.args.parents.now) c.args.marks.now c.loop-marks.marks (c.args.start + 1) c.loop-marks.here c.loop-marks.invariant.is_walk
    (sym c.has_mark-2.ensures ∙ c.if-has_mark.true)

pub returns-then-has_mark-clause-settled : goal.returns-then-has_mark-clause-settled
returns-then-has_mark-clause-settled c = λ first old found.
    settled_when_met (parent_in c.args.parents.now) c.args.marks.now c.loop-marks.marks
    (c.args.start + 1) c.loop-marks.here c.loop-marks.invariant.is_walk first _ (only_within c.args.parents.now)
    (omega (arith, c.loop-marks.auto.marks, c.requires.room)) (sym c.has_mark.ensures ∙ c.loop-marks-test.false) (λ mine. found c.loop-marks.here refl) old

pub returns-else-has_mark-clause-started : goal.returns-else-has_mark-clause-started
returns-else-has_mark-clause-started c =
    begun c.args.marks.now c.loop-marks.marks c.args.start c.loop-marks.here c.requires.new c.loop-marks.auto.marks c.loop-marks.invariant.begins
    (sym c.has_mark.ensures ∙ c.loop-marks-test.false)

pub returns-else-has_mark-clause-settled : goal.returns-else-has_mark-clause-settled
returns-else-has_mark-clause-settled c = λ first old found.
    settled_when_met (parent_in c.args.parents.now) c.args.marks.now c.loop-marks.marks
    (c.args.start + 1) c.loop-marks.here c.loop-marks.invariant.is_walk first _ (only_within c.args.parents.now)
    (omega (arith, c.loop-marks.auto.marks, c.requires.room)) (sym c.has_mark.ensures ∙ c.loop-marks-test.false)
    (λ mine. absurd (both_ways _ (sym c.has_mark-2.ensures ∙ c.if-has_mark.false) mine)) old
