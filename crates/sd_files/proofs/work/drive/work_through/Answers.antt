use Rattle.std.proofs.Common.{rules, IfSome, Ok, Result, ap, subst, true, refl}
use Rattle.sd_files.specs.declared.Status.{Status}
use Rattle.sd_files.specs.declared.command_error.IoError.{IoError}
use Rattle.sd_files.proofs.work.Adding.{handed_on}
use Rattle.sd_files.proofs.work.Coming.{told_comes, told_comes_on, told_stops, told_ends, told_near}
use Rattle.sd_files.specs.work.Progresses.{HasAccepted}
use Rattle.sd_files.specs.work.Ending.{LeavesAt}
use Rattle.sd_files.specs.Answering.{InWrites}
use Rattle.sd_files.specs.work.Works.{InSteps, IsOutcome}
use Rattle.sd_files.proofs.work.drive.work_through.Goals as goal

pub lines-init : goal.lines-init
lines-init g c =
    record {
      come = λ w fresh. told_comes _ w _ _ c.over-reader.result _ (fresh, refl) c.over-reader.ensures.left c.over-reader.ensures.before;
      within = search rules;
      counted = search rules;
      steady = search rules;
      sink_steady = search rules;
      same_held = search rules;
      same_names = search rules;
      same_shelf = search rules;
    }

pub returns-in_err-status-clause-outcome : goal.returns-in_err-status-clause-outcome
returns-in_err-status-clause-outcome g c =
    λ w fresh whole.
    subst (λ (r : Result Status IoError). IfSome (g.S.Shelf.rest c.args.shelf.now)
    (λ text. LeavesAt true (InWrites (InSteps w text) (IsOutcome w text)) (g.O.Sink.written c.args.out.now) (g.O.Sink.written c.take_line.new.out) r))
    (handed_on c.from_residual.result _ c.from_residual.ensures.1)
    (told_stops _ w (HasAccepted g.W.LineWork c.lines.progress) _ c.lines.reader _ _ _ _ whole (c.lines.invariant.come w fresh) c.in_err-status.ensures.writes)

pub returns-in-Some-clause-outcome : goal.returns-in-Some-clause-outcome
returns-in-Some-clause-outcome g c =
    λ w fresh whole.
    told_ends _ w (HasAccepted g.W.LineWork c.lines.progress) (HasAccepted g.W.LineWork c.take_line.new.progress) _ c.lines.reader _ _ _ c.in-Some.status
    (c.lines.invariant.come w fresh) (rw c.in-Some.is at c.in_ok-status.ensures.makes)
    c.in_ok-status.ensures.writes

pub returns-in-Some-clause-near : goal.returns-in-Some-clause-near
returns-in-Some-clause-near g c =
    λ w fresh refused.
    let near =
    told_near _ w (HasAccepted g.W.LineWork c.lines.progress) (HasAccepted g.W.LineWork c.take_line.new.progress) (g.S.Shelf.rest c.args.shelf.now)
    (g.S.Shelf.rest c.take_line.new.reader.shelf.now) c.lines.reader _ _ c.in-Some.status
    (c.lines.invariant.come w fresh) (rw c.in-Some.is at c.in_ok-status.ensures.makes) c.take_line.ensures.reader.near in
    search (rules, near)

pub lines-preserved : goal.lines-preserved
lines-preserved g c =
    record {
      come =
          λ w fresh.
          told_comes_on _ w (HasAccepted g.W.LineWork c.lines.progress) (HasAccepted g.W.LineWork c.take_line.new.progress) _ c.lines.reader c.take_line.new.reader _ _ _
          (c.lines.invariant.come w fresh) (rw c.in_default.is at c.in_ok-status.ensures.makes)
          c.in_ok-status.ensures.writes (c.in_ok-status.ensures.reader.past (ap Ok c.in_default.is));
      within = search rules;
      counted = search rules;
      steady = search rules;
      sink_steady = search rules;
      same_held = search rules;
      same_names = search rules;
      same_shelf = search rules;
    }
