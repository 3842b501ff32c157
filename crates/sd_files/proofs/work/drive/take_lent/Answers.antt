use Rattle.std.proofs.Common.{Ok, Some, refl, rules, length, ◌+◌, codes}
use Rattle.sd_files.specs.declared.Status.{Status}
use Rattle.sd_files.specs.work.Progresses.{HasAccepted}
use Rattle.sd_io.specs.outside.Pieces.{piece_of}
use Rattle.sd_files.specs.work.Works.{refused_line}
use Rattle.sd_files.proofs.work.Stepping.{next_line, next_end, next_long, next_past}
use Rattle.sd_files.specs.work.Nexts.{AddsStep, MakesStep}
use Rattle.sd_files.proofs.work.Writing.{adds_handed_on, makes_stopped}
use Rattle.sd_files.proofs.work.drive.take_lent.Goals as goal

pub returns-in-Ok-Some : goal.returns-in-Ok-Some
returns-in-Ok-Some g c =
    record {
      makes =
          next_line (MakesStep (HasAccepted g.W.LineWork c.args.progress.now) (HasAccepted g.W.LineWork c.take_line.new.self) c.take_line.result) _ _ c.in-Ok-Some.field-0
          c.in-Ok-Some.line c.in-Ok-Some.field-0-is c.in-Ok-Some.ensures.answer c.take_line.ensures.makes;
      writes =
          next_line (AddsStep (HasAccepted g.W.LineWork c.args.progress.now) _ _ c.take_line.result) _ _ c.in-Ok-Some.field-0
          c.in-Ok-Some.line c.in-Ok-Some.field-0-is c.in-Ok-Some.ensures.answer c.take_line.ensures.writes;
      counts = search rules;
      gives = search rules;
      reader = search rules;
      sink = search rules;
    }

pub returns-in_ok-finish-in-Ok-None : goal.returns-in_ok-finish-in-Ok-None
returns-in_ok-finish-in-Ok-None g c =
    record {
      makes =
          next_end (MakesStep (HasAccepted g.W.LineWork c.args.progress.now)
          (HasAccepted g.W.LineWork c.finish.new.self) (Ok (Some c.in_ok-finish-in-Ok-None.field-0))) _ _ c.in-Ok-None.field-0
          c.in-Ok-None.field-0-is c.in-Ok-None.ensures.answer
          c.in_ok-finish-in-Ok-None.ensures.makes;
      writes =
          next_end (AddsStep (HasAccepted g.W.LineWork c.args.progress.now) _ _ (Ok (Some c.in_ok-finish-in-Ok-None.field-0))) _ _ c.in-Ok-None.field-0
          c.in-Ok-None.field-0-is c.in-Ok-None.ensures.answer c.in_ok-finish-in-Ok-None.ensures.writes;
      counts = search rules;
      gives = search rules;
      reader = search rules;
      sink = search rules;
    }

pub returns-in_err-finish-in-Ok-None : goal.returns-in_err-finish-in-Ok-None
returns-in_err-finish-in-Ok-None g c =
    let last = c.from_residual in
    record {
      makes =
          makes_stopped _ _ (HasAccepted g.W.LineWork c.args.progress.now) (HasAccepted g.W.LineWork c.finish.new.self) last.result _ last.ensures.1;
      writes =
          next_end (AddsStep (HasAccepted g.W.LineWork c.args.progress.now) _ _ last.result) _ _ c.in-Ok-None.field-0
          c.in-Ok-None.field-0-is c.in-Ok-None.ensures.answer
          (λ w xs h. adds_handed_on Status last.result _ _ _ _ last.ensures.1 (c.in_err-finish-in-Ok-None.ensures.writes w xs h));
      counts = search rules;
      gives = search rules;
      reader = search rules;
      sink = search rules;
    }

pub returns-in_ok-refuse_for-in-Err-LongLine : goal.returns-in_ok-refuse_for-in-Err-LongLine
returns-in_ok-refuse_for-in-Err-LongLine g c =
    record {
      makes =
          next_long (MakesStep (HasAccepted g.W.LineWork c.args.progress.now)
          (HasAccepted g.W.LineWork c.refuse_for.new.self) (Ok (Some c.in_ok-refuse_for-in-Err-LongLine.field-0))) _ _ c.in-Err-LongLine.field-0
          c.in-Err-LongLine.field-0-is c.in-Err-LongLine.ensures.answer
          (λ w xs h. (piece_of (refused_line w (length xs + 1) (codes "LongLine")), rw c.in_ok-refuse_for-in-Err-LongLine.ensures.status refl));
      writes =
          next_long (AddsStep (HasAccepted g.W.LineWork c.args.progress.now) _ _ (Ok (Some c.in_ok-refuse_for-in-Err-LongLine.field-0))) _ _ c.in-Err-LongLine.field-0
          c.in-Err-LongLine.field-0-is c.in-Err-LongLine.ensures.answer c.in_ok-refuse_for-in-Err-LongLine.ensures.writes;
      counts = search rules;
      gives = search rules;
      reader = search rules;
      sink = search rules;
    }

pub returns-in_err-refuse_for-in-Err-LongLine : goal.returns-in_err-refuse_for-in-Err-LongLine
returns-in_err-refuse_for-in-Err-LongLine g c =
    let last = c.from_residual-in_err-refuse_for-in-Err-LongLine in
    record {
      makes =
          makes_stopped _ _ (HasAccepted g.W.LineWork c.args.progress.now) (HasAccepted g.W.LineWork c.refuse_for.new.self) last.result _ last.ensures.1;
      writes =
          next_long (AddsStep (HasAccepted g.W.LineWork c.args.progress.now) _ _ last.result) _ _ c.in-Err-LongLine.field-0
          c.in-Err-LongLine.field-0-is c.in-Err-LongLine.ensures.answer
          (λ w xs h. adds_handed_on Status last.result _ _ _ _ last.ensures.1 (c.in_err-refuse_for-in-Err-LongLine.ensures.writes w xs h));
      counts = search rules;
      gives = search rules;
      reader = search rules;
      sink = search rules;
    }

pub returns-in_ok-refuse_for-in-Err-Limit : goal.returns-in_ok-refuse_for-in-Err-Limit
returns-in_ok-refuse_for-in-Err-Limit g c =
    record {
      makes =
          next_past (MakesStep (HasAccepted g.W.LineWork c.args.progress.now)
          (HasAccepted g.W.LineWork c.refuse_for-in-Err-Limit.new.self) (Ok (Some c.in_ok-refuse_for-in-Err-Limit.field-0))) _ _ c.in-Err-Limit.field-0
          c.args.reader.now.within c.in-Err-Limit.field-0-is c.in-Err-Limit.ensures.answer
          (λ w xs h. (piece_of (refused_line w (length xs + 1) (codes "Limit")), rw c.in_ok-refuse_for-in-Err-Limit.ensures.status refl));
      writes =
          next_past (AddsStep (HasAccepted g.W.LineWork c.args.progress.now) _ _ (Ok (Some c.in_ok-refuse_for-in-Err-Limit.field-0))) _ _ c.in-Err-Limit.field-0
          c.args.reader.now.within c.in-Err-Limit.field-0-is c.in-Err-Limit.ensures.answer c.in_ok-refuse_for-in-Err-Limit.ensures.writes;
      counts = search rules;
      gives = search rules;
      reader = search rules;
      sink = search rules;
    }

pub returns-in_err-refuse_for-in-Err-Limit : goal.returns-in_err-refuse_for-in-Err-Limit
returns-in_err-refuse_for-in-Err-Limit g c =
    let last = c.from_residual-in_err-refuse_for-in-Err-Limit in
    record {
      makes =
          makes_stopped _ _ (HasAccepted g.W.LineWork c.args.progress.now) (HasAccepted g.W.LineWork c.refuse_for-in-Err-Limit.new.self) last.result _ last.ensures.1;
      writes =
          next_past (AddsStep (HasAccepted g.W.LineWork c.args.progress.now) _ _ last.result) _ _ c.in-Err-Limit.field-0
          c.args.reader.now.within c.in-Err-Limit.field-0-is c.in-Err-Limit.ensures.answer
          (λ w xs h. adds_handed_on Status last.result _ _ _ _ last.ensures.1 (c.in_err-refuse_for-in-Err-Limit.ensures.writes w xs h));
      counts = search rules;
      gives = search rules;
      reader = search rules;
      sink = search rules;
    }
