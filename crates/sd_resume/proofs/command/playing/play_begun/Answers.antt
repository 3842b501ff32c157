use Rattle.std.proofs.Common.{◌≡◌, ◌∙◌, Bool, true, false, Ok, Result, ap, rules, subst}
use Rattle.sd_io.specs.stream.Reader.{bytes_before, text_left}
use Rattle.sd_files.specs.declared.planfiles.setup_error.SetupError.{SetupError}
use Rattle.sd_files.specs.work.Nexts.{HoldsNext}
use Rattle.sd_resume.specs.command.Played.{StepsOn}
use Rattle.sd_resume.proofs.command.Reaching.{reaches_none, reaches_on, told_read, told_stopped}
use Rattle.sd_resume.proofs.command.playing.play_begun.Goals as goal

pub lines-init : goal.lines-init
lines-init g c =
    record {
      come = λ setting played. reaches_none g.S.Shelf c.args.word.now setting _ c.over-reader.result _ played c.over-reader.ensures.left c.over-reader.ensures.before;
      within = search rules;
      steady = search rules;
      same_held = search rules;
      same_names = search rules;
      same_shelf = search rules;
    }

pub lines-preserved : goal.lines-preserved
lines-preserved g c =
    let on : c.take_line.result ≡ Ok true = c.in-Ok-true.is ∙ ap Ok c.in-Ok-true.field-0-test in
    record {
      come = λ setting played. reaches_on g.S.Shelf c.args.word.now setting _ c.lines.reader c.take_line.new.reader c.lines.replay c.take_line.new.replay
          (c.lines.invariant.come setting played)
          (subst (λ (r : Result Bool SetupError). HoldsNext (StepsOn c.args.word.now c.lines.replay c.take_line.new.replay r) (text_left g.S.Shelf c.lines.reader)
          (bytes_before c.lines.reader)) on c.take_line.ensures.steps)
          (c.take_line.ensures.reader.past on);
      within = search rules;
      steady = search rules;
      same_held = search rules;
      same_names = search rules;
      same_shelf = search rules;
    }

pub returns-in-Ok-false-clause-read : goal.returns-in-Ok-false-clause-read
returns-in-Ok-false-clause-read g c =
    let over : c.take_line.result ≡ Ok false = c.in-Ok-false.is ∙ ap Ok c.in-Ok-false.field-0-test in
    λ setting played. told_read g.S.Shelf c.args.word.now setting (g.S.Shelf.rest c.args.shelf.now) c.lines.reader c.lines.replay c.take_line.new.replay
    (c.lines.invariant.come setting played)
    (subst (λ (r : Result Bool SetupError). HoldsNext (StepsOn c.args.word.now c.lines.replay c.take_line.new.replay r) (text_left g.S.Shelf c.lines.reader)
    (bytes_before c.lines.reader)) over c.take_line.ensures.steps)

pub returns-in-Err-clause-makes : goal.returns-in-Err-clause-makes
returns-in-Err-clause-makes g c =
    λ setting played. told_stopped g.S.Shelf c.args.word.now setting (g.S.Shelf.rest c.args.shelf.now) c.lines.reader c.lines.replay c.take_line.new.replay
    (c.lines.invariant.come setting played) c.in-Err.early
    (subst (λ (r : Result Bool SetupError). HoldsNext (StepsOn c.args.word.now c.lines.replay c.take_line.new.replay r) (text_left g.S.Shelf c.lines.reader)
    (bytes_before c.lines.reader)) c.in-Err.is c.take_line.ensures.steps)
