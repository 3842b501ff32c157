use Rattle.std.proofs.Common.{Ok, None, rules}
use Rattle.sd_io.specs.stream.Windows.{window_of}
use Rattle.sd_files.specs.work.Progresses.{HasAccepted}
use Rattle.sd_files.proofs.work.Front.{front_adds, front_makes}
use Rattle.sd_files.proofs.work.Stepping.{next_passed}
use Rattle.sd_files.specs.work.Nexts.{AddsStep, MakesStep}
use Rattle.sd_files.proofs.work.Writing.{adds_handed_on, makes_stopped}
use Rattle.sd_files.proofs.work.drive.take_line.Goals as goal

pub returns-in_ok-write_accepted-in-Ok-Some : goal.returns-in_ok-write_accepted-in-Ok-Some
returns-in_ok-write_accepted-in-Ok-Some g c =
    record {
      makes =
          next_passed (MakesStep (HasAccepted g.W.LineWork c.args.progress.now) (HasAccepted g.W.LineWork c.write_accepted.new.self) (Ok None)) _ _ _
          c.pass_line.ensures.answer
          (λ w xs h. front_makes g.W.LineWork c.take_front.new.self w xs c.window.result.now (window_of c.args.reader.now) c.in-Ok-Some.len
          c.in-Ok-Some.field-0 c.in-Ok-Some.field-0-is c.window.ensures.window (c.in-Ok-Some.ensures.takes w xs h.0) c.args.progress.now c.write_accepted.new.self
          c.write_accepted.ensures.same h.1 c.write_accepted.ensures.counts);
      writes =
          next_passed (AddsStep (HasAccepted g.W.LineWork c.args.progress.now) _ _ (Ok c.in_ok-write_accepted-in-Ok-Some.field-0)) _ _ _ c.pass_line.ensures.answer
          (λ w xs h. front_adds g.W.LineWork c.take_front.new.self w xs c.window.result.now (window_of c.args.reader.now) c.in-Ok-Some.len
          c.in-Ok-Some.field-0 c.in-Ok-Some.field-0-is c.window.ensures.window (c.in-Ok-Some.ensures.takes w xs h.0)
          (Ok c.in_ok-write_accepted-in-Ok-Some.field-0) _ _ c.in_ok-write_accepted-in-Ok-Some.ensures.writes);
      counts = search rules;
      gives = search rules;
      reader = search rules;
      sink = search rules;
    }

pub returns-in_err-write_accepted-in-Ok-Some : goal.returns-in_err-write_accepted-in-Ok-Some
returns-in_err-write_accepted-in-Ok-Some g c =
    let last = c.from_residual in
    record {
      makes =
          makes_stopped _ _ (HasAccepted g.W.LineWork c.args.progress.now) (HasAccepted g.W.LineWork c.write_accepted.new.self) last.result _ last.ensures.1;
      writes =
          next_passed (AddsStep (HasAccepted g.W.LineWork c.args.progress.now) _ _ last.result) _ _ _ c.pass_line.ensures.answer
          (λ w xs h. front_adds g.W.LineWork c.take_front.new.self w xs c.window.result.now (window_of c.args.reader.now) c.in-Ok-Some.len
          c.in-Ok-Some.field-0 c.in-Ok-Some.field-0-is c.window.ensures.window (c.in-Ok-Some.ensures.takes w xs h.0) last.result _ _
          (adds_handed_on (Unit {0}) last.result _ _ _ _ last.ensures.1 c.in_err-write_accepted-in-Ok-Some.ensures.writes));
      counts = search rules;
      gives = search rules;
      reader = search rules;
      sink = search rules;
    }
