use Rattle.sd_resume.proofs.command.Reaching.{all_read, none_read}
use Rattle.sd_resume.proofs.command.playing.play.Goals as goal

pub returns-in-Ok-clause-read : goal.returns-in-Ok-clause-read
returns-in-Ok-clause-read g c =
    all_read c.args.text.word.now c.args.text.name.now c.args.replay.now c.play_begun.new.replay (g.S.Shelf.held c.args.shelf.now)
    (g.S.Shelf.rest c.begin.new.self) c.in-Ok.ensures.text c.play_begun.result c.play_begun.ensures.read

pub returns-in-Ok-clause-makes : goal.returns-in-Ok-clause-makes
returns-in-Ok-clause-makes g c =
    none_read c.args.text.word.now c.args.text.name.now c.args.replay.now c.play_begun.new.replay (g.S.Shelf.held c.args.shelf.now)
    (g.S.Shelf.rest c.begin.new.self) c.in-Ok.ensures.text c.play_begun.result c.play_begun.ensures.makes
