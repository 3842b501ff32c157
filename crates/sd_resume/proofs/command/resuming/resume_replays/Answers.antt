use Rattle.std.proofs.Common.{take}
use Rattle.sd_resume.proofs.command.Afterwards.{on_done, so_many_left, told_both, told_first_stopped, told_second_stopped}
use Rattle.sd_resume.proofs.command.resuming.resume_replays.Goals as goal

pub returns-in-Err-clause-makes : goal.returns-in-Err-clause-makes
returns-in-Err-clause-makes g c =
    let files = c.args.files in
    λ net plans left fresh also.
    told_first_stopped net plans files.left files.schedule.now files.opening.now (g.S.Shelf.held c.args.shelf.now) c.made.result c.in-Err.early c.made.ensures
    (c.in-Err.ensures.makes _ fresh)

pub returns-in-Err-play-clause-makes : goal.returns-in-Err-play-clause-makes
returns-in-Err-play-clause-makes g c =
    let files = c.args.files in
    λ net plans left fresh also.
    told_second_stopped net plans files.left files.schedule.now files.opening.now (g.S.Shelf.held c.args.shelf.now) c.made-in-Err-play.result
    (g.S.Shelf.held c.play.new.shelf) c.in-Err-play.early c.play.new.replay c.play.ensures.shelf.same_held c.made-in-Err-play.ensures
    (on_done c.play.result c.in_default.field-0 c.in_default.is c.play.ensures.read _ fresh) (c.in-Err-play.ensures.makes _ also)

pub returns-clause-makes : goal.returns-clause-makes
returns-clause-makes g c =
    let files = c.args.files in
    λ net plans left fresh also.
    told_both net plans files.left files.schedule.now files.opening.now (g.S.Shelf.held c.args.shelf.now) c.compare.result (g.S.Shelf.held c.play.new.shelf)
    c.play.new.replay c.play-2.new.replay c.play.ensures.shelf.same_held
    (on_done c.play.result c.in_default.field-0 c.in_default.is c.play.ensures.read _ fresh)
    (on_done c.play-2.result c.in_default-play.field-0 c.in_default-play.is c.play-2.ensures.read _ also)
    (λ events others. c.compare.ensures.makes net (take files.left plans) _ events others (so_many_left plans files.left left))
