use Rattle.std.proofs.Common.{refl, length, ◌+◌}
use Rattle.sd_io.specs.outside.Pieces.{piece_of}
use Rattle.sd_files.specs.work.Works.{refused_line}
use Rattle.sd_files.proofs.work.progress.Progress.take_line.Goals as goal

pub returns-in_ok-refuse-in-Ok-Refused-clause-makes :
    goal.returns-in_ok-refuse-in-Ok-Refused-clause-makes
returns-in_ok-refuse-in-Ok-Refused-clause-makes g c =
    λ w xs h.
    let says = (rw c.in-Ok-Refused.field-0-is at c.in-Ok-Refused.ensures.takes w xs h.0).0 in
    (piece_of (refused_line w (length xs + 1) (g.W.LineWork.printing c.take.new.self)), rw (says, c.in_ok-refuse-in-Ok-Refused.ensures.status) refl)
