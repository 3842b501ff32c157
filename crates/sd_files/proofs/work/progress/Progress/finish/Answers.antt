use Rattle.std.proofs.Common.{sym, ◌∙◌, ◌≡◌, false, true, refl, length, ◌+◌, codes}
use Rattle.std.specs.List.{list_any}
use Rattle.sd_io.specs.outside.Pieces.{piece_of}
use Rattle.sd_files.specs.work.Works.{refused_line}
use Rattle.sd_files.proofs.work.Writing.{ends_done, ends_refused}
use Rattle.sd_files.proofs.work.progress.Progress.finish.Goals as goal

pub returns-then-not-ended-clause-makes : goal.returns-then-not-ended-clause-makes
returns-then-not-ended-clause-makes g c =
    λ w xs h.
    let open_yet : list_any w.ends xs ≡ false = sym (c.ended.ensures w xs h.0) ∙ c.if-not-ended.true in
    ends_refused w xs c.refuse_for.result (piece_of (refused_line w (length xs + 1) (codes "NoEnd"))) (rw open_yet refl) c.refuse_for.ensures.status

pub returns-clause-makes : goal.returns-clause-makes
returns-clause-makes g c =
    λ w xs h.
    let over : list_any w.ends xs ≡ true = sym (c.ended.ensures w xs h.0) ∙ c.if-not-ended.false in
    ends_done (g.W.LineWork.does c.args.self.now.work) w xs c.finish.result h.0 over c.finish.ensures.status

pub returns-clause-writes : goal.returns-clause-writes
returns-clause-writes g c =
    λ w xs h. let over : list_any w.ends xs ≡ true = sym (c.ended.ensures w xs h.0) ∙ c.if-not-ended.false in rw over (c.finish.ensures.writes w xs h.0)
