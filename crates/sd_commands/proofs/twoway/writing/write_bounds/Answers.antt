use Rattle.std.proofs.Common.{◌∙◌, ℕ, List, [], ◌∷◌, ◌++◌, Result, ap, subst, length}
use Rattle.std.specs.Prelude.{codes, decimal}
use Rattle.sd_num.specs.Texts.{text_of}
use Rattle.sd_plan.specs.topo.Topologies.{network}
use Rattle.sd_io.specs.outside.Pieces.{piece_of}
use Rattle.sd_files.specs.Writes.{Adds}
use Rattle.sd_files.specs.declared.command_error.IoError.{IoError}
use Rattle.sd_commands.specs.twoway.Tallies.{bounds_of, lines_of}
use Rattle.sd_files.proofs.work.Adding.{adds_behind, adds_front, handed_on}
use Rattle.sd_commands.proofs.twoway.writing.write_bounds.Goals as goal

pub returns-in_err-links-clause-writes : goal.returns-in_err-links-clause-writes
returns-in_err-links-clause-writes g c =
    subst (λ (r : Result (Unit {0}) IoError). Adds (bounds_of (network c.args.topo.now) c.args.tally.now) (g.O.Sink.written c.args.out.now)
    (g.O.Sink.written c.write_links.new.out) r)
    (handed_on c.from_residual.result _ c.from_residual.ensures.1)
    (adds_front ℕ (Unit {0}) _ _ _ _ c.in_err-links.field-0.0 c.in_err-links.ensures.only c.in_err-links.ensures.writes)

pub returns-clause-writes : goal.returns-clause-writes
returns-clause-writes g c =
    let net = network c.args.topo.now in
    let front = lines_of net c.args.tally.now.spans (length net.links) in
    subst (λ (last : List ℕ). Adds (front ++ piece_of last) (g.O.Sink.written c.args.out.now) (g.O.Sink.written c.send.new.out) c.send.result)
    (c.printed.ensures ∙ c.print_done.ensures
    ∙ ap (λ (n : ℕ). text_of (codes "done" ∷ decimal c.args.tally.now.lines ∷ decimal n ∷ [])) c.in_ok-links.ensures.count)
    (adds_behind front (piece_of c.printed.result.now) _ _ _ c.send.result c.in_ok-links.ensures.writes c.send.ensures.only c.send.ensures.writes)
