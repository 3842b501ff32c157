use Rattle.std.proofs.Common.{◌≡◌, ◌∙◌, ◌+◌, List, ℕ, [], ◌∷◌, length, ap, ap₂, subst, arith, Err}
use Rattle.std.specs.Prelude.{codes, decimal}
use Rattle.sd_io.specs.outside.Pieces.{AddsPieces, piece_of}
use Rattle.sd_num.specs.Texts.{text_of}
use Rattle.sd_plan.specs.topo.Topologies.{network}
use Rattle.sd_plan.specs.domain.Domains.{domains}
use Rattle.sd_plan.specs.Plans.{members}
use Rattle.sd_drill.specs.Printed.{done_line}
use Rattle.sd_checker.proofs.DomainOrder.{length-domains}
use Rattle.sd_files.specs.Writes.{Adds}
use Rattle.sd_files.specs.declared.Status.{Status}
use Rattle.sd_drill_text.proofs.Prefixes.{adds_stop}
use Rattle.sd_drill_text.proofs.writing.write_done.Goals as goal

pub returns-in-Ok-clause-writes : goal.returns-in-Ok-clause-writes
returns-in-Ok-clause-writes g c =
    let net = network c.args.planned.topo.now in
    let count : c.domains.result + c.devices.result + c.links.result ≡ length (domains net) =
    omega (arith, c.domains.ensures, c.devices.ensures, c.links.ensures, length-domains net) in
    let size : length c.as_slice-members.result.now ≡ length (members net c.args.planned.plan.now) =
    ap (λ (xs : List ℕ). length xs) (c.as_slice-members.ensures ∙ c.requires.members) in
    subst (λ (bytes : List ℕ). AddsPieces (g.O.Sink.written c.args.out.now) (g.O.Sink.written c.send.new.out) (piece_of bytes))
    (c.printed.ensures ∙ c.print_done.ensures ∙ ap₂ (λ (a b : ℕ). text_of (codes "done" ∷ decimal a ∷ decimal b ∷ [])) count size)
    c.in-Ok.ensures.writes

pub returns-in-Err-clause-writes : goal.returns-in-Err-clause-writes
returns-in-Err-clause-writes g c =
    let net = network c.args.planned.topo.now in
    let count : c.domains.result + c.devices.result + c.links.result ≡ length (domains net) =
    omega (arith, c.domains.ensures, c.devices.ensures, c.links.ensures, length-domains net) in
    let size : length c.as_slice-members.result.now ≡ length (members net c.args.planned.plan.now) =
    ap (λ (xs : List ℕ). length xs) (c.as_slice-members.ensures ∙ c.requires.members) in
    adds_stop (Unit {0}) Status (piece_of (done_line net c.args.planned.plan.now)) _ _ c.in-Err.stop
    (subst (λ (bytes : List ℕ). Adds {T = Unit {0}} (piece_of bytes) (g.O.Sink.written c.args.out.now) (g.O.Sink.written c.send.new.out) (Err c.in-Err.stop))
    (c.printed.ensures ∙ c.print_done.ensures ∙ ap₂ (λ (a b : ℕ). text_of (codes "done" ∷ decimal a ∷ decimal b ∷ [])) count size)
    c.in-Err.ensures.writes)
