use Rattle.std.proofs.Common.{◌∙◌, ℕ, [], Option, Result, ap, sym, subst, length, rules, arith}
use Rattle.sd_num.specs.Lists.{map_or}
use Rattle.sd_plan.specs.topo.Topologies.{network}
use Rattle.sd_commands.specs.exchanges.Printed.{link_line}
use Rattle.sd_commands.specs.declared.exchanges.Span.{Span}
use Rattle.sd_files.specs.Writes.{Adds}
use Rattle.sd_files.specs.declared.command_error.IoError.{IoError}
use Rattle.sd_commands.specs.twoway.Tallies.{lines_of}
use Rattle.sd_files.proofs.work.Adding.{handed_on}
use Rattle.sd_commands.proofs.twoway.Written.{added_more, added_none, adds_cut, counted_more, counted_none}
use Rattle.sd_commands.proofs.twoway.writing.write_links.Goals as goal
use Rattle.sd_commands.proofs.twoway.writing.write_links.Goals.{in-Some+in_ok-send, in_default}

pub returns-in_err-send-clause-writes : goal.returns-in_err-send-clause-writes
returns-in_err-send-clause-writes g c =
    let net = network c.args.topo.now in
    subst (λ (r : Result ℕ IoError). Adds (lines_of net c.args.tally.now.spans (length net.links)) (g.O.Sink.written c.args.out.now)
    (g.O.Sink.written c.send.new.out) r)
    (handed_on c.from_residual.result _ c.from_residual.ensures.1)
    (adds_cut (Unit {0}) ℕ net c.args.tally.now.spans c.loop-link.link (length net.links) c.printed.result.now _ _ _ c.in_err-send.field-0.0
    (search (rules, arith))
    (ap (λ (joint : Option (Span × ℕ)). map_or joint [] (link_line net c.loop-link.link)) (sym c.in-Some.ensures.kept)
    ∙ sym (c.printed.ensures ∙ c.print_link.ensures)) c.in_err-send.ensures.only c.loop-link.invariant.added c.in_err-send.ensures.writes)

pub loop-link-preserved : goal.loop-link-preserved
loop-link-preserved g c =
    let net = network c.args.topo.now in
    let come = c.loop-link.invariant in
    elim c.match-get.branch [
      | in-Some+in_ok-send w ↦
          rw (w.out-is, w.links-is)
          record {
            added = added_more net c.args.tally.now.spans c.loop-link.link _ _ _ _ _ (sym w.in-Some.ensures.kept)
                (sym (w.printed.ensures ∙ w.print_link.ensures)) come.added w.in_ok-send.ensures.writes;
            count = counted_more net c.args.tally.now.spans c.loop-link.link _ _ (sym w.in-Some.ensures.kept) come.count;
            few = search (rules, come.few);
            steady = search (rules, come.steady);
          }
      | in_default w ↦
          rw (w.out-is, w.links-is)
          record {
            added = added_none net c.args.tally.now.spans c.loop-link.link _ _ (sym w.in_default.ensures.kept) come.added;
            count = counted_none net c.args.tally.now.spans c.loop-link.link _ (sym w.in_default.ensures.kept) come.count;
            few = search (rules, come.few);
            steady = search (rules, come.steady);
          }
    ]
