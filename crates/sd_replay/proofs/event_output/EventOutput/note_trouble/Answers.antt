use Rattle.std.proofs.Common.{◌+◌, refl, sym, ap, ◌∙◌, subst}
use Rattle.sd_plan.specs.topo.Topologies.{network}
use Rattle.sd_replay.specs.declared.lines.findings.Findings.{Findings}
use Rattle.sd_replay.specs.declared.Tally.{Tally}
use Rattle.sd_replay.specs.lines.Findings.{IsOf, found_bytes}
use Rattle.sd_replay.specs.Counting.{tally_with}
use Rattle.sd_replay.proofs.event_output.EventOutput.note_trouble.Goals as goal

pub print_findings-requires : goal.print_findings-requires
print_findings-requires c =
    subst (λ (found : Findings). IsOf (network c.args.self.now.topology) found) (sym c.findings_of-found.ensures) c.requires.devices

pub returns : goal.returns
returns c =
    record {
      topology = refl;
      tally = c.with-self.ensures ∙ ap (tally_with c.args.self.now.tally) c.findings_of-found.ensures;
      lines =
          c.print_findings.ensures
          ∙ ap (λ (tally : Tally). found_bytes (network c.args.self.now.topology) tally.events c.findings_of-found.result) c.with-self.ensures
          ∙ ap (found_bytes (network c.args.self.now.topology) (c.args.self.now.tally.events + 1)) c.findings_of-found.ensures;
    }
