use Rattle.std.proofs.Common.{◌≡◌, string_bytes, sym, subst, ◌∙◌}
use Rattle.sd_plan.specs.topo.Topologies.{network}
use Rattle.sd_checker.specs.Text.{refused_line}
use Rattle.sd_checker.proofs.Lines.{structure_line, ancestor_line, timing_line}
use Rattle.sd_checker.proofs.text.refused_line.Goals as goal

pub returns-in-Structure : goal.returns-in-Structure
returns-in-Structure c =
    subst (λ b. string_bytes c.in_ok-line-in-Structure.line ≡ refused_line (network c.args.topo.now) c.args.place b) (sym c.in-Structure.is)
    (c.in_ok-line-in-Structure.ensures.ok
    ∙ structure_line (network c.args.topo.now) c.args.place c.in-Structure.rule c.in-Structure.device _ c.device_name-name.ensures)

pub returns-in-Ancestor : goal.returns-in-Ancestor
returns-in-Ancestor c =
    subst (λ b. string_bytes c.in_ok-line-in-Ancestor.line ≡ refused_line (network c.args.topo.now) c.args.place b) (sym c.in-Ancestor.is)
    (c.in_ok-line-in-Ancestor.ensures.ok ∙ ancestor_line (network c.args.topo.now) c.args.place c.in-Ancestor.device _ c.device_name-name-in-Ancestor.ensures)

pub returns-in-Timing : goal.returns-in-Timing
returns-in-Timing c =
    subst (λ b. string_bytes c.in_ok-line-in-Timing.line ≡ refused_line (network c.args.topo.now) c.args.place b) (sym c.in-Timing.is)
    (c.in_ok-line-in-Timing.ensures.ok ∙ timing_line (network c.args.topo.now) c.args.place c.in-Timing.timing)
