use Rattle.std.proofs.Common.{nat_lt, ap, ◌∙◌}
use Rattle.sd_monitors.specs.renewal.Progressing.{ProgressKept}
use Rattle.sd_monitors.proofs.renewal.Progressing.{some_stage}
use Rattle.sd_monitors.proofs.renewal.progress.Progress.has_begun.Goals as goal

pub returns : goal.returns
returns c seen stands = ap (λ (k : ProgressKept). nat_lt 0 k.windows) c.self.view_is ∙ ap (nat_lt 0) stands.windows ∙ some_stage seen
