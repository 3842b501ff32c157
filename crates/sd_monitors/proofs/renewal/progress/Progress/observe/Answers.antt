use Rattle.std.proofs.Common.{◌+◌, sym, ap, ◌∙◌}
use Rattle.sd_monitors.specs.clocks.Sights.{sight_of}
use Rattle.sd_monitors.specs.renewal.Progressing.{ProgressKept}
use Rattle.sd_monitors.proofs.renewal.Progressing.{stands_opened, stands_within}
use Rattle.sd_monitors.proofs.renewal.progress.Progress.observe.Goals as goal

pub returns-then-stages-clause-stands : goal.returns-then-stages-clause-stands
returns-then-stages-clause-stands c earlier stands =
    stands_opened c.args.self.now _ (sight_of c.args.seen.now) earlier (sym c.stages.ensures ∙ c.if-stages.true)
    (ap (λ (k : ProgressKept). record k { windows = k.windows + 1 }) (sym c.self.view_is)) stands

pub returns-else-stages-clause-stands : goal.returns-else-stages-clause-stands
returns-else-stages-clause-stands c earlier stands =
    stands_within c.args.self.now c.note.new.self (sight_of c.args.seen.now) earlier (sym c.stages.ensures ∙ c.if-stages.false) c.note.ensures stands
