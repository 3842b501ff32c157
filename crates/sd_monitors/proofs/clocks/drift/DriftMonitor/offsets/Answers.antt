use Rattle.std.proofs.Common.{◌<◌, length, Some, sym, ap, ◌∙◌, subst}
use Rattle.std.specs.Prelude.{slice_get}
use Rattle.std.proofs.lemmas.Option.{slice_get-get_or}
use Rattle.sd_num.specs.declared.Rates.{Rates}
use Rattle.sd_history.specs.Premises.{readings}
use Rattle.sd_monitors.specs.declared.clocks.drift.Life.{Life}
use Rattle.sd_monitors.specs.clocks.Readings.{least_offsets}
use Rattle.sd_monitors.specs.clocks.Drifts.{DriftKept, IsLifeOf}
use Rattle.sd_monitors.proofs.clocks.drift.DriftMonitor.offsets.Goals as goal

pub returns : goal.returns
returns c setting seen stands =
    let life : Life = c.index.result.now in
    let within : c.args.device < length c.self.inside.lives.items =
    subst (λ (kept : DriftKept). c.args.device < length kept.lives) (sym c.self.view_is) c.requires in
    let is : IsLifeOf setting seen c.args.device life = stands.lives c.args.device life
    (ap (λ (kept : DriftKept). slice_get kept.lives c.args.device) (sym c.self.view_is)
    ∙ slice_get-get_or c.self.inside.lives.items c.args.device life within ∙ ap (λ (l : Life). Some l) (sym c.index.ensures)) in
    is.offsets ∙ ap (λ (rates : Rates). least_offsets rates.ppm (readings seen c.args.device)) is.rates
