use Rattle.std.proofs.Common.{◌<◌, ◌&&◌, length, set, Some, sym, ap, ◌∙◌, subst}
use Rattle.std.specs.Prelude.{slice_get}
use Rattle.std.proofs.lemmas.Option.{slice_get-get_or}
use Rattle.sd_monitors.specs.declared.clocks.drift.Life.{Life}
use Rattle.sd_monitors.specs.declared.clocks.offsets.Reading.{Reading}
use Rattle.sd_monitors.specs.clocks.Drifts.{DriftKept}
use Rattle.sd_monitors.proofs.clocks.Lives.{Reads, reads}
use Rattle.sd_monitors.proofs.clocks.Holding.{stands_reading}
use Rattle.sd_monitors.proofs.clocks.drift.DriftMonitor.read.Goals as goal

pub returns-clause-stands : goal.returns-clause-stands
returns-clause-stands c setting earlier s is stands may =
    let reading : Reading = record { reference = c.args.reference; counter = c.args.counter } in
    let read : Reads s.event c.args.device reading = reads s.event c.args.device reading is.reading in
    let life : Life = c.index_mut.result.now in
    let within : c.args.device < length c.self.inside.lives.items =
    subst (λ (kept : DriftKept). c.args.device < length kept.lives) (sym c.self.view_is) c.requires in
    stands_reading setting s c.args.device reading c.args.begins c.read-keeps.result life c.read-keeps.new.self c.args.self.now _ earlier
    read
    (record {
      begins_life = is.life;
      within = c.requires;
      held = ap (λ (kept : DriftKept). slice_get kept.lives c.args.device) (sym c.self.view_is)
          ∙ slice_get-get_or c.self.inside.lives.items c.args.device life within ∙ ap (λ (l : Life). Some l) (sym c.index_mut.ensures.value);
      rates = c.read-keeps.ensures.rates;
      offsets = c.read-keeps.ensures.offsets;
      judged = c.read-keeps.ensures.keeps;
      holds = ap (λ (kept : DriftKept). kept.holds && c.read-keeps.result) c.self.view_is;
      lives = ap (λ (kept : DriftKept). set kept.lives c.args.device c.read-keeps.new.self) c.self.view_is;
    }) stands may

pub returns-clause-holds : goal.returns-clause-holds
returns-clause-holds c setting earlier s is stands may = (returns-clause-stands c setting earlier s is stands may).holds
