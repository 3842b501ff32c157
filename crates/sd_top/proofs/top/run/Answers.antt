use Rattle.std.proofs.Common.{map, refl, string_bytes}
use Rattle.sd_files.specs.declared.Status.TheVariants.{ShelfFault, SinkFault}
use Rattle.sd_top.proofs.Bounds.{meets_bounds}
use Rattle.sd_top.proofs.Headlines.{meets_headline}
use Rattle.sd_top.proofs.Holding.{keeps_promise}
use Rattle.sd_top.proofs.Lawful as lawful
use Rattle.sd_top.proofs.Performing.{ended_meets, err_shelf, err_sink, ok_rises, stopped_meets}
use Rattle.sd_top.proofs.top.run.Goals as goal

pub returns-in-Ok-clause-outcome : goal.returns-in-Ok-clause-outcome
returns-in-Ok-clause-outcome g c = ended_meets _ _ _ _ c.in-Ok.status c.in-Ok.ensures.gives c.in-Ok.ensures.outcome

pub returns-in-Ok-clause-promise : goal.returns-in-Ok-clause-promise
returns-in-Ok-clause-promise g c = keeps_promise _ _

pub returns-in-Ok-clause-headline : goal.returns-in-Ok-clause-headline
returns-in-Ok-clause-headline g c = meets_headline _ _ _ _ c.in-Ok.status (ended_meets _ _ _ _ c.in-Ok.status c.in-Ok.ensures.gives c.in-Ok.ensures.outcome)

pub returns-in-Ok-clause-bounds : goal.returns-in-Ok-clause-bounds
returns-in-Ok-clause-bounds g c = meets_bounds _ _

pub returns-in-Ok-clause-laws : goal.returns-in-Ok-clause-laws
returns-in-Ok-clause-laws g c = lawful.laws

pub returns-in-Err-clause-outcome : goal.returns-in-Err-clause-outcome
returns-in-Err-clause-outcome g c = stopped_meets _ _ _ _ c.in-Err.stop c.status.result c.status.ensures c.in-Err.ensures.outcome

pub returns-in-Err-clause-promise : goal.returns-in-Err-clause-promise
returns-in-Err-clause-promise g c = keeps_promise _ _

pub returns-in-Err-clause-headline : goal.returns-in-Err-clause-headline
returns-in-Err-clause-headline g c =
    meets_headline _ _ _ _ c.status.result (stopped_meets _ _ _ _ c.in-Err.stop c.status.result c.status.ensures c.in-Err.ensures.outcome)

pub returns-in-Err-clause-bounds : goal.returns-in-Err-clause-bounds
returns-in-Err-clause-bounds g c = meets_bounds _ _

pub returns-in-Err-clause-laws : goal.returns-in-Err-clause-laws
returns-in-Err-clause-laws g c = lawful.laws

pub returns-in-Ok-clause-shelf : goal.returns-in-Ok-clause-shelf
returns-in-Ok-clause-shelf g c =
    ok_rises (map string_bytes c.args.words.now) c.in-Ok.status ShelfFault _ _ _ c.in-Ok.ensures.gives refl (c.in-Ok.ensures.shelf.count.steady (λ e. cc))

pub returns-in-Ok-clause-sink : goal.returns-in-Ok-clause-sink
returns-in-Ok-clause-sink g c =
    ok_rises (map string_bytes c.args.words.now) c.in-Ok.status SinkFault _ _ _ c.in-Ok.ensures.gives refl (c.in-Ok.ensures.sink.steady (λ e. cc))

pub returns-in-Err-clause-shelf : goal.returns-in-Err-clause-shelf
returns-in-Err-clause-shelf g c = err_shelf c.in-Err.stop c.status.result _ _ c.status.ensures c.in-Err.ensures.shelf.count

pub returns-in-Err-clause-sink : goal.returns-in-Err-clause-sink
returns-in-Err-clause-sink g c = err_sink c.in-Err.stop c.status.result _ _ c.status.ensures c.in-Err.ensures.sink
