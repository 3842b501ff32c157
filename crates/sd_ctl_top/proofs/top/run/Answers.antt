use Rattle.std.proofs.Common.{inl, map, refl, string_bytes}
use Rattle.sd_files.specs.declared.Status.TheVariants.{ShelfFault, SinkFault}
use Rattle.sd_files.specs.declared.command_error.IoError.TheVariants as stop
use Rattle.sd_record.proofs.merge.Laws.{feed_is_merged}
use Rattle.sd_record.proofs.Lawful.{log_is_recorded}
use Rattle.sd_ctl_top.specs.Words.{command_of}
use Rattle.sd_ctl_top.proofs.Reasoned.{reasons_are_right}
use Rattle.sd_ctl_top.proofs.Meeting.{ended_is, ended_rises, never_stopped, stopped_is, stopped_rises}
use Rattle.sd_ctl_top.proofs.top.run.Goals as goal

pub returns-in-Ok-clause-outcome : goal.returns-in-Ok-clause-outcome
returns-in-Ok-clause-outcome g c = ended_is _ _ _ _ c.in-Ok.status c.in-Ok.ensures.gives c.in-Ok.ensures.outcome

pub returns-in-Err-clause-outcome : goal.returns-in-Err-clause-outcome
returns-in-Err-clause-outcome g c = stopped_is _ _ _ _ c.in-Err.stop c.status.result c.status.ensures c.in-Err.ensures.outcome

pub returns-in-Ok-clause-shelf : goal.returns-in-Ok-clause-shelf
returns-in-Ok-clause-shelf g c =
    ended_rises (map string_bytes c.args.words.now) c.in-Ok.status ShelfFault _ _ _ c.in-Ok.ensures.gives refl (c.in-Ok.ensures.shelf.count.steady (λ e. cc))

pub returns-in-Ok-clause-sink : goal.returns-in-Ok-clause-sink
returns-in-Ok-clause-sink g c =
    ended_rises (map string_bytes c.args.words.now) c.in-Ok.status SinkFault _ _ _ c.in-Ok.ensures.gives refl (c.in-Ok.ensures.sink.steady (λ e. cc))

pub returns-in-Ok-clause-complete : goal.returns-in-Ok-clause-complete
returns-in-Ok-clause-complete g c =
    λ shelf sink. inl (never_stopped (command_of (map string_bytes c.args.words.now)) c.in-Ok.status c.in-Ok.ensures.gives)

pub returns-in-Err-clause-shelf : goal.returns-in-Err-clause-shelf
returns-in-Err-clause-shelf g c = stopped_rises c.in-Err.stop stop.Shelf c.status.result _ _ c.status.ensures c.in-Err.ensures.shelf.count

pub returns-in-Err-clause-sink : goal.returns-in-Err-clause-sink
returns-in-Err-clause-sink g c = stopped_rises c.in-Err.stop stop.Sink c.status.result _ _ c.status.ensures c.in-Err.ensures.sink

pub returns-in-Ok-clause-impossible : goal.returns-in-Ok-clause-impossible
returns-in-Ok-clause-impossible g c = reasons_are_right

pub returns-in-Err-clause-impossible : goal.returns-in-Err-clause-impossible
returns-in-Err-clause-impossible g c = reasons_are_right

pub returns-in-Ok-clause-lawful : goal.returns-in-Ok-clause-lawful
returns-in-Ok-clause-lawful g c = log_is_recorded

pub returns-in-Err-clause-lawful : goal.returns-in-Err-clause-lawful
returns-in-Err-clause-lawful g c = log_is_recorded

pub returns-in-Ok-clause-merged : goal.returns-in-Ok-clause-merged
returns-in-Ok-clause-merged g c = feed_is_merged

pub returns-in-Err-clause-merged : goal.returns-in-Err-clause-merged
returns-in-Err-clause-merged g c = feed_is_merged
