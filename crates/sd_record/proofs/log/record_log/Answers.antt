use Rattle.std.proofs.Common.{ap, refl, subst, sym, []}
use Rattle.sd_plan.specs.topo.Topologies.{network}
use Rattle.sd_history.specs.World.{Setting, setting_over}
use Rattle.sd_record.specs.Standing.{StandsFor}
use Rattle.sd_record.specs.Works.{record_work}
use Rattle.sd_record.specs.declared.recorder.Recorder.{Recorder}
use Rattle.sd_record.specs.declared.work.Recording.{Recording}
use Rattle.sd_record.proofs.Working.{does_nothing_yet, record_whole}
use Rattle.sd_record.proofs.log.record_log.Goals as goal

pub returns-clause-outcome : goal.returns-clause-outcome
returns-clause-outcome g c =
    let setting : Setting = setting_over (network c.args.topo.now) c.args.plans.now in
    c.go_through.ensures.outcome (record_work setting)
    (does_nothing_yet c.new-work.result setting (ap (λ (r : Recording). r.refused) c.new-work.ensures) (ap (λ (r : Recording). r.ended) c.new-work.ensures)
    (subst (λ (r : Recorder). StandsFor r setting []) (sym (ap (λ (r : Recording). r.recorder) c.new-work.ensures)) (c.in_ok-recorder.ensures setting refl refl)))
    (record_whole setting)
