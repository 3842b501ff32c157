use Rattle.sd_record.proofs.Noting.{has_noted}
use Rattle.sd_record.proofs.recorder.Recorder.look_at.Goals as goal

pub returns-clause-noted : goal.returns-clause-noted
returns-clause-noted c =
    has_noted c.args.number c.in-Ok.flight c.args.found.now c.args.self.now c.add.new.self c.add-2.new.self c.name_of-name.result c.add-2.result c.in-Ok.is
    c.name_of-name.ensures c.in_ok-add.ensures.added c.in_ok-add.ensures.kept c.in_ok-add.ensures.only c.add-2.ensures.added c.add-2.ensures.kept
    c.add-2.ensures.only
