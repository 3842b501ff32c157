use Rattle.sd_replay.proofs.judging.judge.Goals as goal

pub observe-requires : goal.observe-requires
observe-requires c = c.requires

pub returns-clause-stands : goal.returns-clause-stands
returns-clause-stands c = c.observe.ensures.stands

pub returns-clause-breaks : goal.returns-clause-breaks
returns-clause-breaks c = c.observe.ensures.breaks
