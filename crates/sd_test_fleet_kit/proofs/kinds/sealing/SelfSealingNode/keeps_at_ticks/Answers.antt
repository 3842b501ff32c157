use Rattle.sd_test_fleet_kit.proofs.kinds.sealing.SelfSealingNode.keeps_at_ticks.Goals as goal

pub returns-clause-parent : goal.returns-clause-parent
returns-clause-parent c = λ keeps counter effect new is. c.keeps_at_ticks.ensures.parent keeps counter effect new.device is

pub returns-clause-acts : goal.returns-clause-acts
returns-clause-acts c = λ keeps counter effect new is. c.keeps_at_ticks.ensures.acts keeps counter effect new.device is
