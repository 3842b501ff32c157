use Rattle.std.proofs.Common.{ap, ◌∙◌}
use Rattle.sd_world.specs.world.Registers.{Registers}
use Rattle.sd_resume.specs.Fleets.{DeviceFleet, world_of}
use Rattle.sd_resume.proofs.command.Takings.{counted}
use Rattle.sd_resume.proofs.command.taking.count.Goals as goal

pub returns-clause-count : goal.returns-clause-count
returns-clause-count c =
    λ setting events played. c.events.ensures
    ∙ ap (λ (w : Registers). w.events) (c.world.ensures.world ∙ ap (λ (f : DeviceFleet). world_of f) c.fleet.ensures.lent)
    ∙ counted c.args.replay.now setting events played
