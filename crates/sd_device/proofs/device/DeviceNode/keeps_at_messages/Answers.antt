use Rattle.std.proofs.Common.{◌≡◌, Bool, true, false, Option, Some, None, refl}
use Rattle.std.specs.Prelude.{is_some, not}
use Rattle.sd_plan.specs.declared.Duty.{Duty}
use Rattle.sd_device.proofs.Keeping.{settled_follows}
use Rattle.sd_device.proofs.device.DeviceNode.keeps_at_messages.Goals as goal

nothing_given : (given : Option Duty) (result : Bool) → result ≡ is_some given → not result ≡ true → given ≡ None
nothing_given None result is keeps = refl
nothing_given (Some duty) true is keeps = cc
nothing_given (Some duty) false is keeps = cc

pub returns-clause-parent : goal.returns-clause-parent
returns-clause-parent c =
    λ keeps link message counter effect new is.
    (settled_follows c.args.self.now link message counter effect new
    (nothing_given c.args.self.now.given c.is_given.result c.is_given.ensures.given keeps) is).parent

pub returns-clause-acts : goal.returns-clause-acts
returns-clause-acts c =
    λ keeps link message counter effect new is.
    (settled_follows c.args.self.now link message counter effect new
    (nothing_given c.args.self.now.given c.is_given.result c.is_given.ensures.given keeps) is).acts
