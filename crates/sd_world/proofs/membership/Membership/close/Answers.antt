use Rattle.std.proofs.Common.{◌≡◌}
use Rattle.sd_world.specs.membership.Memberships.{Registers, IsSound}
use Rattle.sd_world.specs.membership.Counts.{settled_count_of}
use Rattle.sd_world.proofs.membership.Observing.{membership_closed}
use Rattle.sd_world.proofs.membership.Membership.close.Goals as goal

pub invariant_of-self : goal.invariant_of-self
invariant_of-self c =
    let r : Registers = record { plans = c.self.inside.plans.items; world = c.self.inside.world; answers = c.self.inside.answers.items } in
    let new : Registers = record { plans = c.self.inside.plans.items; world = c.close.new.self; answers = c.self.inside.answers.items } in
    let kept : IsSound new × (c.none-self-inside.result ≡ settled_count_of new) =
    membership_closed c.args.self.now r new c.none-self-inside.result c.self.view_is c.requires c.self.invariant.sound
    (cc c.close.ensures.registers) c.none-self-inside.ensures
    in
    record { sound = kept.0; counted = kept.1 }
