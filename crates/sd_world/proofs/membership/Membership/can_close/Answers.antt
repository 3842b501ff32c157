use Rattle.std.proofs.Common.{◌≡◌, true, sym, ap, ◌∙◌, Bool}
use Rattle.std.specs.Prelude.{◌&&◌, nat_le, nat_eq}
use Rattle.sd_world.specs.world.Registers.{is_committed}
use Rattle.sd_world.specs.membership.Memberships.{Registers, can_close_in}
use Rattle.sd_world.proofs.membership.Totals.{closes}
use Rattle.sd_world.proofs.membership.Membership.can_close.Goals as goal

pub returns-then-is_committed : goal.returns-then-is_committed
returns-then-is_committed c =
    let r : Registers = record { plans = c.self.inside.plans.items; world = c.self.inside.world; answers = c.self.inside.answers.items } in
    let committed : is_committed c.self.inside.world.window ≡ true = cc (c.is_committed.ensures, c.window.ensures, c.if-is_committed.true) in
    c.all_settled.ensures
    ∙ ap (λ (b : Bool). b && (nat_le 1 c.self.inside.settled_count.present && nat_eq c.self.inside.settled_count.settled c.self.inside.settled_count.present))
    (sym committed)
    ∙ closes r c.self.inside.settled_count c.self.invariant.counted
    ∙ ap can_close_in c.self.view_is
