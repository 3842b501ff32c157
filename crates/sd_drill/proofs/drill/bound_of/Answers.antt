use Rattle.std.proofs.Common.{◌∙◌, ℕ, Option, Some, sym, subst}
use Rattle.sd_checker.specs.check_hit.Outages.{net_of, plan_of}
use Rattle.sd_drill.specs.Spared.{IsSparedBound}
use Rattle.sd_drill.proofs.drill.bound_of.Goals as goal

pub returns-in-Some : goal.returns-in-Some
returns-in-Some c =
    let o = c.args.outage.now in
    let can = c.requires.can in
    let known : IsSparedBound (net_of o) (plan_of o) c.args.times.budget c.args.d (Some c.in-Some.bound) =
    subst (λ (found : Option ℕ). IsSparedBound (net_of o) (plan_of o) c.args.times.budget c.args.d found) (sym c.get.ensures ∙ c.in-Some.is)
    (can.known.spared.each c.args.d) in
    record { bound = known o.domain (sym c.is_spared.ensures ∙ c.if-not-is_spared.false); known = can.known; ready = can.ready }
