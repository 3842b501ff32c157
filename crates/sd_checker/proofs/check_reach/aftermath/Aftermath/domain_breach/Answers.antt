use Rattle.std.specs.Prelude.{◌≡◌, ℕ, false, List, Some, slice_get}
use Rattle.std.proofs.Common.{sym, subst, ◌∙◌, ap}
use Rattle.sd_checker.specs.check_reach.Aftermaths.{net_of, plan_of, domain_of}
use Rattle.sd_plan.specs.domain.Domains.{holds_device}
use Rattle.sd_plan.proofs.Rules.{keeps_rules}
use Rattle.sd_checker.specs.check_reach.Reach.{acting_end}
use Rattle.sd_checker.specs.check_reach.Reached.{AreAll}
use Rattle.sd_checker.specs.check_reach.Candidates.{IsLosing}
use Rattle.sd_checker.proofs.check_reach.Walked.{hit_device}
use Rattle.sd_checker.proofs.check_reach.Chosen.{domain_shown}
use Rattle.sd_checker.proofs.check_reach.aftermath.Aftermath.domain_breach.Goals as goal

pub first_uncut-requires-clause-devices : goal.first_uncut-requires-clause-devices
first_uncut-requires-clause-devices c = λ i d at.
    let o = c.args.self.now in
    let net = net_of o in
    let index = c.args.self.now.outage.planned.is_index in
    let losing = c.in_ok-losing.ensures.each i d (subst (λ (xs : List ℕ). slice_get xs i ≡ Some d) c.as_slice.ensures at) in
    (hit_device net (plan_of o) (domain_of o) d index.fits (keeps_rules net (plan_of o) index.structured) losing.hit).within

pub first_uncut-requires-clause-sound : goal.first_uncut-requires-clause-sound
first_uncut-requires-clause-sound c = λ i d at.
    (c.in_ok-losing.ensures.each i d (subst (λ (xs : List ℕ). slice_get xs i ≡ Some d) c.as_slice.ensures at)).sound

pub returns-clause-shown : goal.returns-clause-shown
returns-clause-shown c =
    let o = c.args.self.now in
    let net = net_of o in
    let left : holds_device net (domain_of o) (acting_end net (plan_of o) (domain_of o)) ≡ false =
    ap (holds_device net (domain_of o)) (sym c.args.self.now.acts) ∙ c.args.self.now.left in
    domain_shown net (plan_of o) (domain_of o) c.as_slice.result.now c.first_uncut.result left
    (subst (λ (xs : List ℕ). AreAll (IsLosing net (plan_of o) (domain_of o)) xs) (sym c.as_slice.ensures) c.in_ok-losing.ensures) c.first_uncut.ensures.first
