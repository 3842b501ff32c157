use Rattle.std.specs.Prelude.{◌≡◌, ℕ, false, List, Option, Some, None, slice_get}
use Rattle.std.proofs.Common.{sym, subst, ◌∙◌, ap}
use Rattle.sd_checker.specs.check_reach.Aftermaths.{net_of, plan_of, domain_of}
use Rattle.sd_plan.specs.domain.Domains.{holds_device}
use Rattle.sd_plan.proofs.Rules.{keeps_rules}
use Rattle.sd_checker.specs.check_reach.Reach.{acting_end}
use Rattle.sd_checker.specs.check_reach.Reached.{AreAll, FirstReached}
use Rattle.sd_checker.specs.check_reach.Candidates.{AreDecided, IsUnheard}
use Rattle.sd_checker.proofs.check_reach.Chosen.{unheard_within, reach_holds, chain_shown}
use Rattle.sd_checker.proofs.check_reach.aftermath.Aftermath.reach_breach.Goals as goal

pub first_uncut-requires-clause-devices : goal.first_uncut-requires-clause-devices
first_uncut-requires-clause-devices c = λ i d at.
    let o = c.args.self.now in
    let net = net_of o in
    let index = c.args.self.now.outage.planned.is_index in
    unheard_within net (plan_of o) (domain_of o) d index.fits (keeps_rules net (plan_of o) index.structured)
    (c.in_ok-unheard.ensures.all.each i d (subst (λ (xs : List ℕ). slice_get xs i ≡ Some d) c.as_slice.ensures at))

pub first_uncut-requires-clause-sound : goal.first_uncut-requires-clause-sound
first_uncut-requires-clause-sound c = λ i d at.
    (c.in_ok-unheard.ensures.all.each i d (subst (λ (xs : List ℕ). slice_get xs i ≡ Some d) c.as_slice.ensures at)).sound

pub returns-in_default-clause-shown : goal.returns-in_default-clause-shown
returns-in_default-clause-shown c =
    let o = c.args.self.now in
    let net = net_of o in
    let candidates = c.as_slice.result.now in
    let none : FirstReached net (plan_of o) (domain_of o) candidates None =
    subst (λ (x : Option ℕ). FirstReached net (plan_of o) (domain_of o) candidates x) c.in_default.is c.first_uncut.ensures.first in
    reach_holds net (plan_of o) (domain_of o) candidates
    (subst (λ (xs : List ℕ). AreDecided net (plan_of o) (domain_of o) xs) (sym c.as_slice.ensures) c.in_ok-unheard.ensures.decided) none

pub chain-requires : goal.chain-requires
chain-requires c =
    let o = c.args.self.now in
    let net = net_of o in
    let index = c.args.self.now.outage.planned.is_index in
    let candidates = c.as_slice.result.now in
    let first = c.in-Some.first in
    let found : FirstReached net (plan_of o) (domain_of o) candidates (Some first) =
    subst (λ (x : Option ℕ). FirstReached net (plan_of o) (domain_of o) candidates x) c.in-Some.is c.first_uncut.ensures.first in
    let all : AreAll (IsUnheard net (plan_of o) (domain_of o)) candidates =
    subst (λ (xs : List ℕ). AreAll (IsUnheard net (plan_of o) (domain_of o)) xs) (sym c.as_slice.ensures) c.in_ok-unheard.ensures.all in
    unheard_within net (plan_of o) (domain_of o) first index.fits (keeps_rules net (plan_of o) index.structured) (all.each found.0 first found.1)

pub returns-clause-shown : goal.returns-clause-shown
returns-clause-shown c =
    let o = c.args.self.now in
    let net = net_of o in
    let candidates = c.as_slice.result.now in
    let first = c.in-Some.first in
    let left : holds_device net (domain_of o) (acting_end net (plan_of o) (domain_of o)) ≡ false =
    ap (holds_device net (domain_of o)) (sym c.args.self.now.acts) ∙ c.args.self.now.left in
    let found : FirstReached net (plan_of o) (domain_of o) candidates (Some first) =
    subst (λ (x : Option ℕ). FirstReached net (plan_of o) (domain_of o) candidates x) c.in-Some.is c.first_uncut.ensures.first in
    let all : AreAll (IsUnheard net (plan_of o) (domain_of o)) candidates =
    subst (λ (xs : List ℕ). AreAll (IsUnheard net (plan_of o) (domain_of o)) xs) (sym c.as_slice.ensures) c.in_ok-unheard.ensures.all in
    chain_shown net (plan_of o) (domain_of o) candidates first c.in_ok-chain.chain left all found c.in_ok-chain.ensures
