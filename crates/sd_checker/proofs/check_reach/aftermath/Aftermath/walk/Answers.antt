use Rattle.std.proofs.Common.{◌≡◌, ◌<◌, ◌≤◌, ◌+◌, ◌++◌, ℕ, true, false, List, [], ◌∷◌, length, Some, sym, ap, ◌∙◌, subst, arith, inl, inr}
use Rattle.std.proofs.lemmas.Bool.{not-true, not-false}
use Rattle.std.proofs.lemmas.List.{length_push}
use Rattle.std.proofs.lemmas.Map.Steps.{length-le_from_distinct_below}
use Rattle.sd_num.specs.Lists.{has}
use Rattle.sd_plan.specs.topo.Network.{Network}
use Rattle.sd_checker.specs.check_reach.Aftermaths.{net_of, plan_of, domain_of}
use Rattle.sd_plan.specs.declared.domain.DomainId.{DomainId}
use Rattle.sd_plan.specs.declared.Plan.{Plan}
use Rattle.sd_plan.specs.Plans.{Fits}
use Rattle.sd_plan.proofs.Rules.{KeepsRules, keeps_rules}
use Rattle.sd_checker.specs.check_reach.Reach.{next_hop}
use Rattle.sd_checker.specs.check_reach.Chains.{onward, IsChainTo, IsChainOf}
use Rattle.sd_num.proofs.Places.{has_cases}
use Rattle.sd_checker.proofs.check_reach.Turning.{next_right}
use Rattle.sd_checker.proofs.check_reach.Joining.{insert_old, insert_new}
use Rattle.sd_checker.proofs.check_reach.Chained.{onward_hop, stops, comes_round, chain_more, chain_stopped}
use Rattle.sd_checker.proofs.check_reach.aftermath.Aftermath.walk.Goals as goal

next_within : (net : Network) (plan : Plan) (domain : DomainId) (d next : ℕ) → Fits net plan → KeepsRules net plan → d < length net.devices
    → onward net plan domain d ≡ Some next → next < length net.devices
next_within net plan domain d next fits rules within is =
    let found = onward_hop net plan domain (next_hop plan d) next is in
    subst (λ x. x < length net.devices) found.3 (next_right net plan d found.0 fits rules within found.1).parent

all_within : (n : ℕ) (keys : List ℕ) (next : ℕ) → next < n → ((x : ℕ) → has keys x ≡ true → x < n) → (x : ℕ) → has (keys ++ next ∷ []) x ≡ true → x < n
all_within n keys next inside each x there = elim (has_cases keys next x there) [ inl before ↦ each x before | inr same ↦ subst (λ y. y < n) (sym same) inside ]

pub returns-then-not-insert : goal.returns-then-not-insert
returns-then-not-insert c =
    let o = c.args.self.now in
    let net = net_of o in
    let keys = c.loop-next.chain.numbers in
    let here = c.loop-next.here in
    let next = c.in-Some.next in
    let is : onward net (plan_of o) (domain_of o) here ≡ Some next = sym c.onward.ensures ∙ c.in-Some.is in
    let there : has keys next ≡ true = not-false (has keys next) (sym c.insert-in-Some.ensures.new ∙ c.if-not-insert.true) in
    subst (λ (xs : List ℕ). IsChainOf net (plan_of o) (domain_of o) c.args.first xs)
    (sym (ap (λ s. s.numbers) c.insert-in-Some.ensures.added ∙ insert_old keys next there))
    (chain_stopped net (plan_of o) (domain_of o) c.args.first here keys c.loop-next.invariant.known
    (comes_round net (plan_of o) (domain_of o) (next_hop (plan_of o) here) keys next is there))

pub insert-requires-in-Some : goal.insert-requires-in-Some
insert-requires-in-Some c =
    let o = c.args.self.now in
    let net = net_of o in
    let index = c.args.self.now.outage.planned.is_index in
    let inside : c.in-Some.next < length net.devices =
    next_within net (plan_of o) (domain_of o) c.loop-next.here c.in-Some.next index.fits
    (keeps_rules net (plan_of o) index.structured) c.loop-next.invariant.device (sym c.onward.ensures ∙ c.in-Some.is)
    in
    omega (arith, c.loop-next.invariant.room)

pub loop-next-smaller : goal.loop-next-smaller
loop-next-smaller c =
    let o = c.args.self.now in
    let net = net_of o in
    let index = c.args.self.now.outage.planned.is_index in
    let rules = keeps_rules net (plan_of o) index.structured in
    let keys = c.loop-next.chain.numbers in
    let here = c.loop-next.here in
    let next = c.in-Some.next in
    let new = c.insert-in-Some.new.self.numbers in
    let is : onward net (plan_of o) (domain_of o) here ≡ Some next = sym c.onward.ensures ∙ c.in-Some.is in
    let out : has keys next ≡ false = not-true (has keys next) (sym c.insert-in-Some.ensures.new ∙ c.if-not-insert.false) in
    let longer : new ≡ keys ++ next ∷ [] = ap (λ s. s.numbers) c.insert-in-Some.ensures.added ∙ insert_new keys next out in
    let inside : next < length net.devices = next_within net (plan_of o) (domain_of o) here next index.fits rules c.loop-next.invariant.device is in
    let each : (x : ℕ) → has new x ≡ true → x < length net.devices =
    λ x there. all_within (length net.devices) keys next inside c.loop-next.invariant.within x (subst (λ (xs : List ℕ). has xs x ≡ true) longer there) in
    let size : length new ≡ length keys + 1 = ap length longer ∙ length_push keys next in
    let few : length new ≤ length net.devices = length-le_from_distinct_below new (length net.devices) c.insert-in-Some.ensures.distinct each in
    omega arith

pub loop-next-preserved : goal.loop-next-preserved
loop-next-preserved c =
    let o = c.args.self.now in
    let net = net_of o in
    let index = c.args.self.now.outage.planned.is_index in
    let rules = keeps_rules net (plan_of o) index.structured in
    let keys = c.loop-next.chain.numbers in
    let here = c.loop-next.here in
    let next = c.in-Some.next in
    let new = c.insert-in-Some.new.self.numbers in
    let is : onward net (plan_of o) (domain_of o) here ≡ Some next = sym c.onward.ensures ∙ c.in-Some.is in
    let out : has keys next ≡ false = not-true (has keys next) (sym c.insert-in-Some.ensures.new ∙ c.if-not-insert.false) in
    let longer : new ≡ keys ++ next ∷ [] = ap (λ s. s.numbers) c.insert-in-Some.ensures.added ∙ insert_new keys next out in
    let inside : next < length net.devices = next_within net (plan_of o) (domain_of o) here next index.fits rules c.loop-next.invariant.device is in
    record {
      known = subst (λ (xs : List ℕ). IsChainTo net (plan_of o) (domain_of o) c.args.first next xs) (sym longer)
          (chain_more net (plan_of o) (domain_of o) c.args.first here next keys c.loop-next.invariant.known is out);
      device = inside;
      within = λ x there. all_within (length net.devices) keys next inside c.loop-next.invariant.within x
          (subst (λ (xs : List ℕ). has xs x ≡ true) longer there);
      distinct = c.insert-in-Some.ensures.distinct;
      room = ap (λ s. s.bound) c.insert-in-Some.ensures.added ∙ c.loop-next.invariant.room;
    }

pub returns : goal.returns
returns c =
    let o = c.args.self.now in
    let net = net_of o in
    let here = c.loop-next.here in
    chain_stopped net (plan_of o) (domain_of o) c.args.first here c.loop-next.chain.numbers c.loop-next.invariant.known
    (stops net (plan_of o) (domain_of o) (next_hop (plan_of o) here) c.loop-next.chain.numbers (sym c.onward.ensures ∙ c.in_default.is))
