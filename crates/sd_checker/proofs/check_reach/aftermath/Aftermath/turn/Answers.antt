use Rattle.std.proofs.Common.{refl, sym, ◌∙◌}
use Rattle.std.proofs.lemmas.Bool.{not_from_false}
use Rattle.sd_checker.specs.check_reach.Aftermaths.{net_of, plan_of, domain_of}
use Rattle.sd_plan.proofs.Rules.{keeps_rules}
use Rattle.sd_checker.specs.check_reach.Reach.{stands_by, spared}
use Rattle.sd_checker.proofs.check_reach.Walked.{hit_device}
use Rattle.sd_checker.proofs.check_reach.Turning.{next_right, hit_sound, parent_sound, turns_fed, held_by}
use Rattle.sd_checker.proofs.check_reach.aftermath.Aftermath.turn.Goals as goal

pub returns-then-d-self : goal.returns-then-d-self
returns-then-d-self c =
    let o = c.args.self.now in
    let net = net_of o in
    let index = c.args.self.now.outage.planned.is_index in
    stands_by (hit_sound net (plan_of o) (domain_of o) index.fits
    (keeps_rules net (plan_of o) index.structured) c.args.d c.requires (sym c.holds_device.ensures ∙ c.if-holds_device.false)) c.if-d-self.true

pub next_hop-requires : goal.next_hop-requires
next_hop-requires c =
    let o = c.args.self.now in
    let net = net_of o in
    let index = c.args.self.now.outage.planned.is_index in
    (hit_device net (plan_of o) (domain_of o) c.args.d index.fits (keeps_rules net (plan_of o) index.structured) c.requires).within

pub place_of-requires : goal.place_of-requires
place_of-requires c =
    let o = c.args.self.now in
    let net = net_of o in
    let index = c.args.self.now.outage.planned.is_index in
    let rules = keeps_rules net (plan_of o) index.structured in
    let within = (hit_device net (plan_of o) (domain_of o) c.args.d index.fits rules c.requires).within in
    (next_right net (plan_of o) c.args.d c.in-Some.hop index.fits rules within (sym c.next_hop.ensures ∙ c.in-Some.is)).parent

pub returns-in-Some-place_of : goal.returns-in-Some-place_of
returns-in-Some-place_of c =
    let o = c.args.self.now in
    let net = net_of o in
    let index = c.args.self.now.outage.planned.is_index in
    let rules = keeps_rules net (plan_of o) index.structured in
    let hop = c.in-Some.hop in
    let is = sym c.next_hop.ensures ∙ c.in-Some.is in
    let out = sym c.holds_device.ensures ∙ c.if-holds_device.false in
    let left = sym c.leaves.ensures ∙ c.if-not-leaves.false in (
      hop.parent,
      c.in-Some-place_of.ensures,
      turns_fed net (plan_of o) (domain_of o) index.fits rules c.args.d hop c.requires out is left,
      held_by net (plan_of o) (domain_of o) index.fits rules c.args.d hop hop.parent c.if-d-self.false is refl,
    )

pub returns-in-None : goal.returns-in-None
returns-in-None c =
    let o = c.args.self.now in
    let net = net_of o in
    let index = c.args.self.now.outage.planned.is_index in
    let rules = keeps_rules net (plan_of o) index.structured in
    let within = (hit_device net (plan_of o) (domain_of o) c.args.d index.fits rules c.requires).within in
    let hop = c.in-Some.hop in
    let is = sym c.next_hop.ensures ∙ c.in-Some.is in
    let out = sym c.holds_device.ensures ∙ c.if-holds_device.false in
    let left = sym c.leaves.ensures ∙ c.if-not-leaves.false in
    turns_fed net (plan_of o) (domain_of o) index.fits rules c.args.d hop c.requires out is left
    (spared (parent_sound net (plan_of o) (domain_of o) index.fits rules c.args.d hop within is left) (not_from_false _ c.in-None.ensures))
