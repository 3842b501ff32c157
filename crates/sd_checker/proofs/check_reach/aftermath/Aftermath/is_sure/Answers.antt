use Rattle.std.proofs.Common.{sym, ◌∙◌}
use Rattle.std.proofs.lemmas.Bool.{not-true}
use Rattle.sd_checker.specs.check_reach.Aftermaths.{net_of, plan_of, domain_of}
use Rattle.sd_plan.proofs.Rules.{keeps_rules}
use Rattle.sd_checker.proofs.check_reach.Joining.{sure_reaches, itself}
use Rattle.sd_checker.proofs.check_reach.aftermath.Aftermath.is_sure.Goals as goal

pub returns-then-d-self-clause-sure : goal.returns-then-d-self-clause-sure
returns-then-d-self-clause-sure c = λ equal.
    let o = c.args.self.now in
    itself (net_of o) (plan_of o) (domain_of o) c.args.d (c.if-d-self.true ∙ c.args.self.now.acts)

pub returns-then-trusted-clause-sure : goal.returns-then-trusted-clause-sure
returns-then-trusted-clause-sure c = λ unhit.
    let o = c.args.self.now in
    let net = net_of o in
    let index = c.args.self.now.outage.planned.is_index in
    sure_reaches net (plan_of o) (domain_of o) c.args.d index.fits index.structured
    (keeps_rules net (plan_of o) index.structured) c.requires.device c.requires.sound
    (sym c.hits.ensures ∙ not-true c.hits.result unhit) (c.requires.trust c.if-trusted.true)
