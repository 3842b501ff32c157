use Rattle.std.proofs.Common.{◌≡◌, ℕ, ◌<◌, ◌≤◌, false, length, sym, ◌∙◌, subst, inl, inr, arith}
use Rattle.std.proofs.lemmas.Bool.{cases_lt}
use Rattle.sd_plan.specs.topo.Network.{Network}
use Rattle.sd_plan.specs.topo.Topologies.{network}
use Rattle.sd_monitors.specs.renewal.Moments.{uses_failed}
use Rattle.sd_monitors.proofs.renewal.Ready.{failed_all, failed_some}
use Rattle.sd_monitors.proofs.renewal.moment.Moment.leaves_out_failed.Goals as goal

pub returns-then-uses_failed : goal.returns-then-uses_failed
returns-then-uses_failed c setting seen is =
    let within : c.loop-l.l < length (network c.args.self.now.topo.now).links = omega arith in
    sym (failed_some setting seen c.loop-l.l (subst (λ (n : Network). c.loop-l.l < length n.links) (sym is.net) within)
    (sym (c.uses_failed.ensures setting seen is) ∙ c.if-uses_failed.true))

pub loop-l-preserved : goal.loop-l-preserved
loop-l-preserved c setting seen is k within = elim (cases_lt k c.loop-l.l) [
  | inl less ↦ c.loop-l.invariant setting seen is k less
  | inr most ↦ (let same : c.loop-l.l ≡ k = omega (arith, within, most) in
      subst (λ (x : ℕ). uses_failed setting seen x ≡ false) same (sym (c.uses_failed.ensures setting seen is) ∙ c.if-uses_failed.false))
]

pub returns : goal.returns
returns c setting seen is =
    let past : length (network c.args.self.now.topo.now).links ≤ c.loop-l.l = omega arith in
    sym (failed_all setting seen
    (λ l within. c.loop-l.invariant setting seen is l (let known : l < length (network c.args.self.now.topo.now).links =
    subst (λ (n : Network). l < length n.links) is.net within in omega (arith, known, past))))
